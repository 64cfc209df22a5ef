-- The bits so far and the productions from the next on make up the nonterminals that exist.
use native.Mathlib.Omega.{arith}
use Rattle.limits.proofs.BitLaws.{marking_start, marking_next, marking_done}
use Rattle.limits.proofs.nonterminals.nonterminals.Goals as goal

pub loop-p-init : goal.loop-p-init
loop-p-init c = marking_start _ _ c.requires.productions_are

pub loop-p-preserved : goal.loop-p-preserved
loop-p-preserved c = marking_next _ _ _ _ _ _ c.loop-p.invariant c.loop-p-test.true c.fetch-head.ensures.b (omega arith) c.mark.ensures

pub returns : goal.returns
returns c = marking_done _ _ _ _ c.loop-p.invariant c.loop-p-test.false
