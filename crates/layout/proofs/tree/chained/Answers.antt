use Rattle.std.proofs.Common.{sym, ◌∙◌, arith}
use Rattle.layout.proofs.CommonLaws.{reach}
use Rattle.layout.proofs.TreeTurns.{chain_done, chain_stop, chain_go, chains_on}
use Rattle.layout.proofs.tree.chained.Goals as goal

pub returns-in_default : goal.returns-in_default
returns-in_default c = sym (chain_stop _ _ _ _ _ c.loop-test.true c.in_default.ensures) ∙ c.loop.invariant.1

pub forward-here-requires : goal.forward-here-requires
forward-here-requires c = reach _ c.loop.invariant.0.place_is (omega (arith, c.loop.invariant.0.within.near)) (omega (arith, c.in-Some.ensures.small))

pub loop-preserved : goal.loop-preserved
loop-preserved c = (chains_on c.loop.invariant.0 c.in-Some.ensures (c.forward-here.ensures _ c.loop.invariant.0.place_is), sym (chain_go _ _ _ _ _ c.loop-test.true c.in-Some.ensures.before _ c.in-Some.ensures.size_is c.in-Some.ensures.some) ∙ c.loop.invariant.1)

pub returns : goal.returns
returns c = sym (chain_done _ _ _ _ _ c.loop-test.false) ∙ c.loop.invariant.1
