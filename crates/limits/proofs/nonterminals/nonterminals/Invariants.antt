-- The bits so far and the productions from the next on make up the nonterminals that exist.
use Rattle.limits.proofs.BitLaws.{Marking}
use Rattle.limits.proofs.nonterminals.nonterminals.Given as goal

abbrev pub invariant-loop-p : goal.invariant-loop-p
invariant-loop-p l = Marking l.g l.productions l.bits l.p-index
