use Rattle.lexeme.proofs.ClassLaws.{SetFilling}
use Rattle.lexeme.proofs.sets.class_set.Given as goal

abbrev pub invariant-loop-k : goal.invariant-loop-k
invariant-loop-k l = SetFilling l.g l.p l.k-end l.first l.k l.set
