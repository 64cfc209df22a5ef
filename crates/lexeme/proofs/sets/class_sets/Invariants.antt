use Rattle.lexeme.proofs.ClassLaws.{Compiling}
use Rattle.lexeme.proofs.sets.class_sets.Given as goal

abbrev pub invariant-loop-n : goal.invariant-loop-n
invariant-loop-n l = Compiling l.g l.classes l.initial.sets l.sets l.n
