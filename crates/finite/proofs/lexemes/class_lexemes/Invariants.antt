-- What is noted of the classes before the next.
use Rattle.finite.specs.Found.{NotedTo}
use Rattle.finite.proofs.lexemes.class_lexemes.Given as goal

abbrev pub invariant-loop-n : goal.invariant-loop-n
invariant-loop-n l = NotedTo l.g l.n l.lexemes
