-- What is found so far derives a text.
use Rattle.finite.specs.Found.{Sound}
use Rattle.finite.proofs.grammar_finite.Given as goal

abbrev pub invariant-loop-back : goal.invariant-loop-back
invariant-loop-back l = Sound l.g l.found
