-- What is found stays sound.
use Rattle.finite.specs.Found.{Grown}
use Rattle.finite.proofs.lists.begin.Given as goal

abbrev pub invariant-loop-k : goal.invariant-loop-k
invariant-loop-k l = Grown l.g l.initial.found l.found
