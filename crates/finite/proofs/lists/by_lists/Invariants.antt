-- What is found stays sound.
use Rattle.finite.specs.Found.{Grown}
use Rattle.finite.proofs.lists.by_lists.Given as goal

abbrev pub invariant-loop : goal.invariant-loop
invariant-loop l = Grown l.g l.initial.found l.found
