-- So many rounds have found what so many rounds of the definition find.
use Rattle.finite.proofs.FoundLaws.{Rounds}
use Rattle.finite.proofs.rounds.Given as goal

abbrev pub invariant-loop : goal.invariant-loop
invariant-loop l = Rounds l.g l.found l.counter
