-- What the turns so far have tried.
use Rattle.finite.proofs.FoundLaws.{Rounding}
use Rattle.finite.proofs.round.Given as goal

abbrev pub invariant-loop-turn : goal.invariant-loop-turn
invariant-loop-turn l = Rounding l.g l.productions l.initial.found l.back l.found l.more l.turn
