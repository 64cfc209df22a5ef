use Rattle.lexeme.proofs.MixedLaws.{Mixing}
use Rattle.lexeme.proofs.runs.mixed.Given as goal

abbrev pub invariant-loop-i : goal.invariant-loop-i
invariant-loop-i l = Mixing l.set l.part l.from l.i l.lead l.leads l.words
