use Rattle.walk.proofs.MarkLaws.{Marking}
use Rattle.walk.proofs.tables.mark.Given as goal

abbrev pub invariant-loop-class : goal.invariant-loop-class
invariant-loop-class l = Marking l.g l.initial.classes l.classes l.class-index
