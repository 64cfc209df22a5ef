-- What stands in the row, with what is left to put in, is the whole row; and it ends before the element that is read. Assumes nothing.
use Rattle.typing.proofs.FillLaws.{Filling}
use Rattle.typing.proofs.asked.put_row.Given as goal

abbrev pub invariant-loop-i : goal.invariant-loop-i
invariant-loop-i l = Filling l.g l.q l.n l.initial.asked l.asked l.e l._i l.count
