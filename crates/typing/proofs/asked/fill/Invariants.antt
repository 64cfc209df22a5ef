-- The rows of the productions passed are in, and a later row begins after they end. Assumes nothing.
use mathlib.Core.Path.{◌≡◌}
use lib.ListN.{length}
use Rattle.typing.proofs.FillLaws.{Rows}
use Rattle.typing.proofs.asked.fill.Given as goal

abbrev pub invariant-loop-h : goal.invariant-loop-h
invariant-loop-h l = (length l.asked ≡ 8064) × (Rows l.g l.asked l.h-index)
