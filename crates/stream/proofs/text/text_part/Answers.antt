use native.Mathlib.Omega.{arith}
use Rattle.stream.specs.Text.{room}
use Rattle.stream.proofs.TextLaws.{part_past, part_here}
use Rattle.stream.proofs.text.text_part.Goals as goal

pub returns-then-s-at : goal.returns-then-s-at
returns-then-s-at c = part_past _ _ c.if-s-at.true

pub overflow_add-at : goal.overflow_add-at
unfolding room
overflow_add-at c = omega arith

pub returns : goal.returns
returns c = part_here _ _ _ _ (rw c.room_at.ensures at c.min.ensures) c.min-end.ensures
