use native.Mathlib.Omega.{arith}
use Rattle.stream.specs.Text.{room}
use Rattle.stream.proofs.TextLaws.{rest_past, rest_last, rest_next}
use Rattle.stream.proofs.text.text_rest.Goals as goal

pub returns-then-s-at : goal.returns-then-s-at
returns-then-s-at c = rest_past _ _ c.if-s-at.true

pub returns-then-t-here : goal.returns-then-t-here
returns-then-t-here c = rest_last _ _ (omega arith)

pub overflow_add-result : goal.overflow_add-result
unfolding room
overflow_add-result c = omega arith

pub overflow_add-result-2 : goal.overflow_add-result-2
unfolding room
overflow_add-result-2 c = omega arith

pub returns : goal.returns
returns c = rest_next _ _ _ c.room_at-here.ensures c.if-t-here.false
