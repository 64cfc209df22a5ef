use native.Mathlib.Omega.{arith}
use Rattle.stream.proofs.PartsLaws.{turn}
use Rattle.entities.proofs.EscapeLaws.{writing_start, writing_room, writing_next, writing_end}
use Rattle.entities.proofs.escape.escape_parts.Goals as goal

pub loop-part-init : goal.loop-part-init
loop-part-init c = let all = c.parts_of-part-items.ensures in rw c.into_iter-part-iterator.ensures.into_iter_gives (all.0, rw all.1 (writing_start _ _ _ c.requires))

pub escape_part-done-requires : goal.escape_part-done-requires
escape_part-done-requires c =
    let now = turn _ _ _ _ c.loop-part.invariant.0 c.in-Some.ensures.steps in
    writing_room c.loop-part.invariant.1 now.rest now.part

pub loop-part-preserved : goal.loop-part-preserved
loop-part-preserved c =
    let now = turn _ _ _ _ c.loop-part.invariant.0 c.in-Some.ensures.steps in
    (now.stream, writing_next c.loop-part.invariant.1 now.rest now.part c.escape_part-done.ensures)

pub returns : goal.returns
returns c = writing_end c.loop-part.invariant.1 (omega (arith, c.in-None.ensures.steps))
