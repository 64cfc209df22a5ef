use native.Mathlib.Omega.{arith}
use Rattle.stream.proofs.PartsLaws.{turn}
use Rattle.stream.proofs.TextCopyLaws.{copying_start, copying_room, copying_next, copying_end}
use Rattle.stream.proofs.text.copy_parts.Goals as goal

pub loop-part-init : goal.loop-part-init
loop-part-init c =
    let all = c.parts_of-part-items.ensures in
    rw c.into_iter-part-iterator.ensures.into_iter_gives (all.0, rw all.1 (copying_start _ _ _ c.requires))

pub slice_bounds-copy_into-count : goal.slice_bounds-copy_into-count
slice_bounds-copy_into-count c =
    let inv = c.loop-part.invariant.1 in
    omega (arith, inv.count, inv.fits, inv.long)

pub copy_into-requires : goal.copy_into-requires
copy_into-requires c =
    let now = turn _ _ _ _ c.loop-part.invariant.0 c.in-Some.ensures.steps in
    copying_room _ _ _ _ _ _ _ c.loop-part.invariant.1 now.part

pub overflow_add-done : goal.overflow_add-done
overflow_add-done c =
    let now = turn _ _ _ _ c.loop-part.invariant.0 c.in-Some.ensures.steps in
    omega (arith, copying_room _ _ _ _ _ _ _ c.loop-part.invariant.1 now.part)

pub loop-part-preserved : goal.loop-part-preserved
loop-part-preserved c =
    let now = turn _ _ _ _ c.loop-part.invariant.0 c.in-Some.ensures.steps in
    (now.stream, copying_next _ _ _ _ _ _ _ _ _ c.loop-part.invariant.1 now.part c.copy_into.ensures now.rest)

pub returns : goal.returns
returns c = copying_end _ _ _ _ _ _ c.loop-part.invariant.1 (omega (arith, c.in-None.ensures.steps))
