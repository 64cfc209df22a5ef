use native.Mathlib.Omega.{arith}
use native.Mathlib.Nat.{zero-add, le_refl}
use Rattle.stream.proofs.PartsLaws.{turn}
use Rattle.entities.proofs.EscapeLaws.{lengths_add, lengths_end, escaped_small}
use Rattle.entities.proofs.escape.escaped_len.Goals as goal

pub loop-part-init : goal.loop-part-init
loop-part-init c = let all = c.parts_of-part-items.ensures in rw c.into_iter-part-iterator.ensures.into_iter_gives (all.0, rw all.1 (le_refl _), rw all.1 (zero-add _))

pub overflow_add-n : goal.overflow_add-n
overflow_add-n c =
    let now = turn _ _ _ _ c.loop-part.invariant.0 c.in-Some.ensures.steps in
    omega (arith, lengths_add _ _ _ _ now.rest now.part c.loop-part.n c.part_len-n.result _ c.loop-part.invariant.2 c.part_len-n.ensures, escaped_small c.args.s.now c.args.t c.requires)

pub loop-part-preserved : goal.loop-part-preserved
loop-part-preserved c =
    let now = turn _ _ _ _ c.loop-part.invariant.0 c.in-Some.ensures.steps in
    (now.stream, omega (arith, c.loop-part.invariant.1, now.rest.falls c.in-Some.ensures.steps.more), lengths_add _ _ _ _ now.rest now.part _ _ _ c.loop-part.invariant.2 c.part_len-n.ensures)

pub returns : goal.returns
returns c = lengths_end _ _ _ _ (omega (arith, c.in-None.ensures.steps)) c.loop-part.invariant.2
