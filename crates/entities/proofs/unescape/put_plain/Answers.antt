use native.Mathlib.Omega.{arith}
use Rattle.entities.proofs.PutLaws.{put_grows, put_inside, put_room, put_turn, put_end}
use Rattle.entities.proofs.unescape.put_plain.Goals as goal

pub bounds-out-n : goal.bounds-out-n
bounds-out-n c = put_room c.loop-plain.invariant c.in-Some.ensures

pub overflow_add-at : goal.overflow_add-at
overflow_add-at c = omega (arith, put_inside c.loop-plain.invariant c.in-Some.ensures)

pub loop-plain-smaller : goal.loop-plain-smaller
loop-plain-smaller c = omega (arith, put_grows c.loop-plain.invariant c.in-Some.ensures, put_inside c.loop-plain.invariant c.in-Some.ensures)

pub loop-plain-preserved : goal.loop-plain-preserved
loop-plain-preserved c = put_turn c.loop-plain.invariant c.in-Some.ensures

pub returns : goal.returns
returns c = put_end c.loop-plain.invariant c.in_default.ensures
