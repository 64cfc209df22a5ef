use Rattle.std.proofs.Common.{arith}
use Rattle.layout.proofs.CommonLaws.{reach}
use Rattle.layout.proofs.TreeTurns.{chains_near}
use Rattle.layout.proofs.ChildrenRows.{put_start, put_stop, put_room, put_go, put_end}
use Rattle.layout.proofs.children.put_row.Goals as goal

pub loop-k-init : goal.loop-k-init
loop-k-init c = put_start c.requires

pub returns-in_default : goal.returns-in_default
returns-in_default c = put_stop c.loop-k.invariant c.loop-k-test.true c.in_default.ensures

pub overflow_cast-places : goal.overflow_cast-places
overflow_cast-places c = omega (arith, chains_near c.loop-k.invariant.chains c.in-Some.ensures)

pub forward-here-requires : goal.forward-here-requires
forward-here-requires c = reach _ c.loop-k.invariant.chains.place_is (omega (arith, c.loop-k.invariant.chains.within.near)) (omega (arith, c.in-Some.ensures.small))

pub loop-k-preserved : goal.loop-k-preserved
loop-k-preserved c = put_go c.loop-k.invariant c.loop-k-test.true c.in-Some.ensures (put_room c.loop-k.invariant c.requires c.in-Some.ensures.before) (c.forward-here.ensures _ c.loop-k.invariant.chains.place_is)

pub returns : goal.returns
returns c = put_end c.loop-k.invariant c.loop-k-test.false (omega arith)
