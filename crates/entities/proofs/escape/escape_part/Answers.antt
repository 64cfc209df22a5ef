use Rattle.rules.specs.Escape.{escape}
use Rattle.entities.proofs.EscapeLaws.{laid_none, put_room, put_more}
use Rattle.entities.proofs.escape.escape_part.Goals as goal

pub loop-b-init : goal.loop-b-init
unfolding escape
loop-b-init c = laid_none _

pub put-done-requires : goal.put-done-requires
put-done-requires c = put_room _ _ c.loop-b-test.true c.loop-b.invariant c.requires

pub loop-b-preserved : goal.loop-b-preserved
loop-b-preserved c = put_more _ _ c.loop-b-test.true c.loop-b.invariant c.put-done.ensures
