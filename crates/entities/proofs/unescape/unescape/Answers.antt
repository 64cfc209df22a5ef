use Rattle.entities.proofs.CallLaws.{by_8, by_12, plainly, long_is, by_0}
use Rattle.entities.proofs.unescape.unescape.Goals as goal

pub returns-in_default : goal.returns-in_default
returns-in_default c = by_8 _ _ c.in_default.ensures c.refused.ensures

pub returns-then-out-length : goal.returns-then-out-length
returns-then-out-length c = by_12 _ _ _ c.in-Some.ensures c.if-out-length.true c.refused-then-out-length.ensures

pub write_plain-requires : goal.write_plain-requires
write_plain-requires c = (plainly _ c.args.out.now _ c.in-Some.ensures c.if-out-length.false, long_is _ c.args.out.now _ c.in-Some.ensures)

pub returns : goal.returns
returns c = by_0 _ _ _ c.in-Some.ensures c.if-out-length.false c.finished.ensures c.write_plain.ensures
