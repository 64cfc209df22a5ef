use Rattle.feed.proofs.OrderLaws.{handed, check_streams, check_judged}
use Rattle.feed.proofs.SetLaws.{small_room, large_room}
use Rattle.feed.proofs.check_streams.Goals as goal

pub returns-in_err-judge_two : goal.returns-in_err-judge_two
returns-in_err-judge_two c = handed _ _ c.from_residual.ensures.1 (check_streams _ _ c.in_err-judge_two.ensures)

pub check_laid-requires-clause-templates_room : goal.check_laid-requires-clause-templates_room
check_laid-requires-clause-templates_room c = rw (← c.bytes.ensures.bytes) (small_room _ c.if-bytes-le-SMALL_STREAM.true)

pub check_laid-requires-else-bytes-le-SMALL_STREAM-clause-templates_room : goal.check_laid-requires-else-bytes-le-SMALL_STREAM-clause-templates_room
check_laid-requires-else-bytes-le-SMALL_STREAM-clause-templates_room c = rw (← c.bytes.ensures.bytes) (large_room _ c.bytes.ensures.whole.sized)

pub returns-then-bytes-le-SMALL_STREAM : goal.returns-then-bytes-le-SMALL_STREAM
returns-then-bytes-le-SMALL_STREAM c = check_judged _ _ c.in_ok-judge_two.ensures c.check_laid.ensures

pub returns-else-bytes-le-SMALL_STREAM : goal.returns-else-bytes-le-SMALL_STREAM
returns-else-bytes-le-SMALL_STREAM c = check_judged _ _ c.in_ok-judge_two.ensures c.check_laid-else-bytes-le-SMALL_STREAM.ensures
