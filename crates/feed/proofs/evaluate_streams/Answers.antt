use Rattle.feed.proofs.OrderLaws.{evaluate_handed, evaluate_streams}
use Rattle.feed.proofs.SetLaws.{small_room, large_room}
use Rattle.feed.proofs.evaluate_streams.Goals as goal

pub returns-in_err-judge_all : goal.returns-in_err-judge_all
returns-in_err-judge_all g c = evaluate_handed _ _ _ _ c.from_residual.ensures.1 (evaluate_streams _ _ _ _ _ _ c.in_err-judge_all.ensures.is)

pub evaluate-requires : goal.evaluate-requires
evaluate-requires g c = rw (← c.bytes.ensures.bytes) (small_room _ c.if-bytes-le-SMALL_STREAM.true)

pub evaluate-requires-else-bytes-le-SMALL_STREAM : goal.evaluate-requires-else-bytes-le-SMALL_STREAM
evaluate-requires-else-bytes-le-SMALL_STREAM g c = rw (← c.bytes.ensures.bytes) (large_room _ c.bytes.ensures.whole.sized)
