use Rattle.feed.specs.Verdict.{streams_refusal}
use Rattle.feed.proofs.OrderLaws.{tried, lengths_three, three_sized, evaluate_handed, evaluate_streams}
use Rattle.feed.proofs.SetLaws.{small_room, large_room}
use Rattle.feed.proofs.evaluate_all.Goals as goal

pub returns-in_err-first : goal.returns-in_err-first
unfolding streams_refusal
returns-in_err-first c = evaluate_handed _ _ _ _ c.from_residual.ensures.1 (evaluate_streams _ _ _ _ _ _ (tried 1 _ _ _ c.in_err-first.ensures (lengths_three _ _ _ _ _ _ c.length_fault.ensures c.length_fault-2.ensures c.length_fault-3.ensures)))

pub of-g-requires : goal.of-g-requires
of-g-requires c = (three_sized _ _ _ _ _ _ c.in_ok-first.ensures c.length_fault.ensures c.length_fault-2.ensures c.length_fault-3.ensures).0

pub of-t-requires : goal.of-t-requires
of-t-requires c = (three_sized _ _ _ _ _ _ c.in_ok-first.ensures c.length_fault.ensures c.length_fault-2.ensures c.length_fault-3.ensures).1

pub of-v-requires : goal.of-v-requires
of-v-requires c = (three_sized _ _ _ _ _ _ c.in_ok-first.ensures c.length_fault.ensures c.length_fault-2.ensures c.length_fault-3.ensures).2

pub evaluate_streams-requires : goal.evaluate_streams-requires
evaluate_streams-requires c = rw (← c.bytes.ensures.bytes) (small_room _ c.if-bytes-le-SMALL_STREAM.true)

pub evaluate_streams-requires-else-bytes-le-SMALL_STREAM : goal.evaluate_streams-requires-else-bytes-le-SMALL_STREAM
evaluate_streams-requires-else-bytes-le-SMALL_STREAM c = rw (← c.bytes.ensures.bytes) (large_room _ c.bytes.ensures.whole.sized)
