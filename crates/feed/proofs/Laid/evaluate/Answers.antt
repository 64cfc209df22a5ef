use Rattle.feed.proofs.SetLaws.{small_heads, large_heads}
use Rattle.feed.proofs.Laid.evaluate.Goals as goal

pub evaluate_tabled-requires-clause-grammar_room : goal.evaluate_tabled-requires-clause-grammar_room
evaluate_tabled-requires-clause-grammar_room g c = rw (← c.bytes.ensures.bytes) (small_heads _ c.if-bytes-le-SMALL_STREAM.true)

pub evaluate_tabled-requires-else-bytes-le-SMALL_STREAM-clause-grammar_room : goal.evaluate_tabled-requires-else-bytes-le-SMALL_STREAM-clause-grammar_room
evaluate_tabled-requires-else-bytes-le-SMALL_STREAM-clause-grammar_room g c = rw (← c.bytes.ensures.bytes) (large_heads _ c.bytes.ensures.whole.sized)
