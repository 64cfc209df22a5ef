use mathlib.Core.Path.{◌∙◌}
use Rattle.feed.proofs.OrderLaws.{handed, tried, went_on, last_said, whole_two, blocks_two, layouts_two}
use Rattle.feed.specs.Verdict.{streams_refusal}
use Rattle.feed.proofs.streams.judge_two.Goals as goal

pub returns-in_err-first : goal.returns-in_err-first
unfolding streams_refusal
returns-in_err-first c = handed _ _ c.from_residual.ensures.1 (tried 2 _ _ _ c.in_err-first.ensures (blocks_two _ _ _ _ _ _ c.bytes.ensures.bytes c.bytes-2.ensures.bytes c.block_fault-of_g.ensures c.block_fault-of_t.ensures) ∙ whole_two _ _ _ _ _ c.bytes.ensures.bytes c.bytes-2.ensures.bytes c.bytes.ensures.whole c.bytes-2.ensures.whole)

pub returns : goal.returns
unfolding streams_refusal
returns c = last_said 3 _ _ c.first-2.ensures (layouts_two _ _ _ _ (c.at_first-of_g.ensures ∙ c.grammar_layout.ensures) (c.at_first-of_t.ensures ∙ c.templates_layout.ensures)) ∙ went_on 2 _ _ _ c.in_ok-first.ensures (blocks_two _ _ _ _ _ _ c.bytes.ensures.bytes c.bytes-2.ensures.bytes c.block_fault-of_g.ensures c.block_fault-of_t.ensures) ∙ whole_two _ _ _ _ _ c.bytes.ensures.bytes c.bytes-2.ensures.bytes c.bytes.ensures.whole c.bytes-2.ensures.whole
