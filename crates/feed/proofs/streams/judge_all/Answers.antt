use mathlib.Core.Path.{◌∙◌}
use Rattle.feed.specs.Verdict.{streams_refusal}
use Rattle.feed.proofs.OrderLaws.{tried, went_on, last_said, whole_three, blocks_three, layouts_three, all_refused, all_judged}
use Rattle.feed.proofs.streams.judge_all.Goals as goal

pub returns-in_err-first : goal.returns-in_err-first
unfolding streams_refusal
returns-in_err-first c = all_refused _ _ _ _ _ _ _ c.from_residual.ensures.1 (tried 2 _ _ _ c.in_err-first.ensures (blocks_three _ _ _ _ _ _ _ _ _ c.bytes.ensures.bytes c.bytes-2.ensures.bytes c.bytes-3.ensures.bytes c.block_fault-of_g.ensures c.block_fault-of_t.ensures c.block_fault-of_v.ensures) ∙ whole_three _ _ _ _ _ _ _ c.bytes.ensures.bytes c.bytes-2.ensures.bytes c.bytes-3.ensures.bytes c.bytes.ensures.whole c.bytes-2.ensures.whole c.bytes-3.ensures.whole)

pub value_layout-requires : goal.value_layout-requires
value_layout-requires c = record { firsts_room = c.requires.in_firsts; places_room = c.requires.in_places }

pub returns : goal.returns
unfolding streams_refusal
returns c = all_judged _ _ _ _ _ _ (last_said 3 _ _ c.first-2.ensures (layouts_three _ _ _ _ _ _ (c.at_first-of_g.ensures ∙ c.grammar_layout.ensures) (c.at_first-of_t.ensures ∙ c.templates_layout.ensures) (c.at_first-of_v.ensures ∙ c.value_layout.ensures.0)) ∙ went_on 2 _ _ _ c.in_ok-first.ensures (blocks_three _ _ _ _ _ _ _ _ _ c.bytes.ensures.bytes c.bytes-2.ensures.bytes c.bytes-3.ensures.bytes c.block_fault-of_g.ensures c.block_fault-of_t.ensures c.block_fault-of_v.ensures) ∙ whole_three _ _ _ _ _ _ _ c.bytes.ensures.bytes c.bytes-2.ensures.bytes c.bytes-3.ensures.bytes c.bytes.ensures.whole c.bytes-2.ensures.whole c.bytes-3.ensures.whole) c.value_layout.ensures
