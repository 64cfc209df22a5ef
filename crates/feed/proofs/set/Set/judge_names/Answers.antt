use mathlib.Core.Path.{refl}
use Rattle.feed.proofs.OrderLaws.{last_said, firsts}
use Rattle.feed.proofs.set.Set.judge_names.Goals as goal

pub returns : goal.returns
returns c = last_said 5 _ _ c.first.ensures (firsts _ _ _ _ _ _ c.grammar_names-of_g.ensures c.templates_names-of_t.ensures refl)
