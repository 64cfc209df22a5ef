use mathlib.Core.Path.{ap₂, ◌∙◌}
use Rattle.rules.specs.Blocks.{fnv1a}
use borrow.Author.Rules.{rules}
use Rattle.stream.proofs.blocks.is_right.Goals as goal

pub is_right_by-requires : goal.is_right_by-requires
is_right_by-requires c = (search rules, c.fnv1a.ensures ∙ ap₂ fnv1a c.start_at.ensures c.covered.ensures.0)
