use mathlib.Core.Path.{◌∙◌}
use Rattle.typing.proofs.SuitsLaws.{leaf_is}
use Rattle.typing.proofs.suits.leaf.Goals as goal

pub returns : goal.returns
returns c = c.then_some.ensures ∙ leaf_is _
