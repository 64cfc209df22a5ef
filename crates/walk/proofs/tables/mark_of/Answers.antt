use mathlib.Core.Path.{◌∙◌}
use Rattle.walk.proofs.MarkLaws.{marked_as}
use Rattle.walk.proofs.tables.mark_of.Goals as goal

pub returns : goal.returns
returns c = c.from-2.ensures ∙ marked_as _ _ _ _ (rw c.from.ensures at c.fetch.ensures.kind) c.is_escaped.ensures
