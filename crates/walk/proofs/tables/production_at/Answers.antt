use mathlib.Core.Path.{◌∙◌}
use Rattle.walk.proofs.PathLaws.{entry_is}
use Rattle.walk.proofs.MarkLaws.{production_is}
use Rattle.walk.proofs.tables.production_at.Goals as goal

pub returns : goal.returns
returns c = λ g h. entry_is _ _ _ _ c.get.ensures.lookup c.copied.ensures ∙ rw c.from.ensures (production_is h _ _ c.marks_in.ensures.0)
