use mathlib.Core.Path.{sym, ◌∙◌}
use Rattle.typing.proofs.KindLaws.{type_missing, type_found}
use Rattle.typing.proofs.kinds.type_of.Goals as goal

pub returns-in_default : goal.returns-in_default
returns-in_default c = type_missing _ _ _ c.requires.types_are (sym c.in_default.ensures)

pub returns : goal.returns
returns c = c.type_at.ensures ∙ type_found _ _ _ c.requires.types_are _ (sym c.in-Some.ensures)
