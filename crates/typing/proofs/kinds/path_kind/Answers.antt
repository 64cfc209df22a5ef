use mathlib.Core.Path.{sym, ◌∙◌}
use Rattle.laws.specs.Faults.{on_some, on_none}
use Rattle.typing.proofs.kinds.path_kind.Goals as goal

pub returns-in_default : goal.returns-in_default
returns-in_default c = sym (on_none _ _ (sym c.in_default.ensures))

pub returns : goal.returns
returns c = c.type_of.ensures ∙ sym (on_some _ _ (sym c.in-Some.ensures))
