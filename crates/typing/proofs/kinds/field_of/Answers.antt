use mathlib.Core.Path.{sym}
use Rattle.laws.specs.Faults.{on_none}
use Rattle.typing.proofs.KindLaws.{field_some, field_none, no_fields}
use Rattle.typing.proofs.kinds.field_of.Goals as goal

pub returns-in_default : goal.returns-in_default
returns-in_default c = sym (on_none _ _ (rw (← c.type_of.ensures) (no_fields _ _ c.in_default.not-Fields)))

pub returns-then-j-d : goal.returns-then-j-d
returns-then-j-d c = field_some _ _ _ _ _ (sym c.in-Fields.ensures) c.if-j-d.true _ (rw (c.from.ensures, c.from-then-j-d.ensures) at c.fetch.ensures.b)

pub returns-else-j-d : goal.returns-else-j-d
returns-else-j-d c = field_none _ _ _ _ _ (sym c.in-Fields.ensures) c.if-j-d.false
