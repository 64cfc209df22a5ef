use native.Mathlib.Omega.{arith}
use mathlib.Core.Path.{sym, ◌∙◌}
use Rattle.rules.specs.Templates.{type_at, type_numbered, field_heads}
use Rattle.typing.proofs.KindLaws.{no_form}
use Rattle.typing.proofs.kinds.type_at.Goals as goal

pub returns-in-0 : goal.returns-in-0
unfolding type_at type_numbered
returns-in-0 c = let f = rw c.from.ensures at c.fetch-r.ensures in sym (rw (sym f.a ∙ c.in-0.is, ← f.b))

pub returns-in-1 : goal.returns-in-1
unfolding type_at type_numbered
returns-in-1 c = let f = rw c.from.ensures at c.fetch-r.ensures in sym (rw (sym f.a ∙ c.in-1.is))

pub returns-in-2 : goal.returns-in-2
unfolding type_at type_numbered
returns-in-2 c = let f = rw c.from.ensures at c.fetch-r.ensures in sym (rw (sym f.a ∙ c.in-2.is, ← f.b))

pub returns-in-3 : goal.returns-in-3
unfolding type_at type_numbered field_heads
returns-in-3 c = let f = rw c.from.ensures at c.fetch-r.ensures in sym (rw (sym f.a ∙ c.in-3.is, ← f.d))

pub returns-in-4 : goal.returns-in-4
unfolding type_at type_numbered field_heads
returns-in-4 c = let f = rw c.from.ensures at c.fetch-r.ensures in sym (rw (sym f.a ∙ c.in-4.is, ← f.d))

pub returns-in_default : goal.returns-in_default
unfolding type_at
returns-in_default c = let f = rw c.from.ensures at c.fetch-r.ensures in no_form _ _ _ (omega (arith, f.a)) (omega (arith, f.a)) (omega (arith, f.a)) (omega (arith, f.a)) (omega (arith, f.a))
