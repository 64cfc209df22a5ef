use mathlib.Core.Path.{sym, ◌∙◌}
use mathlib.Core.Logic.{inl, inr}
use native.Mathlib.Omega.{arith}
use Rattle.typing.specs.Answers.{child_count}
use Rattle.typing.proofs.ValueLaws.{no_children}
use Rattle.typing.proofs.value.child_count.Goals as goal

pub returns-in-Items : goal.returns-in-Items
unfolding child_count
returns-in-Items c = elim c.in-Items.is [
  | inl w ↦ (c.from.ensures ∙ sym (rw w.1), omega (arith, c.from.ensures))
  | inr w ↦ (c.from.ensures ∙ sym (rw w.2), omega (arith, c.from.ensures))
]

pub returns-in-Cases : goal.returns-in-Cases
unfolding child_count
returns-in-Cases c = (sym (rw c.in-Cases.is), omega arith)

pub returns-in_default : goal.returns-in_default
returns-in_default c = (no_children _ _ c.in_default.not-Items c.in_default.not-Fields c.in_default.not-Cases, omega arith)
