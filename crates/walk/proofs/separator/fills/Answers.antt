use mathlib.Core.Path.{sym, ◌∙◌}
use borrow.Author.Tests.{eq-eqb, ne_eqb}
use Rattle.walk.specs.Nodes.{fills_at}
use Rattle.walk.proofs.separator.fills.Goals as goal

pub returns-then-element-ne0 : goal.returns-then-element-ne0
unfolding fills_at
returns-then-element-ne0 c = c.is_repetition.ensures ∙ sym (rw (ne_eqb _ 0 c.if-element-ne0.true))

pub returns-else-element-ne0 : goal.returns-else-element-ne0
unfolding fills_at
returns-else-element-ne0 c = sym (rw (eq-eqb _ 0 c.if-element-ne0.false))
