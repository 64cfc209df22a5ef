use mathlib.Core.Path.{sym}
use borrow.Author.Tests.{eq-eqb, ne_eqb}
use Rattle.walk.specs.Nodes.{due_at}
use Rattle.walk.proofs.separator.is_due.Goals as goal

pub returns-then-before-ne0 : goal.returns-then-before-ne0
unfolding due_at
returns-then-before-ne0 c = sym (rw (ne_eqb _ 0 c.if-before-ne0.true))

pub returns-else-before-ne0 : goal.returns-else-before-ne0
unfolding due_at
returns-else-before-ne0 c = sym (rw (eq-eqb _ 0 c.if-before-ne0.false))
