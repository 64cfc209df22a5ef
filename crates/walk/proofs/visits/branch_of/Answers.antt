use mathlib.Core.Path.{sym}
use native.Mathlib.Omega.{arith}
use borrow.Author.Tests.{eq-eqb, ne_eqb}
use Rattle.rules.specs.Templates.{first, second}
use Rattle.walk.proofs.visits.branch_of.Goals as goal

pub returns-then-a-eq1 : goal.returns-then-a-eq1
unfolding first second
returns-then-a-eq1 c = (sym (rw (eq-eqb _ _ c.if-a-eq1.true)), omega arith)

pub returns-else-a-eq1 : goal.returns-else-a-eq1
unfolding first second
returns-else-a-eq1 c = (sym (rw (ne_eqb _ _ c.if-a-eq1.false, ← c.size_at.ensures.0)), omega (arith, c.size_at.ensures.1))
