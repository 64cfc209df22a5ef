use mathlib.Core.Path.{sym, ◌∙◌}
use native.Mathlib.Omega.{arith}
use native.Mathlib.Nat.{sub-zero}
use Rattle.rules.specs.Templates.{first}
use Rattle.walk.proofs.MatchLaws.{after_more, after_done}
use Rattle.walk.proofs.visits.arm_of.Goals as goal

pub loop-init : goal.loop-init
unfolding first
loop-init c = (rw sub-zero, omega arith)

pub loop-preserved : goal.loop-preserved
loop-preserved c = (sym (after_more _ _ _ _ c.loop-test.true _ c.size_at-arm.ensures.0) ∙ c.loop.invariant.0, omega (arith, c.loop.invariant.1, c.size_at-arm.ensures.1))

pub returns : goal.returns
returns c = (after_done _ _ _ _ c.loop-test.false ∙ c.loop.invariant.0, omega (arith, c.loop.invariant.1))
