-- The types put in so far, with those of the parameters that are left, are the types of all. Assumes nothing.
use mathlib.Core.Path.{refl, ◌∙◌}
use native.Mathlib.Omega.{arith}
use lib.ListN.{length-set}
use Rattle.typing.proofs.TemplateLaws.{types_start, types_next, types_end_lem}
use Rattle.typing.proofs.templates.parameter_types.Goals as goal

pub loop-i-init : goal.loop-i-init
loop-i-init c = (refl, types_start _ _ _)

pub loop-i-preserved : goal.loop-i-preserved
loop-i-preserved c = (simp length-set c.loop-i.invariant.0, types_next _ _ _ _ c.loop-i.slots _ c.loop-i-test.true (omega (arith, c.requires, c.loop-i-test.true, c.loop-i.invariant.0)) (rw c.from-p.ensures at c.fetch.ensures.b) ∙ c.loop-i.invariant.1)

pub returns : goal.returns
returns c = (types_end_lem _ _ _ _ c.loop-i.slots c.loop-i-test.false c.loop-i.auto.i-end c.loop-i.invariant.1, c.loop-i.invariant.0)
