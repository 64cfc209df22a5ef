use mathlib.Core.Path.{◌∙◌, sym}
use native.Mathlib.Omega.{arith}
use Rattle.walk.proofs.MarkLaws.{marking_turn, none_marked}
use Rattle.walk.proofs.tables.mark.Goals as goal

pub loop-class-preserved : goal.loop-class-preserved
loop-class-preserved c = marking_turn c.loop-class.invariant (omega (arith, c.loop-class-test.true, c.loop-class.invariant.long)) c.mark_of.ensures

pub returns-else-contains : goal.returns-else-contains
returns-else-contains c = none_marked c.loop-class.invariant (omega (arith, c.loop-class-test.false, c.loop-class.invariant.long)) (sym c.contains.ensures.value ∙ c.if-contains.false)
