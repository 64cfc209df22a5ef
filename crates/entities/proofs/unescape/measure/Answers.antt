use native.Mathlib.Omega.{arith}
use Rattle.entities.proofs.MeasureLaws.{measure_none, measure_inside, measure_grows, measure_bad, measure_turn, measure_end}
use Rattle.entities.proofs.unescape.measure.Goals as goal

pub returns-then-at-text : goal.returns-then-at-text
returns-then-at-text c = measure_end c.loop-at.invariant c.ahead-here.ensures c.if-at-text.true c.then_some.ensures

pub returns-in_err-plain : goal.returns-in_err-plain
returns-in_err-plain c = measure_none c.loop-at.invariant c.ahead-here.ensures c.if-at-text.false c.in_err-plain.ensures c.from_residual.ensures

pub returns-in_err-u : goal.returns-in_err-u
returns-in_err-u c = measure_bad c.loop-at.invariant c.ahead-here.ensures c.in_ok-plain.ensures c.in_err-u.ensures c.from_residual-in_err-u.ensures

pub overflow_add-at : goal.overflow_add-at
overflow_add-at c = omega (arith, measure_inside c.loop-at.invariant c.ahead-here.ensures c.in_ok-plain.ensures)

pub loop-at-smaller : goal.loop-at-smaller
loop-at-smaller c = omega (arith, measure_inside c.loop-at.invariant c.ahead-here.ensures c.in_ok-plain.ensures, measure_grows c.loop-at.invariant c.ahead-here.ensures c.in_ok-plain.ensures)

pub loop-at-preserved : goal.loop-at-preserved
loop-at-preserved c = measure_turn c.loop-at.invariant c.ahead-here.ensures c.in_ok-plain.ensures c.in_ok-u.ensures
