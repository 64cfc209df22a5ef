use mathlib.Core.Path.{sym}
use Rattle.walk.proofs.PathLaws.{value_stands, path_missing, steps_start, steps_end, steps_stop, steps_next}
use Rattle.walk.proofs.paths.path_value.Goals as goal

pub returns-in_err-w : goal.returns-in_err-w
returns-in_err-w c = rw c.from_residual.ensures (path_missing _ _ c.fetch-path.ensures _ c.variable_of.ensures (sym c.in_err-w.ensures))

pub loop-i-init : goal.loop-i-init
loop-i-init c = steps_start _ _ c.fetch-path.ensures _ c.variable_of.ensures c.requires.sized c.requires.held _ (sym c.in_ok-w.ensures)

pub returns-in_err-w-2 : goal.returns-in_err-w-2
returns-in_err-w-2 c = rw c.from_residual-in_err-w-2.ensures (steps_stop c.loop-i.invariant _ c.steps_of-i-end.ensures.0 c.loop-i-test.true _ c.step_at.ensures (sym c.in_err-w-2.ensures.is))

pub loop-i-preserved : goal.loop-i-preserved
loop-i-preserved c = steps_next c.loop-i.invariant _ c.steps_of-i-end.ensures.0 c.loop-i-test.true _ c.step_at.ensures _ (sym c.in_ok-w-2.ensures.is) (value_stands c.in_ok-w-2.ensures)

pub returns : goal.returns
returns c = steps_end c.loop-i.invariant _ c.steps_of-i-end.ensures.0 c.loop-i-test.false
