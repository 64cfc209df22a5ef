use Rattle.walk.specs.Frames.{frame}
use Rattle.walk.proofs.PathLaws.{InSteps}
use Rattle.walk.proofs.paths.path_value.Given as goal

abbrev pub invariant-loop-i : goal.invariant-loop-i
invariant-loop-i l = InSteps l.s.templates.now l.s.value.now (frame l.fn.variables.base l.fn.variables.vars l.scratch) l.p l.path l.w l.i
