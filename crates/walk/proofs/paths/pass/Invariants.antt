use Rattle.walk.proofs.FrameLaws.{Passing}
use Rattle.walk.proofs.paths.pass.Given as goal

abbrev pub invariant-loop-i : goal.invariant-loop-i
invariant-loop-i l = Passing l.s.templates.now l.s.value.now l.variables.base l.variables.vars l.p l.n l.stored l.initial.scratch l.scratch l.i
