use Rattle.walk.specs.Run.{stopped_of}
use mathlib.Core.Path.{sym, ap, ◌∙◌}
use native.Mathlib.Omega.{arith}
use Rattle.walk.proofs.StartLaws.{scratch_room, start_missing, start_visitable, start_walked}
use Rattle.walk.proofs.run.Goals as goal

pub returns-in_default : goal.returns-in_default
returns-in_default c = rw c.come_out.ensures (start_missing c.requires (sym c.in_default.ensures) c.start.ensures (ap stopped_of c.stuck.ensures) c.clear.ensures)

pub bind-requires : goal.bind-requires
bind-requires c = omega (arith, scratch_room c.requires)

pub visit-end-requires : goal.visit-end-requires
visit-end-requires c = start_visitable c.requires (sym c.in-Some.ensures) _ c.body_of-body.ensures.0 c.bind.ensures c.bind.auto.scratch _ c.start-2.ensures c.body_of-body.ensures.1 _

pub shape_of-scratch : goal.shape_of-scratch
shape_of-scratch c = c.clear-2.auto.s ∙ c.visit-end.auto.scratch ∙ c.bind.auto.scratch

pub returns : goal.returns
returns c = rw c.come_out-2.ensures (start_walked c.requires (sym c.in-Some.ensures) _ c.body_of-body.ensures.0 c.bind.ensures c.bind.auto.scratch _ c.start-2.ensures c.visit-end.ensures c.visit-end.auto.scratch c.clear-2.ensures)
