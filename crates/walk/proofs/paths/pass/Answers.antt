use mathlib.Core.Path.{sym}
use Rattle.walk.proofs.PathLaws.{value_stands}
use Rattle.walk.proofs.FrameLaws.{passing_start, passing_follows, passing_stop, passing_stored, passing_seen, passing_done}
use Rattle.walk.proofs.paths.pass.Goals as goal
use Rattle.walk.proofs.paths.pass.Goals.{then-stored, else-stored}

pub loop-i-init : goal.loop-i-init
loop-i-init c = passing_start _ _ _ _ _ _ _ _

pub path_value-requires : goal.path_value-requires
path_value-requires c = passing_follows c.loop-i.invariant c.requires.0

pub returns-in_default : goal.returns-in_default
returns-in_default c = passing_stop c.loop-i.invariant c.requires.0 c.loop-i-test.true (sym c.in_default.ensures.is)

pub loop-i-preserved : goal.loop-i-preserved
loop-i-preserved c =
    elim c.if-stored.branch [
      | then-stored w ↦ rw w.scratch-is (passing_stored c.loop-i.invariant c.requires.0 c.loop-i-test.true _ (sym c.in-Some.ensures.is) (value_stands c.in-Some.ensures) _ w.bind.auto.scratch (rw w.behind.ensures at w.bind.ensures))
      | else-stored w ↦ rw w.scratch-is (passing_seen c.loop-i.invariant c.requires.0 c.loop-i-test.true _ (sym c.in-Some.ensures.is) (value_stands c.in-Some.ensures) w.if-stored.false)
    ]

pub returns : goal.returns
returns c = passing_done c.loop-i.invariant c.requires.0 c.loop-i-test.false
