use native.Mathlib.Omega.{arith}
use Rattle.typing.proofs.NodeLaws.{entry_asked, frame_alike, frame_asked, alike_room}
use Rattle.typing.proofs.checker.Checker.frame_in.Goals as goal

pub bind-requires : goal.bind-requires
bind-requires c = (c.requires.0, alike_room _ c.in-Alike.is c.requires.2)

pub bounds-self-from : goal.bounds-self-from
bounds-self-from c = omega (arith, entry_asked c.args.i c.in-Asked.is, c.requires.1, c.from.ensures)

pub returns-in-Alike : goal.returns-in-Alike
returns-in-Alike c = frame_alike _ _ _ _ _ c.in-Alike.is c.bind.ensures

pub returns-in-Asked : goal.returns-in-Asked
returns-in-Asked c = frame_asked _ _ _ _ _ c.in-Asked.is (rw c.from.ensures at c.position_at.ensures) c.requires.2.full
