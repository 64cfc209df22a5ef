-- So many rounds have found what so many rounds of the definition find.
use mathlib.Core.Path.{refl}
use native.Mathlib.Omega.{arith}
use Rattle.finite.proofs.FoundLaws.{rounds_start, rounds_next, rounds_closed, rounds_all}
use Rattle.finite.proofs.rounds.Goals as goal

pub loop-init : goal.loop-init
loop-init c = rounds_start _ _ _ refl c.requires.sound

pub returns-then-not-round : goal.returns-then-not-round
returns-then-not-round c = rounds_closed _ _ _ _ c.round.ensures (c.if-not-round.true)

pub loop-preserved : goal.loop-preserved
loop-preserved c = rounds_next _ _ _ _ _ _ _ c.loop.invariant c.round.ensures c.by_lists.ensures (omega arith)

pub returns : goal.returns
returns c = rounds_all _ _ _ _ c.requires.productions_are c.loop.invariant (omega arith)
