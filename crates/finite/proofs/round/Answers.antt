-- What the turns so far have tried.
use Prim.Native.Nat.{◌<◌}
use mathlib.Core.Path.{◌≡◌, sym, ◌∙◌}
use lib.ListN.{length}
use native.Mathlib.Omega.{arith}
use Rattle.finite.specs.Found.{turned}
use Rattle.finite.proofs.FoundLaws.{in_table, rounding_next, rounding_done}
use Rattle.finite.proofs.round.Goals as goal
use Rattle.finite.proofs.round.Goals.{then-back, else-back}

pub try_production-more-requires : goal.try_production-more-requires
try_production-more-requires c =
    let l : c.if-back.i < length c.args.productions.now = elim c.if-back.branch [ then-back w ↦ omega arith | else-back w ↦ omega arith ] in
    record { noted = c.requires.noted; a_production = in_table _ _ _ c.requires.productions_are l; sound = c.loop-turn.invariant.sound }

pub loop-turn-preserved : goal.loop-turn-preserved
unfolding turned
loop-turn-preserved c =
    let i : c.if-back.i ≡ turned (length c.args.productions.now) c.args.back c.loop-turn.turn =
    elim c.if-back.branch [ then-back w ↦ w.i-is ∙ sym (rw w.if-back.true) | else-back w ↦ w.i-is ∙ sym (rw w.if-back.false) ] in
    rounding_next _ _ _ _ _ _ _ _ _ _ c.loop-turn.invariant i c.try_production-more.ensures

pub returns : goal.returns
returns c = rounding_done _ _ _ _ _ _ _ c.requires.productions_are c.loop-turn.invariant c.loop-turn-test.false
