use mathlib.Core.Path.{refl, sym}
use Prim.Native.Nat.{◌<◌}
use native.Mathlib.Omega.{arith}
use Rattle.rules.specs.Typing.{case_types}
use Rattle.typing.proofs.KindLaws.{no_cases}
use Rattle.typing.proofs.MatchLaws.{match_nothing, match_other, match_counts, match_is}
use Rattle.typing.proofs.SuitsLaws.{unsuited, suited}
use Rattle.typing.proofs.checker.Checker.suits_match.Goals as goal

pub returns-in_err-n : goal.returns-in_err-n
returns-in_err-n c = rw c.from_residual.ensures (unsuited (match_nothing _ _ _ (sym c.in_err-n.ensures)))

pub returns-in_default : goal.returns-in_default
returns-in_default c = unsuited (match_other _ _ _ _ c.path_kind.ensures _ (sym c.in_ok-n.ensures) (no_cases _ _ c.in_default.not-Cases))

pub returns-then-d-r : goal.returns-then-d-r
unfolding case_types
returns-then-d-r c = unsuited (match_counts _ _ _ _ c.in-Cases.ensures _ (sym c.in_ok-n.ensures) _ _ refl _ c.requires.1.d (λ z. omega (arith, c.if-d-r.true, z)))

pub returns : goal.returns
unfolding case_types
returns c = let l : c.args.r.d < 65536 = omega arith in rw c.from.ensures (suited (match_is _ _ _ _ c.in-Cases.ensures _ (sym c.in_ok-n.ensures) _ _ refl _ c.requires.1.d _ c.if-d-r.false l))
