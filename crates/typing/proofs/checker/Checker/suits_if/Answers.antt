use mathlib.Core.Path.{refl, sym}
use Rattle.rules.specs.Typing.{is_yes_no}
use Rattle.typing.proofs.KindLaws.{no_yes_no}
use Rattle.typing.proofs.SuitsLaws.{unsuited, suited, if_nothing, if_other, if_is}
use Rattle.typing.proofs.checker.Checker.suits_if.Goals as goal

pub returns-in_err-n : goal.returns-in_err-n
returns-in_err-n c = rw c.from_residual.ensures (unsuited (if_nothing _ _ _ (sym c.in_err-n.ensures)))

pub returns-in_default : goal.returns-in_default
returns-in_default c = unsuited (if_other _ _ _ _ c.path_kind.ensures _ (sym c.in_ok-n.ensures) (no_yes_no _ _ c.in_default.not-YesNo))

pub returns : goal.returns
unfolding is_yes_no
returns c = suited (if_is _ _ _ _ c.in-YesNo.ensures _ (sym c.in_ok-n.ensures) _ refl)
