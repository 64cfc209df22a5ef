use mathlib.Core.Path.{refl, sym}
use Rattle.rules.specs.Typing.{item_type}
use Rattle.typing.proofs.KindLaws.{no_items}
use Rattle.typing.proofs.SuitsLaws.{unsuited, suited, for_nothing, for_other, for_is}
use Rattle.typing.proofs.checker.Checker.suits_for.Goals as goal

pub returns-in_err-n : goal.returns-in_err-n
returns-in_err-n c = rw c.from_residual.ensures (unsuited (for_nothing _ _ _ (sym c.in_err-n.ensures)))

pub returns-in_default : goal.returns-in_default
returns-in_default c = unsuited (for_other _ _ _ _ c.path_kind.ensures _ (sym c.in_ok-n.ensures) (no_items _ _ c.in_default.not-Items))

pub returns : goal.returns
unfolding item_type
returns c = suited (for_is _ _ _ _ c.in-Items.ensures _ (sym c.in_ok-n.ensures) _ _ refl)
