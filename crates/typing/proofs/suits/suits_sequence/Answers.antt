use mathlib.Core.Path.{sym, ◌∙◌}
use native.Mathlib.Omega.{arith}
use Rattle.typing.proofs.SuitsLaws.{unsuited, suited, sequence_nothing, sequence_is}
use Rattle.typing.proofs.suits.suits_sequence.Goals as goal

pub returns-in_err-n : goal.returns-in_err-n
returns-in_err-n c = λ g t asked scope f. rw c.from_residual.ensures (unsuited (sequence_nothing g _ _ (sym c.in_err-n.ensures)))

pub returns : goal.returns
returns c = λ g t asked scope f. suited (sequence_is g _ _ asked _ (sym c.in_ok-n.ensures) _ (c.from.ensures ∙ f.d) (omega (arith, c.from.ensures)))
