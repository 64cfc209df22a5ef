-- Whether the arguments that are left fit is whether all of them do. Assumes nothing.
use mathlib.Core.Path.{sym, ◌∙◌}
use native.Mathlib.Omega.{arith}
use Rattle.typing.proofs.ExpandLaws.{fits_start, fits_done, fits_nothing, fits_other, fits_next}
use Rattle.typing.proofs.checker.Checker.arguments_fit.Goals as goal

pub returns-in_default : goal.returns-in_default
returns-in_default c = sym (fits_nothing _ _ _ _ _ _ c.loop-i-test.true (sym c.in_default.ensures)) ∙ c.loop-i.invariant ∙ fits_start _ _ _ _ _

pub returns-then-r-has : goal.returns-then-r-has
returns-then-r-has c = sym (fits_other _ _ _ _ _ _ c.loop-i-test.true _ _ (sym c.in-Some.ensures) c.fetch-r.ensures.b (λ e. omega (arith, e, c.if-r-has.true))) ∙ c.loop-i.invariant ∙ fits_start _ _ _ _ _

pub loop-i-preserved : goal.loop-i-preserved
loop-i-preserved c = sym (fits_next _ _ _ _ _ _ c.loop-i-test.true _ _ (sym c.in-Some.ensures) c.fetch-r.ensures.b c.if-r-has.false) ∙ c.loop-i.invariant

pub returns : goal.returns
returns c = sym (fits_done _ _ _ _ _ _ c.loop-i-test.false) ∙ c.loop-i.invariant ∙ fits_start _ _ _ _ _
