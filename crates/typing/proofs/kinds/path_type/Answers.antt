-- What the steps that are left find from here is what all of them find from the variable. Assumes nothing.
use mathlib.Core.Path.{sym, ◌∙◌}
use Rattle.typing.proofs.KindLaws.{lent_there, lent_missing, path_done, path_go, path_stop, path_missing, path_starts}
use Rattle.typing.proofs.kinds.path_type.Goals as goal

pub returns-in_err-ty : goal.returns-in_err-ty
returns-in_err-ty c = rw c.from_residual.ensures (path_missing _ _ _ _ c.fetch-r.ensures _ c.variable_of.ensures (lent_missing _ _ _ c.get.ensures.lookup c.copied.ensures c.in_err-ty.was))

pub returns-in_err-ty-2 : goal.returns-in_err-ty-2
returns-in_err-ty-2 c = rw c.from_residual-in_err-ty-2.ensures (sym (path_stop _ _ _ c.steps_of-i-end.ensures.0 _ _ c.loop-i-test.true _ c.step_at.ensures (sym c.in_err-ty-2.ensures)) ∙ c.loop-i.invariant ∙ path_starts _ _ _ _ c.fetch-r.ensures _ c.variable_of.ensures c.requires.sized _ (lent_there _ _ _ c.get.ensures.lookup c.copied.ensures c.in_ok-ty.was))

pub loop-i-preserved : goal.loop-i-preserved
loop-i-preserved c = sym (path_go _ _ _ c.steps_of-i-end.ensures.0 _ _ c.loop-i-test.true _ c.step_at.ensures _ (sym c.in_ok-ty-2.ensures)) ∙ c.loop-i.invariant

pub returns : goal.returns
returns c = sym (path_done _ _ _ c.steps_of-i-end.ensures.0 _ _ c.loop-i-test.false) ∙ c.loop-i.invariant ∙ path_starts _ _ _ _ c.fetch-r.ensures _ c.variable_of.ensures c.requires.sized _ (lent_there _ _ _ c.get.ensures.lookup c.copied.ensures c.in_ok-ty.was)
