-- Whether the elements that are left derive a text is whether all of them do.
use mathlib.Core.Path.{refl, sym, ◌∙◌}
use native.Mathlib.Omega.{arith}
use Rattle.std.proofs.Math.Nat.{sub-zero}
use Rattle.laws.specs.Rows.{heads_more, heads_done}
use Rattle.finite.specs.Found.{row_derivable}
use Rattle.finite.proofs.DerivableLaws.{some_left, derivable_next, derivable_stop, derivable_end}
use Rattle.finite.proofs.productions.waiting.Goals as goal

pub loop-turn-init : goal.loop-turn-init
unfolding row_derivable
loop-turn-init c = (omega arith, rw sub-zero)

pub returns-then-not-is_derivable : goal.returns-then-not-is_derivable
returns-then-not-is_derivable c = some_left 0 _ (omega arith) ∙ derivable_stop _ _ c.loop-turn.invariant.1 (heads_more _ _ _ _ c.loop-turn-test.true _ refl) (sym c.is_derivable.ensures ∙ c.if-not-is_derivable.true)

pub loop-turn-preserved : goal.loop-turn-preserved
loop-turn-preserved c = (omega (arith, c.size_of-at.ensures.small), derivable_next _ _ c.loop-turn.invariant.1 (heads_more _ _ _ _ c.loop-turn-test.true _ (c.size_of-at.ensures.is _ _ c.fetch-element.ensures)) (sym c.is_derivable.ensures ∙ c.if-not-is_derivable.false))

pub returns : goal.returns
returns c = derivable_end _ _ c.loop-turn.invariant.1 (heads_done _ _ _ _ c.loop-turn-test.false)
