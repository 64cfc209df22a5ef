-- What is wrong in the values from the next on is what is wrong in the row. The measure is the levels left.
use mathlib.Core.Path.{refl, sym, ◌∙◌}
use native.Mathlib.Omega.{arith}
use Rattle.rules.specs.Faults.{every}
use Rattle.stream.proofs.RecordLaws.{reach}
use Rattle.limits.specs.Rows.{values_within}
use Rattle.laws.specs.Faults.{every_next, every_stop, every_end, tree_deep}
use Rattle.laws.specs.Rows.{heads_more, heads_done, heads_all, every_none, every_offends}
use Rattle.limits.proofs.TurnLaws.{handed_on}
use Rattle.limits.proofs.TreeLaws.{value_leaf, value_below}
use Rattle.limits.proofs.value.+values_within.Goals as goal
use Rattle.limits.proofs.value.+values_within.Goals.{then-below-ne0+in_ok-values_within, else-below-ne0}

pub returns-then-count-eq0 : goal.returns-then-count-eq0
unfolding values_within
returns-then-count-eq0 t c = every_none _ _ _ _ c.if-count-eq0.true

pub returns-then-left-eq0 : goal.returns-then-left-eq0
unfolding values_within
returns-then-left-eq0 t c = every_offends _ _ _ _ c.if-count-eq0.false _ (tree_deep _ _ _ _ c.if-left-eq0.true)

pub loop-init : goal.loop-init
unfolding values_within
loop-init t c = (omega arith, heads_all (every _) _ _ _ refl, c.requires.from_is)

pub forward-next-requires : goal.forward-next-requires
forward-next-requires t c = reach _ _ _ c.loop.invariant.2 (omega arith)

pub forward-inside-requires : goal.forward-inside-requires
forward-inside-requires t c = reach _ _ _ c.loop.invariant.2 (omega arith)

pub returns-in_err-values_within : goal.returns-in_err-values_within
returns-in_err-values_within t c = handed_on _ c.in_err-values_within.field-0.0 c.from_residual.ensures.1 (every_stop _ c.loop.invariant.1 (heads_more _ _ _ _ c.loop-test.true _ (c.size_of-size.ensures.is _ _ (c.fetch_at-head.ensures _ c.loop.invariant.2))) (value_below _ _ _ (omega arith) _ (c.count_below-below.ensures.is _ _ (c.fetch_at-head.ensures _ c.loop.invariant.2)) ∙ sym c.in_err-values_within.ensures))

pub loop-preserved : goal.loop-preserved
loop-preserved t c = (
  omega (arith, c.size_of-size.ensures.small),
  every_next _ c.loop.invariant.1 (heads_more _ _ _ _ c.loop-test.true _ (c.size_of-size.ensures.is _ _ (c.fetch_at-head.ensures _ c.loop.invariant.2))) (elim c.if-below-ne0.branch [
    | then-below-ne0+in_ok-values_within w ↦ value_below _ _ _ (omega arith) _ (c.count_below-below.ensures.is _ _ (c.fetch_at-head.ensures _ c.loop.invariant.2)) ∙ sym w.in_ok-values_within.ensures
    | else-below-ne0 w ↦ value_leaf _ _ _ (omega arith) _ (c.count_below-below.ensures.is _ _ (c.fetch_at-head.ensures _ c.loop.invariant.2)) w.if-below-ne0.false
  ]),
  c.forward-next.ensures _ c.loop.invariant.2,
)

pub returns : goal.returns
returns t c = every_end _ c.loop.invariant.1 (heads_done _ _ _ _ c.loop-test.false)
