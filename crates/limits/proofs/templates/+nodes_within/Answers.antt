-- What is wrong in the nodes from the next on is what is wrong in the row. The measure is the levels left.
use mathlib.Core.Path.{refl, sym, ◌∙◌}
use mathlib.Core.Logic.{inl, inr}
use native.Mathlib.Omega.{arith}
use Rattle.rules.specs.Faults.{every}
use Rattle.limits.specs.Rows.{nodes_within}
use Rattle.laws.specs.Faults.{every_next, every_stop, every_end}
use Rattle.laws.specs.Rows.{heads_more, heads_done, heads_all, every_none, every_offends}
use Rattle.limits.proofs.TurnLaws.{handed_on}
use Rattle.limits.proofs.TreeLaws.{node_deep, node_many, node_below, node_leaf}
use Rattle.limits.proofs.templates.+nodes_within.Goals as goal
use Rattle.limits.proofs.templates.+nodes_within.Goals.{then-below-ne0+in_ok-nodes_within, else-below-ne0}

pub returns-then-count-eq0 : goal.returns-then-count-eq0
unfolding nodes_within
returns-then-count-eq0 t c = every_none _ _ _ _ c.if-count-eq0.true

pub returns-then-left-eq0 : goal.returns-then-left-eq0
unfolding nodes_within
returns-then-left-eq0 t c = every_offends _ _ _ _ c.if-count-eq0.false _ (elim c.then-left-eq0.either [
  | inl deep ↦ node_deep _ _ _ _ deep
  | inr (more, many) ↦ node_many _ _ _ _ (omega (arith, more)) many
])

pub loop-init : goal.loop-init
unfolding nodes_within
loop-init t c = (omega arith, heads_all (every _) _ _ _ refl)

pub returns-in_err-nodes_within : goal.returns-in_err-nodes_within
returns-in_err-nodes_within t c = handed_on _ c.in_err-nodes_within.field-0.0 c.from_residual.ensures.1 (every_stop _ c.loop.invariant.1 (heads_more _ _ _ _ c.loop-test.true _ c.node_at-node.ensures.size) (node_below _ _ _ _ (omega arith) (omega arith) _ _ _ _ c.node_at-node.ensures.form c.loops_inside-inside.ensures c.node_at-node.ensures.below.below ∙ sym c.in_err-nodes_within.ensures))

pub loop-preserved : goal.loop-preserved
loop-preserved t c = (
  omega arith,
  every_next _ c.loop.invariant.1 (heads_more _ _ _ _ c.loop-test.true _ c.node_at-node.ensures.size) (elim c.if-below-ne0.branch [
    | then-below-ne0+in_ok-nodes_within w ↦ node_below _ _ _ _ (omega arith) (omega arith) _ _ _ _ c.node_at-node.ensures.form w.loops_inside-inside.ensures c.node_at-node.ensures.below.below ∙ sym w.in_ok-nodes_within.ensures
    | else-below-ne0 w ↦ node_leaf _ _ _ _ (omega arith) (omega arith) _ _ c.node_at-node.ensures.below.below w.if-below-ne0.false
  ]),
)

pub returns : goal.returns
returns t c = every_end _ c.loop.invariant.1 (heads_done _ _ _ _ c.loop-test.false)
