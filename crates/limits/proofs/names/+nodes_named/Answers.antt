-- What is wrong in the nodes from the next on is what is wrong in the row. The measure is the levels left.
use mathlib.Core.Path.{refl, sym, ◌∙◌}
use native.Mathlib.Omega.{arith}
use Rattle.rules.specs.Faults.{every}
use Rattle.limits.specs.Rows.{nodes_named}
use Rattle.laws.specs.Faults.{every_next, every_stop, every_end, tree_deep}
use Rattle.laws.specs.Rows.{heads_more, heads_done, heads_all, every_none, every_offends}
use Rattle.limits.proofs.TurnLaws.{handed_on}
use Rattle.limits.proofs.TreeLaws.{named_wrong, named_below, named_leaf}
use Rattle.limits.proofs.names.+nodes_named.Goals as goal
use Rattle.limits.proofs.names.+nodes_named.Goals.{then-row-ne0+in_ok-nodes_named, else-row-ne0}

pub returns-then-count-eq0 : goal.returns-then-count-eq0
unfolding nodes_named
returns-then-count-eq0 t c = λ g h. every_none _ _ _ _ c.if-count-eq0.true

pub returns-then-left-eq0 : goal.returns-then-left-eq0
unfolding nodes_named
returns-then-left-eq0 t c = λ g h. every_offends _ _ _ _ c.if-count-eq0.false _ (tree_deep _ _ _ _ c.if-left-eq0.true)

pub loop-init : goal.loop-init
unfolding nodes_named
loop-init t c = (omega arith, λ g h. heads_all (every _) _ _ _ refl)

pub returns-then-not-is_named : goal.returns-then-not-is_named
returns-then-not-is_named t c = λ g h. every_stop _ (c.loop.invariant.1 g h) (heads_more _ _ _ _ c.loop-test.true _ c.node_at-node.ensures.size) (named_wrong _ _ _ _ (omega arith) _ _ _ c.node_at-node.ensures.form c.node_at-node.ensures.names (c.is_named.ensures g _ h) c.if-not-is_named.true)

pub returns-in_err-nodes_named : goal.returns-in_err-nodes_named
returns-in_err-nodes_named t c = λ g h. handed_on _ c.in_err-nodes_named.field-0.0 c.from_residual.ensures.1 (every_stop _ (c.loop.invariant.1 g h) (heads_more _ _ _ _ c.loop-test.true _ c.node_at-node.ensures.size) (named_below _ _ _ _ (omega arith) _ _ _ c.node_at-node.ensures.form c.node_at-node.ensures.names (c.is_named.ensures g _ h) c.if-not-is_named.false _ _ c.node_at-node.ensures.below.below ∙ sym (c.in_err-nodes_named.ensures g h)))

pub loop-preserved : goal.loop-preserved
loop-preserved t c = (
  omega arith,
  λ g h. every_next _ (c.loop.invariant.1 g h) (heads_more _ _ _ _ c.loop-test.true _ c.node_at-node.ensures.size) (elim c.if-row-ne0.branch [
    | then-row-ne0+in_ok-nodes_named w ↦ named_below _ _ _ _ (omega arith) _ _ _ c.node_at-node.ensures.form c.node_at-node.ensures.names (c.is_named.ensures g _ h) c.if-not-is_named.false _ _ c.node_at-node.ensures.below.below ∙ sym (w.in_ok-nodes_named.ensures g h)
    | else-row-ne0 w ↦ named_leaf _ _ _ _ (omega arith) _ _ _ c.node_at-node.ensures.form c.node_at-node.ensures.names (c.is_named.ensures g _ h) c.if-not-is_named.false _ _ c.node_at-node.ensures.below.below w.if-row-ne0.false
  ]),
)

pub returns : goal.returns
returns t c = λ g h. every_end _ (c.loop.invariant.1 g h) (heads_done _ _ _ _ c.loop-test.false)
