use mathlib.Core.Path.{sym, ◌∙◌}
use native.Mathlib.Omega.{arith}
use Rattle.laws.specs.Reads.{few_records}
use Rattle.layout.proofs.CommonLaws.{reach, in_stream}
use Rattle.layout.proofs.TreeTurns.{one_start, one_not, one_end, turn_long, turn_wrong, turn_stop, turn_go, own_some, Turn}
use Rattle.layout.specs.Tree.{Node}
use Rattle.layout.proofs.template.one_node.Goals as goal
use Rattle.layout.proofs.template.one_node.Goals.{After-node_head}

pub returns-then-not-chained : goal.returns-then-not-chained
returns-then-not-chained c = one_not _ _ _ _ c.requires.inside (sym c.chained.ensures ∙ c.if-not-chained.true)

pub loop-q-init : goal.loop-q-init
loop-q-init c = (c.place_of-at.ensures, c.requires.near, one_start _ _ _ _ c.requires.inside (sym c.chained.ensures ∙ c.if-not-chained.false))

pub fetch_in-r-requires : goal.fetch_in-r-requires
fetch_in-r-requires c = in_stream c.args.t.now c.loop-q.invariant.0 (omega (arith, c.requires.inside, c.loop-q-test.true))

pub returns-then-e-end : goal.returns-then-e-end
returns-then-e-end c = sym (turn_long _ _ _ _ _ c.loop-q-test.true (c.size_of-size.ensures.is _ _ (c.fetch_in-r.ensures _ c.loop-q.invariant.0)) c.if-e-end.true) ∙ c.loop-q.invariant.2

-- when the code has looked at a head
the_turn : (c : After-node_head) → Turn Node c.args.t.now c.loop-q.q c.args.e c.size_of-size.result c.node_head.result
the_turn c =
    let f = c.fetch_in-r.ensures _ c.loop-q.invariant.0 in
    record { before = c.loop-q-test.true; sized = c.size_of-size.ensures.is _ _ f; fits = c.if-e-end.false; head = c.node_head.ensures _ c.loop-q.invariant.0 f }

pub returns-in_default : goal.returns-in_default
returns-in_default c = sym (turn_wrong (the_turn (goal.at.returns-in_default c).After-node_head) c.in_default.is) ∙ c.loop-q.invariant.2

pub forward-at-requires : goal.forward-at-requires
forward-at-requires c = reach _ c.loop-q.invariant.0 (omega (arith, c.loop-q.invariant.1)) (omega arith)

pub chained-requires-in-loop-q : goal.chained-requires-in-loop-q
chained-requires-in-loop-q c = record { place_is = c.forward-at.ensures _ c.loop-q.invariant.0; within = record { sized = c.requires.sized; near = omega (arith, c.loop-q-test.true, few_records _ c.requires.sized, c.requires.inside); inside = omega (arith, c.if-e-end.false, c.requires.inside) } }

pub returns-then-not-chained-2 : goal.returns-then-not-chained-2
returns-then-not-chained-2 c = sym (turn_stop (the_turn (goal.at.returns-then-not-chained-2 c).After-node_head) _ c.in-Some.is c.chained-in-loop-q.ensures (c.if-not-chained-2.true)) ∙ c.loop-q.invariant.2

pub loop-q-smaller : goal.loop-q-smaller
loop-q-smaller c = omega (arith, c.loop-q-test.true, own_some (the_turn (goal.at.loop-q-smaller c).After-node_head) _ c.in-Some.is)

pub loop-q-preserved : goal.loop-q-preserved
loop-q-preserved c = (c.forward-at.ensures _ c.loop-q.invariant.0, omega (arith, c.loop-q-test.true, few_records _ c.requires.sized, c.requires.inside), sym (turn_go (the_turn (goal.at.loop-q-preserved c).After-node_head) _ c.in-Some.is c.chained-in-loop-q.ensures (c.if-not-chained-2.false)) ∙ c.loop-q.invariant.2)

pub returns : goal.returns
returns c = sym (one_end _ _ _ _ c.loop-q-test.false) ∙ c.loop-q.invariant.2
