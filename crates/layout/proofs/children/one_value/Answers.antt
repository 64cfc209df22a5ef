use mathlib.Core.Path.{sym, ◌∙◌}
use native.Mathlib.Omega.{arith}
use Rattle.layout.proofs.CommonLaws.{reach, in_stream}
use Rattle.layout.proofs.TreeTurns.{one_start, one_not, turn_long, turn_wrong, turn_stop, turn_go, turn_right, own_some, Turn}
use Rattle.layout.proofs.ChildrenRows.{one_chain, no_chain, table_start, table_not, table_few, table_go, table_end, head_room, row_lent, near_end}
use Rattle.layout.specs.Tree.{Value}
use Rattle.layout.proofs.children.one_value.Goals as goal
use Rattle.layout.proofs.children.one_value.Goals.{After-value_head}

pub returns-then-e-eq0 : goal.returns-then-e-eq0
returns-then-e-eq0 c = table_not (one_not _ _ _ _ c.requires.inside (no_chain _ _ c.if-e-eq0.true))

pub loop-q-init : goal.loop-q-init
loop-q-init c = (c.place_of-at.ensures, one_start _ _ _ _ c.requires.inside (one_chain c.requires (omega (arith, c.if-e-eq0.false))), table_start c.requires (omega (arith, c.if-e-eq0.false)))

pub fetch_in-r-requires : goal.fetch_in-r-requires
fetch_in-r-requires c = in_stream c.args.v.now c.loop-q.invariant.0 (omega (arith, c.loop-q-test.true, c.requires.inside))

pub returns-then-e-end : goal.returns-then-e-end
returns-then-e-end c = table_not (sym (turn_long _ _ _ _ _ c.loop-q-test.true (c.size_of-size.ensures.is _ _ (c.fetch_in-r.ensures _ c.loop-q.invariant.0)) c.if-e-end.true) ∙ c.loop-q.invariant.1)

pub value_head-requires : goal.value_head-requires
value_head-requires c = record { sized = c.requires.sized; within = record { index = c.loop-q.q; place_is = c.loop-q.invariant.0; near = omega (arith, near_end c.requires, c.loop-q-test.true); inside = omega (arith, c.if-e-end.false, c.requires.inside) }; size_of = c.size_of-size.ensures }

-- when the code has looked at a head
the_turn : (c : After-value_head) → Turn Value c.args.v.now c.loop-q.q c.args.e c.size_of-size.result c.value_head.result
the_turn c =
    let f = c.fetch_in-r.ensures _ c.loop-q.invariant.0 in
    record { before = c.loop-q-test.true; sized = c.size_of-size.ensures.is _ _ f; fits = c.if-e-end.false; head = c.value_head.ensures _ c.loop-q.invariant.0 f }

pub returns-in_default : goal.returns-in_default
returns-in_default c = table_not (sym (turn_wrong (the_turn (goal.at.returns-in_default c).After-value_head) c.in_default.is) ∙ c.loop-q.invariant.1)

pub forward-at-requires : goal.forward-at-requires
forward-at-requires c = reach _ c.loop-q.invariant.0 (omega (arith, near_end c.requires, c.loop-q-test.true)) (omega arith)

pub overflow_cast-firsts : goal.overflow_cast-firsts
overflow_cast-firsts c = omega (arith, table_few c.loop-q.invariant.2, near_end c.requires)

pub put_row-requires : goal.put_row-requires
put_row-requires c = row_lent c.loop-q.invariant.2 c.loop-q-test.true c.requires (c.size_of-size.ensures.is _ _ (c.fetch_in-r.ensures _ c.loop-q.invariant.0)) c.if-e-end.false (own_some (the_turn (goal.at.put_row-requires c).After-value_head) _ c.in-Some.is) (omega (arith, near_end c.requires, c.loop-q-test.true)) (c.forward-at.ensures _ c.loop-q.invariant.0)

pub returns-then-not-put_row : goal.returns-then-not-put_row
returns-then-not-put_row c = table_not (sym (turn_stop (the_turn (goal.at.returns-then-not-put_row c).After-value_head) _ c.in-Some.is c.put_row.ensures.is (c.if-not-put_row.true)) ∙ c.loop-q.invariant.1)

pub overflow_add-used : goal.overflow_add-used
overflow_add-used c = omega (arith, table_few c.loop-q.invariant.2, near_end c.requires)

pub loop-q-smaller : goal.loop-q-smaller
loop-q-smaller c = omega (arith, c.loop-q-test.true, (own_some (the_turn (goal.at.loop-q-smaller c).After-value_head) _ c.in-Some.is))

pub loop-q-preserved : goal.loop-q-preserved
loop-q-preserved c = (c.forward-at.ensures _ c.loop-q.invariant.0, sym (turn_go (the_turn (goal.at.loop-q-preserved c).After-value_head) _ c.in-Some.is c.put_row.ensures.is (c.if-not-put_row.false)) ∙ c.loop-q.invariant.1, table_go c.loop-q.invariant.2 c.loop-q-test.true (head_room c.loop-q.invariant.2 c.loop-q-test.true c.requires) (c.size_of-size.ensures.is _ _ (c.fetch_in-r.ensures _ c.loop-q.invariant.0)) (turn_right (the_turn (goal.at.loop-q-preserved c).After-value_head) _ c.in-Some.is).0 (turn_right (the_turn (goal.at.loop-q-preserved c).After-value_head) _ c.in-Some.is).1 c.put_row.ensures (c.if-not-put_row.false) c.put_row.auto.places)

pub returns : goal.returns
returns c = table_end c.loop-q.invariant.2 c.requires (omega (arith, c.if-e-eq0.false)) c.loop-q-test.false c.loop-q.invariant.1
