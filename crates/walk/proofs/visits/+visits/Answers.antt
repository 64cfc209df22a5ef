-- The proof of the cycle of calls. The measure is twice the fuel that is left, and one more between a visit and the visits below it. Assumes nothing.
use mathlib.Core.Path.{◌≡◌, refl, sym, ap, ◌∙◌}
use Prim.Native.Nat.{ℕ, ◌+◌, ◌-◌, ◌<◌}
use native.Mathlib.Omega.{arith}
use borrow.Author.Tests.{eqb-true, eqb-false}
use Rattle.walk.specs.Nodes.{after_at, ended_at}
use Rattle.walk.proofs.RunLaws.{visited_stuck, ended_going, stops}
use Rattle.walk.proofs.MarkLaws.{heads_some}
use Rattle.walk.proofs.FormLaws.{literal_is, place_is, unknown_is, build_none, if_lost, if_other, if_is, match_lost, match_other, match_missing, for_piece, listed_none, listed_other, for_none}
use Rattle.walk.proofs.SeparatorLaws.{Apart, past_none, past_written, due_later}
use Rattle.walk.proofs.LoopLaws.{follows, sequence_lost, sequence_start, sequence_end, items_few}
use Rattle.walk.proofs.LoopLaws.{turns_visitable, turns_for, turns_falls, turns_stop, turns_next, apart_room, apart_stop, item_visitable, item_falls, item_stop, item_next}
use Rattle.walk.proofs.ForLaws.{turn_room, for_start, for_end, for_there, for_apart_stop, for_visitable, for_falls, for_stop, for_next}
use Rattle.walk.proofs.ForLaws.{turned_over, list_there, turned_whole}
use Rattle.walk.proofs.BuildLaws.{BuildTurn, build_start, build_end, keyword_stop, child_stop, keyword_turn, child_missing, child_visitable, child_falls, child_turn}
use Rattle.walk.proofs.EnterLaws.{falls_there, branch_visitable, branch_visited, expand_missing, count_few, expand_room, enter_lost, enter_visitable, enter_falls, enter_visited}
use Rattle.walk.proofs.MatchLaws.{no_arm, an_arm, arm_there, arm_visitable, arm_falls, arm_visited}
use Rattle.walk.proofs.EnterLaws.{stopped_visited, form_asked, form_falls, form_here, form_formed, form_visited}
use mathlib.Core.List.{List}
use mathlib.Core.Logic.{inl, inr}
use Rattle.rules.specs.Walk.{End, Asked}
use Rattle.rules.specs.declared.Form.{Form}
use Rattle.rules.specs.declared.Form.TheVariants.{For}
use Rattle.walk.specs.declared.state.Run.{Run}
use Rattle.walk.specs.Asks.{Formed}
use Rattle.walk.specs.Nodes.{asked_at, form_asked_at}
use Rattle.walk.specs.Run.{stopped_of, going_of, RanFrom, VisitedFrom}
use Rattle.walk.specs.Visits.{sources_of, visit_end, form_end}
use Rattle.walk.proofs.PathLaws.{value_stands}
use Rattle.walk.proofs.RunLaws.{ran_is, visited_ran}
use Rattle.std.proofs.lemmas.Result.{err_from_is_err_and}
use Rattle.walk.proofs.visits.+visits.Goals as goal
use Rattle.walk.proofs.visits.+visits.Goals.{visit-After-form_of, for_node-In_ok-here}
use Rattle.walk.proofs.visits.+visits.Goals.{build_items-Joined-e-eq0, build_items-then-e-eq0+in_ok-end, build_items-else-e-eq0+else-head-used+in_ok-end-2}
use Rattle.walk.proofs.visits.+visits.Goals.{for_items-Joined-is_due, for_items-then-is_due+in_ok-written, for_items-else-is_due}
use Rattle.walk.proofs.visits.+visits.Goals.{sequence_items-Joined-is_due, sequence_items-then-is_due+in_ok-written, sequence_items-else-is_due, sequence_items-then-is_for+in_ok-turns, sequence_items-else-is_for+in_ok-end}

pub build_items-returns-in_default : goal.build_items-returns-in_default
build_items-returns-in_default t c = visited_stuck c.args.at c.requires.0.visitable.room (ap stopped_of c.stuck.ensures) (build_none _ _ _ _ _ _ _ _ _ _ _ c.requires.1.b (sym (c.in_default.ensures _ c.requires.0.visitable.lent.productions_are)))

pub build_items-loop-init : goal.build_items-loop-init
build_items-loop-init t c = build_start c.requires.0 c.requires.1 _ (rw c.from-place.ensures (sym (c.in-Some.ensures _ c.requires.0.visitable.lent.productions_are))) (omega arith) c.fetch-count.ensures

pub build_items-returns-in_err-end : goal.build_items-returns-in_err-end
build_items-returns-in_err-end t c = let p = err_from_is_err_and c.from_residual.result c.from_residual.ensures.1 in rw (p.1, p.2) (keyword_stop c.requires.0 c.loop.invariant c.loop-test.true c.fetch-e.ensures c.if-e-eq0.true c.in_err-end.ensures c.write.auto.out (stops _))

pub build_items-returns-then-head-used : goal.build_items-returns-then-head-used
build_items-returns-then-head-used t c = child_missing c.requires.0 c.loop.invariant c.loop-test.true c.fetch-e.ensures c.if-e-eq0.false c.if-head-used.true (ap stopped_of c.stuck-then-head-used.ensures)

pub build_items-visit-requires : goal.build_items-visit-requires
build_items-visit-requires t c = (omega (arith, c.decreases, child_falls c.requires.0 c.loop.invariant c.loop-test.true c.fetch-e.ensures c.if-e-eq0.false c.if-head-used.false c.below-below.ensures), child_visitable c.requires.0 c.loop.invariant c.loop-test.true c.fetch-e.ensures c.if-e-eq0.false c.if-head-used.false c.below-below.ensures)

pub build_items-returns-in_err-end-2 : goal.build_items-returns-in_err-end-2
build_items-returns-in_err-end-2 t c = let p = err_from_is_err_and c.from_residual-in_err-end-2.result c.from_residual-in_err-end-2.ensures.1 in rw (p.1, p.2) (child_stop c.requires.0 c.loop.invariant c.loop-test.true c.fetch-e.ensures c.if-e-eq0.false c.if-head-used.false c.below-below.ensures c.in_err-end-2.ensures c.visit.auto.out (stops _))

-- What an element came to, a keyword or not.
build_items_turn : (t : ℕ) (c : build_items-Joined-e-eq0 t)
    → BuildTurn (sources_of c.args.s.now) c.args.at c.args.out.now c.args.scratch.now c.from-place.result c.fetch-count.result.d c.args.head.d c.fetch-e.result c.if-e-eq0.out c.if-e-eq0.scratch c.loop.element c.if-e-eq0.child c.if-e-eq0.used c.loop.here (going_of c.if-e-eq0.end) c.loop.counter
build_items_turn t c =
    elim c.if-e-eq0.branch [
      | build_items-then-e-eq0+in_ok-end w ↦ rw (w.out-is, w.scratch-is, w.child-is, w.used-is, w.end-is) (keyword_turn c.requires.0 c.loop.invariant c.loop-test.true c.fetch-e.ensures w.if-e-eq0.true w.in_ok-end.ensures w.write.auto.out refl)
      | build_items-else-e-eq0+else-head-used+in_ok-end-2 w ↦ rw (w.out-is, w.scratch-is, w.child-is, w.used-is, w.end-is) (child_turn c.requires.0 c.loop.invariant c.loop-test.true c.fetch-e.ensures w.if-e-eq0.false w.if-head-used.false w.below-below.ensures w.in_ok-end-2.ensures w.visit.auto.out refl w.visit.auto.scratch _ w.size_at-child.ensures.0 w.size_at-child.ensures.1)
    ]

pub build_items-loop-preserved : goal.build_items-loop-preserved
build_items-loop-preserved t c = (build_items_turn t (goal.at.build_items-loop-preserved t c).Joined-e-eq0).goes c.after-here.ensures _ c.size_of-element.ensures

pub build_items-returns : goal.build_items-returns
build_items-returns t c = ended_going c.loop.here c.progress.ensures (build_end c.requires.0 c.loop.invariant c.loop-test.false)

pub expand_body-returns-in_default : goal.expand_body-returns-in_default
expand_body-returns-in_default t c = visited_stuck c.args.at c.requires.0.visitable.room (ap stopped_of c.stuck.ensures) (expand_missing c.requires.0 _ c.requires.1.b (sym c.in_default.ensures))

pub expand_body-pass-requires : goal.expand_body-pass-requires
expand_body-pass-requires t c = (follows c.requires.0, expand_room c.requires.0 _ c.requires.1.b (sym c.in-Some.ensures) _ (c.from-count.ensures ∙ c.requires.1.d), omega (arith, c.requires.0.visitable.near, count_few c.requires.0 _ c.requires.1.b (sym c.in-Some.ensures) _ (c.from-count.ensures ∙ c.requires.1.d)))

pub expand_body-returns-then-not-pass : goal.expand_body-returns-then-not-pass
expand_body-returns-then-not-pass t c = enter_lost c.requires.0 _ c.requires.1.b (sym c.in-Some.ensures) _ (c.from-count.ensures ∙ c.requires.1.d) c.pass.ensures c.pass.auto.scratch (c.if-not-pass.true) (ap stopped_of c.stuck-then-not-pass.ensures)

pub expand_body-visit-requires : goal.expand_body-visit-requires
expand_body-visit-requires t c = (omega (arith, c.decreases, enter_falls c.requires.0 _ c.requires.1.b (sym c.in-Some.ensures) _ (c.from-count.ensures ∙ c.requires.1.d) c.pass.ensures c.pass.auto.scratch (c.if-not-pass.false) _ c.body_of-body.ensures.0 c.below.ensures (rw c.behind-next.ensures at c.framed-below.ensures)), enter_visitable c.requires.0 _ c.requires.1.b (sym c.in-Some.ensures) _ (c.from-count.ensures ∙ c.requires.1.d) c.pass.ensures c.pass.auto.scratch (c.if-not-pass.false) _ c.body_of-body.ensures.0 c.below.ensures (rw c.behind-next.ensures at c.framed-below.ensures) c.body_of-body.ensures.1)

pub expand_body-returns : goal.expand_body-returns
expand_body-returns t c = enter_visited c.requires.0 _ c.requires.1.b (sym c.in-Some.ensures) _ (c.from-count.ensures ∙ c.requires.1.d) c.pass.ensures c.pass.auto.scratch (c.if-not-pass.false) _ c.body_of-body.ensures.0 c.below.ensures (rw c.behind-next.ensures at c.framed-below.ensures) c.visit.ensures

pub for_items-loop-done-init : goal.for_items-loop-done-init
for_items-loop-done-init t c = for_start c.requires.0 c.requires.1

pub for_items-returns-in_err-written : goal.for_items-returns-in_err-written
for_items-returns-in_err-written t c = let p = err_from_is_err_and c.from_residual.result c.from_residual.ensures.1 in rw (p.1, p.2) (for_apart_stop c.requires.0 c.requires.1 c.loop-done.invariant c.loop-done-test.true (rw c.from.ensures at (c.in_err-written.ensures _ (due_later _ _ (sym c.is_due.ensures ∙ c.if-is_due.true)))) c.separate.auto.out (stops _))

-- What is so of an item once the separator before it is written or not asked for.
for_items_past : (t : ℕ) (c : for_items-Joined-is_due t)
    → Apart c.args.s.now.grammar.now c.args.sep (c.args.before + c.loop-done.done) c.loop-done.here c.loop-done.out (ended_at 0 c.if-is_due.here) c.if-is_due.out
    × (c.if-is_due.here ≡ after_at c.args.at (ended_at 0 c.if-is_due.here))
for_items_past t c =
    elim c.if-is_due.branch [
      | for_items-then-is_due+in_ok-written w ↦ past_written c.args.at c.loop-done.invariant.is (rw c.from.ensures at (w.in_ok-written.ensures _ (due_later _ _ (sym c.is_due.ensures ∙ w.if-is_due.true)))) w.separate.auto.out refl w.after-here.ensures w.out-is w.here-is
      | for_items-else-is_due w ↦ past_none _ _ c.args.at c.loop-done.invariant.is (turn_room c.requires.0 c.requires.1 c.loop-done.invariant c.loop-done-test.true) _ (sym (rw c.from.ensures at c.is_due.ensures) ∙ w.if-is_due.false) w.out-is w.here-is
    ]

pub for_items-child_at-item-requires : goal.for_items-child_at-item-requires
for_items-child_at-item-requires t c = for_there c.requires.0 c.requires.1 c.loop-done.invariant c.loop-done-test.true

pub for_items-visit-requires : goal.for_items-visit-requires
for_items-visit-requires t c =
    let past = for_items_past t (goal.at.for_items-visit-requires t c).Joined-is_due in
    (omega (arith, c.decreases, for_falls c.requires.0 c.requires.1 c.loop-done.invariant c.loop-done-test.true past.0 past.1 _ c.child_at-item.ensures _ c.bind.ensures c.bind.auto.scratch c.below.ensures c.bound-below.ensures), for_visitable c.requires.0 c.requires.1 c.loop-done.invariant c.loop-done-test.true past.0 past.1 _ c.child_at-item.ensures _ c.bind.ensures c.bind.auto.scratch c.below.ensures c.bound-below.ensures)

pub for_items-returns-in_err-end : goal.for_items-returns-in_err-end
for_items-returns-in_err-end t c =
    let past = for_items_past t (goal.at.for_items-returns-in_err-end t c).Joined-is_due in
    let p = err_from_is_err_and c.from_residual-in_err-end.result c.from_residual-in_err-end.ensures.1 in
    rw (p.1, p.2) (for_stop c.requires.0 c.requires.1 c.loop-done.invariant c.loop-done-test.true past.0 past.1 _ c.child_at-item.ensures _ c.bind.ensures c.bind.auto.scratch c.below.ensures c.bound-below.ensures c.in_err-end.ensures c.visit.auto.out (stops _))

pub for_items-loop-done-preserved : goal.for_items-loop-done-preserved
for_items-loop-done-preserved t c =
    let past = for_items_past t (goal.at.for_items-loop-done-preserved t c).Joined-is_due in
    for_next c.requires.0 c.requires.1 c.loop-done.invariant c.loop-done-test.true past.0 past.1 _ c.child_at-item.ensures _ c.bind.ensures c.bind.auto.scratch c.below.ensures c.bound-below.ensures c.in_ok-end.ensures c.visit.auto.out refl c.visit.auto.scratch c.after-here-in-loop-done.ensures

pub for_items-returns : goal.for_items-returns
for_items-returns t c = ended_going c.loop-done.here c.progress.ensures (for_end c.requires.0 c.requires.1 c.loop-done.invariant c.loop-done-test.false)

-- What is so of a for whose step is counted and which a level is left for.
for_node_formed : (t : ℕ) (c : for_node-In_ok-here t) → Formed For (sources_of c.args.s.now) c.in_ok-here.here c.args.out.now c.args.scratch.now
for_node_formed t c = form_formed c.requires.0 c.in_ok-here.ensures.1 c.in_ok-here.ensures.0 c.in_ok-here.ensures.2 c.requires.1

for_node_asked : (t : ℕ) (c : for_node-In_ok-here t) (asked : Asked) {u : Run} {out' scratch' : List ℕ}
    → VisitedFrom (form_asked_at For asked c.args.s.now.grammar.now c.args.s.now.templates.now c.args.s.now.value.now c.in_ok-here.here c.args.out.now c.args.scratch.now) c.in_ok-here.here u c.args.out.now out' c.args.scratch.now scratch'
    → VisitedFrom (asked_at asked c.args.s.now.grammar.now c.args.s.now.templates.now c.args.s.now.value.now c.args.at c.args.out.now c.args.scratch.now) c.args.at u c.args.out.now out' c.args.scratch.now scratch'
for_node_asked t c asked v = form_asked c.requires.0 asked c.in_ok-here.ensures.1 c.in_ok-here.ensures.0 c.in_ok-here.ensures.2 c.requires.1 v

pub for_node-returns-in_err-here : goal.for_node-returns-in_err-here
for_node-returns-in_err-here t c = let p = err_from_is_err_and c.from_residual.result c.from_residual.ensures.1 in rw (p.1, p.2) (turned_over _ (stopped_visited c.requires.0 _ _ c.in_err-here.ensures))

pub for_node-returns-in_default : goal.for_node-returns-in_default
for_node-returns-in_default t c = let h = (goal.at.for_node-returns-in_default t c).In_ok-here in turned_over c.stuck.result ((for_node_asked t h _ (visited_stuck c.in_ok-here.here (for_node_formed t h).visitable.room (ap stopped_of c.stuck.ensures) (for_none _ _ _ _ _ _ _ _ _ _ _ (listed_none _ _ _ _ _ _ _ (sym c.in_default.ensures.is))))))

pub for_node-returns-then-list-ne3 : goal.for_node-returns-then-list-ne3
for_node-returns-then-list-ne3 t c = let h = (goal.at.for_node-returns-then-list-ne3 t c).In_ok-here in turned_over c.stuck-then-list-ne3.result ((for_node_asked t h _ (visited_stuck c.in_ok-here.here (for_node_formed t h).visitable.room (ap stopped_of c.stuck-then-list-ne3.ensures) (for_none _ _ _ _ _ _ _ _ _ _ _ (listed_other _ _ _ _ _ _ _ _ (sym c.in-Some.ensures.is) (λ e. c.if-list-ne3.true ((rw c.from.ensures at c.fetch-list.ensures).kind ∙ e)))))))

pub for_node-for_items-requires : goal.for_node-for_items-requires
for_node-for_items-requires t c = let h = (goal.at.for_node-for_items-requires t c).In_ok-here in (omega (arith, c.decreases, form_falls c.requires.0 c.in_ok-here.ensures.1 c.in_ok-here.ensures.0), ((for_node_formed t h), (list_there _ (sym c.in-Some.ensures.is) (value_stands c.in-Some.ensures) (rw c.from.ensures at c.fetch-list.ensures) c.if-list-ne3.false), c.requires.2))

pub for_node-returns-in_err-so_far : goal.for_node-returns-in_err-so_far
for_node-returns-in_err-so_far t c =
    let h = (goal.at.for_node-returns-in_err-so_far t c).In_ok-here in
    let p = err_from_is_err_and c.from_residual-in_err-so_far.result c.from_residual-in_err-so_far.ensures.1 in
    rw (p.1, p.2) (turned_over _ (for_node_asked t h _ c.in_err-so_far.ensures))

pub for_node-returns : goal.for_node-returns
for_node-returns t c = let h = (goal.at.for_node-returns t c).In_ok-here in rw c.from-2.ensures (turned_whole _ c.in_ok-here.ensures.0 (for_node_formed t h) (list_there _ (sym c.in-Some.ensures.is) (value_stands c.in-Some.ensures) (rw c.from.ensures at c.fetch-list.ensures) c.if-list-ne3.false) (for_node_asked t h _ c.in_ok-so_far.ensures))

pub if_branch-returns-in_default : goal.if_branch-returns-in_default
if_branch-returns-in_default t c = visited_stuck c.args.at c.requires.visitable.room (ap stopped_of c.stuck.ensures) (if_lost _ _ _ _ _ _ _ _ _ _ (sym c.in_default.ensures.is))

pub if_branch-returns-then-head-ne2 : goal.if_branch-returns-then-head-ne2
if_branch-returns-then-head-ne2 t c = visited_stuck c.args.at c.requires.visitable.room (ap stopped_of c.stuck-then-head-ne2.ensures) (if_other _ _ _ _ _ _ _ _ _ _ _ (sym c.in-Some.ensures.is) _ (rw c.from.ensures at c.fetch-head.ensures).kind c.if-head-ne2.true)

pub if_branch-visit-requires : goal.if_branch-visit-requires
if_branch-visit-requires t c = (omega (arith, c.decreases, falls_there c.args.at _ _ c.below-below.ensures), branch_visitable c.requires c.below-below.ensures c.fetch-head.result.a c.branch_of-branch.ensures.0 c.branch_of-branch.ensures.1)

pub if_branch-returns : goal.if_branch-returns
if_branch-returns t c = branch_visited c.requires c.below-below.ensures (if_is _ _ _ _ _ _ _ _ _ _ _ (sym c.in-Some.ensures.is) _ (rw c.from.ensures at c.fetch-head.ensures).kind c.if-head-ne2.false _ _ (rw c.from.ensures at c.fetch-head.ensures).a c.branch_of-branch.ensures.0) c.visit.ensures

pub match_arm-returns-in_default : goal.match_arm-returns-in_default
match_arm-returns-in_default t c = visited_stuck c.args.at c.requires.0.visitable.room (ap stopped_of c.stuck.ensures) (match_lost _ _ _ _ _ _ _ _ _ _ (sym c.in_default.ensures.is))

pub match_arm-returns-then-case-ne5 : goal.match_arm-returns-then-case-ne5
match_arm-returns-then-case-ne5 t c = visited_stuck c.args.at c.requires.0.visitable.room (ap stopped_of c.stuck-then-case-ne5.ensures) (match_other _ _ _ _ _ _ _ _ _ _ _ (sym c.in-Some.ensures.is) _ (rw c.from.ensures at c.fetch-case.ensures).kind c.if-case-ne5.true)

pub match_arm-returns-then-head-case : goal.match_arm-returns-then-head-case
match_arm-returns-then-head-case t c = visited_stuck c.args.at c.requires.0.visitable.room (ap stopped_of c.stuck-then-head-case.ensures) (match_missing _ _ _ _ _ _ _ _ _ _ _ (sym c.in-Some.ensures.is) _ (rw c.from.ensures at c.fetch-case.ensures).kind c.if-case-ne5.false _ (rw c.from.ensures at c.fetch-case.ensures).a (no_arm c.requires.1 _ c.if-head-case.true))

pub match_arm-child_at-content-requires : goal.match_arm-child_at-content-requires
match_arm-child_at-content-requires t c = arm_there c.requires.0 (value_stands c.in-Some.ensures) (rw c.from.ensures at c.fetch-case.ensures) c.if-case-ne5.false

pub match_arm-visit-requires : goal.match_arm-visit-requires
match_arm-visit-requires t c = (omega (arith, c.decreases, arm_falls c.requires.0 (value_stands c.in-Some.ensures) (rw c.from.ensures at c.fetch-case.ensures) c.if-case-ne5.false (an_arm c.requires.1 _ c.if-head-case.false c.arm_of-arm.ensures.0) _ c.child_at-content.ensures _ c.bind.ensures c.below.ensures c.bound-below.ensures), arm_visitable c.requires.0 (value_stands c.in-Some.ensures) (rw c.from.ensures at c.fetch-case.ensures) c.if-case-ne5.false (an_arm c.requires.1 _ c.if-head-case.false c.arm_of-arm.ensures.0) _ c.child_at-content.ensures _ c.bind.ensures c.below.ensures c.bound-below.ensures c.arm_of-arm.ensures.1 c.bind.auto.scratch)

pub match_arm-returns : goal.match_arm-returns
match_arm-returns t c = arm_visited c.requires.0 (value_stands c.in-Some.ensures) (rw c.from.ensures at c.fetch-case.ensures) c.if-case-ne5.false (an_arm c.requires.1 _ c.if-head-case.false c.arm_of-arm.ensures.0) _ c.child_at-content.ensures _ c.bind.ensures c.below.ensures c.bound-below.ensures (sym c.in-Some.ensures.is) c.visit.ensures

pub sequence_items-returns-then-not-fills : goal.sequence_items-returns-then-not-fills
sequence_items-returns-then-not-fills t c = sequence_lost c.requires.0 c.fetch-e.ensures (sym c.fills.ensures ∙ c.if-not-fills.true) (ap stopped_of c.stuck.ensures)

pub sequence_items-loop-init : goal.sequence_items-loop-init
sequence_items-loop-init t c = sequence_start c.requires.0 c.fetch-e.ensures (sym c.fills.ensures ∙ c.if-not-fills.false) c.separator_of-sep.ensures c.requires.1

pub sequence_items-for_node-requires : goal.sequence_items-for_node-requires
sequence_items-for_node-requires t c =
    let k = eqb-true _ _ (sym c.is_for.ensures ∙ c.if-is_for.true) in
    (omega (arith, c.decreases, turns_falls c.requires.0 c.loop.invariant c.loop-test.true c.fetch-next.ensures k c.below.ensures), (turns_visitable c.requires.0 c.loop.invariant c.loop-test.true c.fetch-next.ensures k c.below.ensures, turns_for c.requires.0 c.loop.invariant c.loop-test.true c.fetch-next.ensures k c.below.ensures, items_few c.requires.0 c.loop.invariant c.loop-test.true))

pub sequence_items-returns-in_err-turns : goal.sequence_items-returns-in_err-turns
sequence_items-returns-in_err-turns t c = let p = err_from_is_err_and c.from_residual.result c.from_residual.ensures.1 in rw (p.1, p.2) (turns_stop c.requires.0 c.loop.invariant c.loop-test.true c.fetch-next.ensures (eqb-true _ _ (sym c.is_for.ensures ∙ c.if-is_for.true)) c.below.ensures c.in_err-turns.ensures c.for_node.auto.out (stops _))

pub sequence_items-returns-in_err-written : goal.sequence_items-returns-in_err-written
sequence_items-returns-in_err-written t c = let p = err_from_is_err_and c.from_residual-in_err-written.result c.from_residual-in_err-written.ensures.1 in rw (p.1, p.2) (apart_stop c.requires.0 c.loop.invariant c.loop-test.true c.fetch-next.ensures (eqb-false _ _ (sym c.is_for.ensures ∙ c.if-is_for.false)) (c.in_err-written.ensures _ (due_later _ _ (sym c.is_due.ensures ∙ c.if-is_due.true))) c.separate.auto.out (stops _))

-- The same of an item of a sequence itself.
sequence_items_past : (t : ℕ) (c : sequence_items-Joined-is_due t)
    → Apart c.args.s.now.grammar.now c.separator_of-sep.result c.loop.n c.loop.here c.loop.out (ended_at 0 c.if-is_due.here) c.if-is_due.out × (c.if-is_due.here ≡ after_at c.args.at (ended_at 0 c.if-is_due.here))
sequence_items_past t c =
    elim c.if-is_due.branch [
      | sequence_items-then-is_due+in_ok-written w ↦ past_written c.args.at c.loop.invariant.is (w.in_ok-written.ensures _ (due_later _ _ (sym c.is_due.ensures ∙ w.if-is_due.true))) w.separate.auto.out refl w.after-here-then-is_due.ensures w.out-is w.here-is
      | sequence_items-else-is_due w ↦ past_none _ _ c.args.at c.loop.invariant.is (apart_room c.requires.0 c.loop.invariant c.loop-test.true c.fetch-next.ensures (eqb-false _ _ (sym c.is_for.ensures ∙ c.if-is_for.false))) _ (sym c.is_due.ensures ∙ w.if-is_due.false) w.out-is w.here-is
    ]

pub sequence_items-visit-requires : goal.sequence_items-visit-requires
sequence_items-visit-requires t c =
    let past = sequence_items_past t (goal.at.sequence_items-visit-requires t c).Joined-is_due in
    let k = eqb-false _ _ (sym c.is_for.ensures ∙ c.if-is_for.false) in
    (omega (arith, c.decreases, item_falls c.requires.0 c.loop.invariant c.loop-test.true c.fetch-next.ensures k past.0 past.1 c.below-else-is_for.ensures), item_visitable c.requires.0 c.loop.invariant c.loop-test.true c.fetch-next.ensures k past.0 past.1 c.below-else-is_for.ensures)

pub sequence_items-returns-in_err-end : goal.sequence_items-returns-in_err-end
sequence_items-returns-in_err-end t c =
    let past = sequence_items_past t (goal.at.sequence_items-returns-in_err-end t c).Joined-is_due in
    let k = eqb-false _ _ (sym c.is_for.ensures ∙ c.if-is_for.false) in
    let p = err_from_is_err_and c.from_residual-in_err-end.result c.from_residual-in_err-end.ensures.1 in
    rw (p.1, p.2) (item_stop c.requires.0 c.loop.invariant c.loop-test.true c.fetch-next.ensures k past.0 past.1 c.below-else-is_for.ensures c.in_err-end.ensures c.visit.auto.out (stops _))

-- What a node of the sequence came to, a for or an item.
pub sequence_items-loop-preserved : goal.sequence_items-loop-preserved
sequence_items-loop-preserved t c = rw c.size_in-item.ensures.0 (
    elim c.if-is_for.branch [
      | sequence_items-then-is_for+in_ok-turns w ↦ rw (w.out-is, w.scratch-is, w.n-is, w.here-is) (turns_next c.requires.0 c.loop.invariant c.loop-test.true c.fetch-next.ensures (eqb-true _ _ (sym c.is_for.ensures ∙ w.if-is_for.true)) w.below.ensures w.in_ok-turns.ensures w.for_node.auto.out refl w.for_node.auto.scratch w.after-here.ensures)
      | sequence_items-else-is_for+in_ok-end w ↦
          let k = eqb-false _ _ (sym c.is_for.ensures ∙ w.if-is_for.false) in
          let past : Apart c.args.s.now.grammar.now c.separator_of-sep.result c.loop.n c.loop.here c.loop.out (ended_at 0 w.if-is_due.here) w.if-is_due.out × (w.if-is_due.here ≡ after_at c.args.at (ended_at 0 w.if-is_due.here)) =
          elim w.if-is_due.branch [
            | sequence_items-then-is_due+in_ok-written x ↦ past_written c.args.at c.loop.invariant.is (x.in_ok-written.ensures _ (due_later _ _ (sym w.is_due.ensures ∙ x.if-is_due.true))) x.separate.auto.out refl x.after-here-then-is_due.ensures x.out-is x.here-is
            | sequence_items-else-is_due x ↦ past_none _ _ c.args.at c.loop.invariant.is (apart_room c.requires.0 c.loop.invariant c.loop-test.true c.fetch-next.ensures k) _ (sym w.is_due.ensures ∙ x.if-is_due.false) x.out-is x.here-is
          ] in
          rw (w.out-is, w.scratch-is, w.n-is, w.here-is) (item_next c.requires.0 c.loop.invariant c.loop-test.true c.fetch-next.ensures k past.0 past.1 w.below-else-is_for.ensures w.in_ok-end.ensures w.visit.auto.out refl w.visit.auto.scratch w.after-here-else-is_for.ensures)
    ])

pub sequence_items-returns : goal.sequence_items-returns
sequence_items-returns t c = ended_going c.loop.here c.progress.ensures (sequence_end c.requires.0 c.loop.invariant c.loop-test.false)

-- What is so of a node whose step is counted and which a level is left for: its form is the one of its head, and what it comes to by its form, it
-- comes to.
visit_formed : (t : ℕ) (c : visit-After-form_of t) {form : Form} → c.form_of.result ≡ form → Formed form (sources_of c.args.s.now) c.in_ok-here.here c.args.out.now c.args.scratch.now
visit_formed t c e =
    form_formed c.requires c.in_ok-here.ensures.1 c.in_ok-here.ensures.0 c.in_ok-here.ensures.2 (form_here c.requires c.in_ok-here.ensures.1 c.in_ok-here.ensures.0 c.fetch-head.ensures _ c.form_of.ensures ∙ e)

visit_falls : (t : ℕ) (c : visit-After-form_of t) → c.in_ok-here.here.fuel - c.in_ok-here.here.steps < c.args.at.fuel - c.args.at.steps
visit_falls t c = form_falls c.requires c.in_ok-here.ensures.1 c.in_ok-here.ensures.0

visit_visited : (t : ℕ) (c : visit-After-form_of t) {form : Form} → c.form_of.result ≡ form → {u : Run} {out' scratch' : List ℕ}
    → VisitedFrom (form_end form (sources_of c.args.s.now) c.in_ok-here.here c.args.out.now c.args.scratch.now) c.in_ok-here.here u c.args.out.now out' c.args.scratch.now scratch'
    → VisitedFrom (visit_end (sources_of c.args.s.now) c.args.at c.args.out.now c.args.scratch.now) c.args.at u c.args.out.now out' c.args.scratch.now scratch'
visit_visited t c e v =
    form_visited c.requires c.in_ok-here.ensures.1 c.in_ok-here.ensures.0 c.in_ok-here.ensures.2 (form_here c.requires c.in_ok-here.ensures.1 c.in_ok-here.ensures.0 c.fetch-head.ensures _ c.form_of.ensures ∙ e) v

visit_ran : (t : ℕ) (c : visit-After-form_of t) {form : Form} → c.form_of.result ≡ form → {e : End} → e ≡ form_end form (sources_of c.args.s.now) c.in_ok-here.here c.args.out.now c.args.scratch.now
    → {u : Run} {out' : List ℕ} → RanFrom e c.in_ok-here.here u c.args.out.now out'
    → VisitedFrom (visit_end (sources_of c.args.s.now) c.args.at c.args.out.now c.args.scratch.now) c.args.at u c.args.out.now out' c.args.scratch.now c.args.scratch.now
visit_ran t c e same v = visit_visited t c e (visited_ran _ _ (ran_is same v))

pub visit-returns-in_err-here : goal.visit-returns-in_err-here
visit-returns-in_err-here t c = let p = err_from_is_err_and c.from_residual.result c.from_residual.ensures.1 in rw (p.1, p.2) (stopped_visited c.requires _ _ c.in_err-here.ensures)

pub visit-build_items-requires : goal.visit-build_items-requires
visit-build_items-requires t c = let h = (goal.at.visit-build_items-requires t c).After-form_of in (omega (arith, c.decreases, visit_falls t h), (visit_formed t h c.in-Build.is, c.fetch-head.ensures))

pub visit-write-requires : goal.visit-write-requires
visit-write-requires t c = let h = (goal.at.visit-write-requires t c).After-form_of in (visit_formed t h c.in-Literal.is).visitable.room

pub visit-place-requires : goal.visit-place-requires
visit-place-requires t c = let h = (goal.at.visit-place-requires t c).After-form_of in let f = visit_formed t h c.in-Place.is in (follows f, omega (arith, f.level, f.visitable.near), f.visitable.room, f.visitable.lent.productions_are, heads_some f.visitable.lent.productions_are)

pub visit-expand_body-requires : goal.visit-expand_body-requires
visit-expand_body-requires t c = let h = (goal.at.visit-expand_body-requires t c).After-form_of in (omega (arith, c.decreases, visit_falls t h), (visit_formed t h c.in-Expand.is, c.fetch-head.ensures))

pub visit-if_branch-requires : goal.visit-if_branch-requires
visit-if_branch-requires t c = let h = (goal.at.visit-if_branch-requires t c).After-form_of in (omega (arith, c.decreases, visit_falls t h), visit_formed t h c.in-If.is)

pub visit-sequence_items-requires : goal.visit-sequence_items-requires
visit-sequence_items-requires t c = let h = (goal.at.visit-sequence_items-requires t c).After-form_of in (omega (arith, c.decreases, visit_falls t h), (visit_formed t h c.in-Sequence.is, c.fetch-head.ensures))

pub visit-match_arm-requires : goal.visit-match_arm-requires
visit-match_arm-requires t c = let h = (goal.at.visit-match_arm-requires t c).After-form_of in (omega (arith, c.decreases, visit_falls t h), (visit_formed t h c.in-Match.is, c.fetch-head.ensures))

pub visit-returns-in-Build : goal.visit-returns-in-Build
visit-returns-in-Build t c = let h = (goal.at.visit-returns-in-Build t c).After-form_of in visit_visited t h c.in-Build.is c.build_items.ensures

pub visit-returns-in-Literal : goal.visit-returns-in-Literal
visit-returns-in-Literal t c = let h = (goal.at.visit-returns-in-Literal t c).After-form_of in visit_ran t h c.in-Literal.is (literal_is _ _ _ _ _ _ _ _ _ _ _ c.fetch-head.ensures.b) c.write.ensures

pub visit-returns-in-Place : goal.visit-returns-in-Place
visit-returns-in-Place t c = let h = (goal.at.visit-returns-in-Place t c).After-form_of in visit_ran t h c.in-Place.is (place_is _ _ _ _ _ _) c.place.ensures

pub visit-returns-in-Expand : goal.visit-returns-in-Expand
visit-returns-in-Expand t c = let h = (goal.at.visit-returns-in-Expand t c).After-form_of in visit_visited t h c.in-Expand.is c.expand_body.ensures

pub visit-returns-in-If : goal.visit-returns-in-If
visit-returns-in-If t c = let h = (goal.at.visit-returns-in-If t c).After-form_of in visit_visited t h c.in-If.is c.if_branch.ensures

pub visit-returns-in-For : goal.visit-returns-in-For
visit-returns-in-For t c =
    let h = (goal.at.visit-returns-in-For t c).After-form_of in
    elim c.in-For.is [
      | inl e ↦ visit_visited t h e (visited_stuck c.in_ok-here.here (visit_formed t h e).visitable.room (ap stopped_of c.stuck.ensures) (for_piece _ _ _ _ _ _ _ _ _ _))
      | inr e ↦ visit_visited t h e (visited_stuck c.in_ok-here.here (visit_formed t h e).visitable.room (ap stopped_of c.stuck.ensures) (unknown_is _ _ _ _ _ _ _ _ _ _))
    ]

pub visit-returns-in-Sequence : goal.visit-returns-in-Sequence
visit-returns-in-Sequence t c = let h = (goal.at.visit-returns-in-Sequence t c).After-form_of in visit_visited t h c.in-Sequence.is c.sequence_items.ensures

pub visit-returns-in-Match : goal.visit-returns-in-Match
visit-returns-in-Match t c = let h = (goal.at.visit-returns-in-Match t c).After-form_of in visit_visited t h c.in-Match.is c.match_arm.ensures
