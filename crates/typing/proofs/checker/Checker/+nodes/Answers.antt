-- What is wrong in the nodes that are left is what is wrong in the whole row. The measure is twice the levels left, and one more for a row. Assumes nothing.
use mathlib.Core.Path.{◌∙◌}
use native.Mathlib.Omega.{arith}
use Rattle.std.proofs.lemmas.Result.{err_from_is_err_and}
use Rattle.typing.proofs.LimitLaws.{ready_few, below_ready}
use Rattle.typing.proofs.NodeLaws.{misfit_deep, misfit_own, turn_room, turn_ready, turn_stop, turn_next, turn_end, checked_own, checked_below}
use Rattle.typing.proofs.checker.Checker.+nodes.Goals as goal

pub check-returns-then-left-eq0 : goal.check-returns-then-left-eq0
check-returns-then-left-eq0 t c = checked_own _ c.requires.1 (misfit_deep _ _ _ _ c.if-left-eq0.true)

pub check-shared_ref_as_front-own_test : goal.check-shared_ref_as_front-own_test
check-shared_ref_as_front-own_test t c = omega (arith, c.requires.1, ready_few c.if-left-eq0.false c.requires.0)

pub check-own_test-requires : goal.check-own_test-requires
check-own_test-requires t c = (omega (arith, c.requires.0.near, c.if-left-eq0.false), c.requires.2)

pub check-returns-in_default : goal.check-returns-in_default
check-returns-in_default t c = checked_own _ c.requires.1 (misfit_own _ _ _ _ c.if-left-eq0.false (c.own_test.ensures.fails c.in_default.is))

pub check-row-requires : goal.check-row-requires
check-row-requires t c = (omega (arith, c.decreases, c.if-left-eq0.false), (below_ready c.if-left-eq0.false c.requires.0 _ _ _ (c.own_test.ensures.stands _ c.in-Some.is), c.requires.1))

pub check-returns : goal.check-returns
check-returns t c = checked_below _ _ _ c.if-left-eq0.false (c.own_test.ensures.stands _ c.in-Some.is) c.row.ensures

pub row-frame_in-f-requires : goal.row-frame_in-f-requires
row-frame_in-f-requires t c = (omega (arith, c.requires.0.many, c.loop-i-test.true), c.requires.0.inside _ c.loop-i-test.true, turn_room c.loop-i.invariant c.loop-i-test.true)

pub row-check-requires : goal.row-check-requires
row-check-requires t c = (omega (arith, c.decreases), (turn_ready c.loop-i.invariant c.loop-i-test.true c.frame_in-f.ensures c.requires.0, c.frame_in-f.ensures.bound.full, c.fetch-head.ensures))

pub row-returns-in_err-check : goal.row-returns-in_err-check
row-returns-in_err-check t c = let p = err_from_is_err_and c.from_residual.result c.from_residual.ensures.1 in rw (p.1, p.2) (turn_stop c.loop-i.invariant c.loop-i-test.true c.frame_in-f.ensures _ c.check.ensures c.in_err-check.was)

pub row-loop-i-preserved : goal.row-loop-i-preserved
row-loop-i-preserved t c = turn_next c.loop-i.invariant c.loop-i-test.true c.frame_in-f.ensures _ c.check.ensures c.in_ok-check.was _ (c.size_in-at.ensures.0 ∙ c.fetch-head.ensures.c) c.size_in-at.ensures.1

pub row-returns : goal.row-returns
row-returns t c = turn_end c.loop-i.invariant c.loop-i-test.false
