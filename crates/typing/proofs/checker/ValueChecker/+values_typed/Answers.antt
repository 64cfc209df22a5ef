-- What is wrong in the values that are left is what is wrong in the whole row. The measure is the levels left. Assumes nothing.
use Rattle.std.proofs.lemmas.Result.{err_from_is_err_and}
use Rattle.typing.proofs.ValueLaws.{turn_end, turn_deep, turn_own, turn_leaf, turn_right, turn_wrong}
use Rattle.typing.proofs.checker.ValueChecker.+values_typed.Goals as goal
use Rattle.typing.proofs.checker.ValueChecker.+values_typed.Goals.{then-left-eq0-via-then-left-eq0, then-left-eq0-via-else-left-eq0+then-not-has_form, then-count-ne0+in_ok-values_typed, else-count-ne0}

pub returns-then-left-eq0 : goal.returns-then-left-eq0
returns-then-left-eq0 t c = elim c.then-left-eq0.branch [
  | then-left-eq0-via-then-left-eq0 w ↦ turn_deep c.loop-i.invariant c.loop-i-test.true w.if-left-eq0.true
  | then-left-eq0-via-else-left-eq0+then-not-has_form w ↦ turn_own c.loop-i.invariant c.loop-i-test.true w.if-left-eq0.false c.child_type.ensures c.type_of-own.result c.type_of-own.ensures w.has_form.ensures (w.if-not-has_form.true)
]

pub returns-in_err-values_typed : goal.returns-in_err-values_typed
returns-in_err-values_typed t c = let p = err_from_is_err_and c.from_residual.result c.from_residual.ensures.1 in rw (p.1, p.2) (turn_wrong c.loop-i.invariant c.loop-i-test.true c.if-left-eq0.false c.child_type.ensures c.type_of-own.result c.type_of-own.ensures c.has_form.ensures (c.if-not-has_form.false) c.fetch-r.ensures c.child_count-count.ensures.0 c.kind_below-below.ensures _ c.values_typed.ensures c.in_err-values_typed.was)

pub loop-i-preserved : goal.loop-i-preserved
loop-i-preserved t c = elim c.if-count-ne0.branch [
  | then-count-ne0+in_ok-values_typed w ↦ turn_right c.loop-i.invariant c.loop-i-test.true c.if-left-eq0.false c.child_type.ensures c.type_of-own.result c.type_of-own.ensures c.has_form.ensures (c.if-not-has_form.false) c.fetch-r.ensures c.child_count-count.ensures.0 w.kind_below-below.ensures _ w.values_typed.ensures w.in_ok-values_typed.was c.size_of-next.ensures
  | else-count-ne0 w ↦ turn_leaf c.loop-i.invariant c.loop-i-test.true c.if-left-eq0.false c.child_type.ensures c.type_of-own.result c.type_of-own.ensures c.has_form.ensures (c.if-not-has_form.false) c.fetch-r.ensures c.child_count-count.ensures.0 w.if-count-ne0.false c.size_of-next.ensures
]

pub returns : goal.returns
returns t c = turn_end c.loop-i.invariant c.loop-i-test.false
