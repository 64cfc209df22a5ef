-- What is wrong in the values that are left is what is wrong in the whole row. The measure is the levels left. Assumes nothing.
use Rattle.typing.proofs.ValueLaws.{ValueTurn}
use Rattle.typing.proofs.checker.ValueChecker.+values_typed.Given as goal

abbrev pub decreases-values_typed : goal.decreases-values_typed
decreases-values_typed l = l.left

abbrev pub invariant-loop-i : goal.invariant-loop-i
invariant-loop-i l = ValueTurn l.self.g.now l.self.t.now l.self.v.now l.left l.kind l.first l.n l.next l.i
