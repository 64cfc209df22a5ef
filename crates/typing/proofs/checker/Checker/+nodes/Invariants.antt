-- What is wrong in the nodes that are left is what is wrong in the whole row. The measure is twice the levels left, and one more for a row. Assumes nothing.
use Prim.Native.Nat.{◌+◌, ◌*◌}
use Rattle.typing.proofs.NodeLaws.{Turn}
use Rattle.typing.proofs.checker.Checker.+nodes.Given as goal

abbrev pub decreases-check : goal.decreases-check
decreases-check l = 2 * l.left

abbrev pub decreases-row : goal.decreases-row
decreases-row l = 2 * l.left + 1

abbrev pub invariant-row-loop-i : goal.invariant-row-loop-i
invariant-row-loop-i l = Turn l.self.g.now l.self.t.now l.self.asked.now l.left l.below l.count l.initial.scope l.scope l.i l.at
