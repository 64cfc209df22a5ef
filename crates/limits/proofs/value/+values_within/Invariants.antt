-- What is wrong in the values from the next on is what is wrong in the row. The measure is the levels left.
use Prim.Native.Nat.{◌+◌, ◌-◌, ◌*◌, ◌≤◌}
use mathlib.Core.Bool.{true}
use mathlib.Core.Path.{◌≡◌}
use Rattle.rules.specs.Faults.{every}
use Rattle.rules.specs.Faults.{tree}
use Rattle.rules.specs.Records.{heads}
use Rattle.rules.specs.Value.{value_size, values_below}
use Rattle.stream.specs.Record.{place_of}
use Rattle.limits.specs.Rows.{values_within}
use Rattle.limits.proofs.value.+values_within.Given as goal

abbrev pub decreases-values_within : goal.decreases-values_within
decreases-values_within l = l.left

abbrev pub invariant-loop : goal.invariant-loop
invariant-loop l = (l.at ≤ l.first + l.counter * 65536) × (every (tree (λ w. true) (values_below l.v) l.left) (heads (value_size l.v) (l.count - l.counter) l.at) ≡ values_within l.v l.left l.count l.first) × (l.place ≡ place_of l.at)
