-- What is wrong in the nodes from the next on is what is wrong in the row. The measure is the levels left.
use Prim.Native.Nat.{◌+◌, ◌-◌, ◌*◌, ◌≤◌}
use mathlib.Core.Path.{◌≡◌}
use Rattle.rules.specs.Faults.{every}
use Rattle.rules.specs.Records.{field_c, heads}
use Rattle.limits.specs.Rows.{node_within, nodes_within}
use Rattle.limits.proofs.templates.+nodes_within.Given as goal

abbrev pub decreases-nodes_within : goal.decreases-nodes_within
decreases-nodes_within l = l.left

abbrev pub invariant-loop : goal.invariant-loop
invariant-loop l = (l.at ≤ l.first + l.counter * 65536) × (every (node_within l.t l.left l.loops) (heads (field_c l.t) (l.count - l.counter) l.at) ≡ nodes_within l.t l.left l.loops l.count l.first)
