-- What is wrong in the nodes from the next on is what is wrong in the row. The measure is the levels left.
use Prim.Native.Nat.{ℕ, ◌+◌, ◌-◌, ◌*◌, ◌≤◌}
use mathlib.Core.Path.{◌≡◌}
use mathlib.Core.List.{List}
use Rattle.rules.specs.Faults.{every, tree}
use Rattle.rules.specs.Names.{node_named}
use Rattle.rules.specs.Records.{field_c, heads}
use Rattle.rules.specs.Templates.{nodes_below}
use Rattle.limits.specs.Rows.{nodes_named}
use Rattle.limits.specs.Tables.{NodeCounts}
use Rattle.limits.proofs.names.+nodes_named.Given as goal

abbrev pub decreases-nodes_named : goal.decreases-nodes_named
decreases-nodes_named l = l.left

abbrev pub invariant-loop : goal.invariant-loop
invariant-loop l = (l.at ≤ l.first + l.counter * 65536) × ((g : List ℕ) → NodeCounts g l.t l.productions l.templates → every (tree (node_named g l.t) (nodes_below l.t) l.left) (heads (field_c l.t) (l.count - l.counter) l.at) ≡ nodes_named g l.t l.left l.count l.first)
