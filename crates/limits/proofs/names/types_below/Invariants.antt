-- What is wrong in the records from the next on is what is wrong in all of them.
use Prim.Native.Nat.{◌-◌}
use mathlib.Core.Path.{◌≡◌}
use lib.Dec.{ltb}
use Rattle.rules.specs.Faults.{need, every}
use Rattle.rules.specs.Records.{field_b, row}
use Rattle.limits.specs.Rows.{types_below}
use Rattle.limits.proofs.names.types_below.Given as goal

abbrev pub invariant-loop-at : goal.invariant-loop-at
invariant-loop-at l = every (λ r. need (ltb (field_b l.t r) l.bound) r) (row (l.at-end - l.at) l.at) ≡ types_below l.t l.bound l.count l.p
