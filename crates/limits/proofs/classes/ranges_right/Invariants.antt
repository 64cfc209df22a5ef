-- What is wrong in the ranges from r on is what is wrong in all of them.
use Prim.Native.Nat.{◌-◌}
use mathlib.Core.Path.{◌≡◌}
use Rattle.rules.specs.Classes.{range_right}
use Rattle.rules.specs.Faults.{need, every}
use Rattle.rules.specs.Records.{row}
use Rattle.limits.specs.Rows.{ranges_right}
use Rattle.limits.proofs.classes.ranges_right.Given as goal

abbrev pub invariant-loop-r : goal.invariant-loop-r
invariant-loop-r l = every (λ r. need (range_right l.g r) r) (row (l.r-end - l.r) l.r) ≡ ranges_right l.g l.count l.p
