-- The types put in so far, with those of the parameters that are left, are the types of all. Assumes nothing.
use mathlib.Core.Path.{◌≡◌}
use Prim.Native.Nat.{◌+◌, ◌-◌}
use mathlib.Core.List.{map, ◌++◌}
use lib.ListN.{length, take}
use Rattle.rules.specs.Records.{field_b, row}
use Rattle.typing.proofs.templates.parameter_types.Given as goal

abbrev pub invariant-loop-i : goal.invariant-loop-i
invariant-loop-i l = (length l.slots ≡ 24) × (take l.i l.slots ++ map (field_b l.t) (row (l.n - l.i) (l.q + 1 + l.i)) ≡ map (field_b l.t) (row l.n (l.q + 1)))
