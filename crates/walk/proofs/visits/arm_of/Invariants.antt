use Prim.Native.Nat.{◌+◌, ◌-◌, ◌*◌, ◌≤◌}
use mathlib.Core.Path.{◌≡◌}
use Rattle.rules.specs.Records.{field_c, after}
use Rattle.rules.specs.Templates.{first}
use Rattle.walk.proofs.visits.arm_of.Given as goal

abbrev pub invariant-loop : goal.invariant-loop
invariant-loop l = (after (field_c l.t) (l.case - l.counter) l.arm ≡ after (field_c l.t) l.case (first l.node)) × (l.arm ≤ l.node + 2 + 65535 * l.counter)
