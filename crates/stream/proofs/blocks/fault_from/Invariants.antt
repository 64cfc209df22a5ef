-- What is wrong in the blocks from n on is what is wrong in those from the first on.
use Prim.Native.Nat.{◌/◌}
use mathlib.Core.Path.{◌≡◌}
use lib.ListN.{length}
use Rattle.stream.specs.Fault.{fault_from}
use Rattle.stream.proofs.blocks.fault_from.Given as goal

abbrev pub invariant-loop-n : goal.invariant-loop-n
invariant-loop-n l = fault_from l.kind l.s (length l.s / 512) l.n ≡ fault_from l.kind l.s (length l.s / 512) l.first
