-- What is wrong in the blocks from n on is what is wrong in all of them.
use Prim.Native.Nat.{◌/◌, ◌-◌, ◌≤◌}
use mathlib.Core.Path.{◌≡◌}
use lib.ListN.{length}
use Rattle.rules.specs.Blocks.{stream_blocks}
use Rattle.stream.specs.Fault.{fault_from}
use Rattle.stream.proofs.blocks.block_fault.Given as goal

abbrev pub invariant-loop-n : goal.invariant-loop-n
invariant-loop-n l = (l.n ≤ l.blocks) × (l.blocks ≡ length l.s / 512) × (fault_from l.kind l.s l.blocks l.n ≡ stream_blocks l.kind l.s)

abbrev pub decreases-loop-n : goal.decreases-loop-n
decreases-loop-n l = l.blocks - l.n
