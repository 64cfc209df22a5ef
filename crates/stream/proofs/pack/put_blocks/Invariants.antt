-- The blocks passed stand at the beginning, and the rest is as it was.
use mathlib.Core.Path.{◌≡◌}
use Prim.Native.Nat.{◌+◌, ◌/◌}
use lib.ListN.{length}
use Rattle.stream.proofs.PackLaws.{Chain}
use Rattle.stream.proofs.pack.put_blocks.Given as goal

abbrev pub invariant-loop-n : goal.invariant-loop-n
invariant-loop-n l = (l.blocks ≡ (length l.payload + 503) / 504) × Chain l.kind l.payload l.initial.out l.out l.blocks l.start l.n
