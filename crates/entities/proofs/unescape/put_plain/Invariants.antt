use Prim.Native.Nat.{◌-◌}
use lib.ListN.{length}
use Rattle.entities.proofs.PutLaws.{Putting}
use Rattle.entities.proofs.unescape.put_plain.Given as goal

abbrev pub invariant-loop-plain : goal.invariant-loop-plain
invariant-loop-plain l = Putting l.text l.initial.out l.out l.n l.at

abbrev pub decreases-loop-plain : goal.decreases-loop-plain
decreases-loop-plain l = length l.text - l.at
