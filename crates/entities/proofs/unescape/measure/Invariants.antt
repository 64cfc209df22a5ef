use Prim.Native.Nat.{◌-◌}
use lib.ListN.{length}
use Rattle.entities.proofs.MeasureLaws.{Measuring}
use Rattle.entities.proofs.unescape.measure.Given as goal

abbrev pub invariant-loop-at : goal.invariant-loop-at
invariant-loop-at l = Measuring l.text l.u l.n l.at

abbrev pub decreases-loop-at : goal.decreases-loop-at
decreases-loop-at l = length l.text - l.at
