use Prim.Native.Nat.{◌-◌}
use lib.ListN.{length}
use Rattle.rules.specs.Lexeme.{ranges}
use Rattle.lexeme.proofs.PartLaws.{Scanning}
use Rattle.lexeme.proofs.scan.scan_part.Given as goal

abbrev pub invariant-loop-i : goal.invariant-loop-i
invariant-loop-i l = Scanning l.g (ranges l.g l.p) l.part l.initial.s l.s l.i

abbrev pub decreases-loop-i : goal.decreases-loop-i
decreases-loop-i l = length l.part - l.i
