use mathlib.Core.Path.{◌≡◌}
use Rattle.entities.specs.Measured.{Letters}
use Rattle.entities.proofs.unescape.ahead.Given as goal

abbrev pub invariant-loop-i : goal.invariant-loop-i
invariant-loop-i l = (l.due ≡ 0) × Letters l.text l.from l.due l.i
