-- Whether the elements that are left derive a text is whether all of them do.
use Prim.Native.Nat.{◌+◌, ◌-◌, ◌*◌, ◌≤◌}
use mathlib.Core.Path.{◌≡◌}
use mathlib.Core.List.{map}
use Rattle.rules.specs.Records.{heads}
use Rattle.rules.specs.Grammar.{element_size, element_at}
use Rattle.rules.specs.Finite.{all_derivable}
use Rattle.limits.specs.Bits.{is_marked}
use Rattle.finite.specs.Found.{row_derivable}
use Rattle.finite.proofs.productions.waiting.Given as goal

abbrev pub invariant-loop-turn : goal.invariant-loop-turn
invariant-loop-turn l = (l.at ≤ l.first + l.turn * 8193) × (all_derivable l.g (is_marked l.found) (map (element_at l.g) (heads (element_size l.g) (l.count - l.turn) l.at)) ≡ row_derivable l.g l.found l.count l.first)
