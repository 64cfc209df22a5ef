-- What is wrong in the elements from e on is what is wrong in all of them.
use Prim.Native.Nat.{◌+◌, ◌-◌, ◌*◌, ◌≤◌}
use mathlib.Core.Path.{◌≡◌}
use Rattle.rules.specs.Faults.{need, every}
use Rattle.rules.specs.Grammar.{element_size, element_at}
use Rattle.rules.specs.Names.{element_named}
use Rattle.rules.specs.Records.{heads}
use Rattle.limits.specs.Rows.{elements_named}
use Rattle.limits.proofs.grammar.elements_named.Given as goal

abbrev pub invariant-loop : goal.invariant-loop
invariant-loop l = (l.e ≤ l.p + 1 + l.counter * 65536) × (every (λ e. need (element_named l.g (element_at l.g e)) e) (heads (element_size l.g) (l.end - l.counter) l.e) ≡ elements_named l.g l.p)
