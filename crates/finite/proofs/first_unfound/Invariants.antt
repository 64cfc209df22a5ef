-- What isn't found of the productions from the next on is what isn't found of all of them.
use mathlib.Core.Path.{◌≡◌}
use lib.ListN.{drop}
use Rattle.rules.specs.Faults.{need, every}
use Rattle.rules.specs.Records.{field_b}
use Rattle.limits.specs.Bits.{is_marked}
use Rattle.finite.specs.Found.{unfound}
use Rattle.finite.proofs.first_unfound.Given as goal

abbrev pub invariant-loop-p : goal.invariant-loop-p
invariant-loop-p l = every (λ p. need (is_marked l.found (field_b l.g p)) p) (drop l.p-index l.productions) ≡ unfound l.g l.found
