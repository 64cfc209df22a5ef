-- What was looked for, and whether it was found.
use Rattle.std.specs.Prelude.{ℕ, ◌≡◌, List, Some, None}
use Rattle.std.specs.declared.option.Option as answer
use Rattle.std.proofs.Math.Option.{Option, none, some}
use Rattle.records.specs.Children.{Stands}

abbrev pub lookup_of : answer.Option ℕ → Option ℕ
lookup_of (Some w) = some w
lookup_of None = none

-- a value that was looked for was found, or is not there
pub record Finds (v : List ℕ) (o : Option ℕ) (r : answer.Option ℕ) : Type 0 where
  pub is : lookup_of r ≡ o
  pub stands : (w : ℕ) → o ≡ some w → Stands v w
