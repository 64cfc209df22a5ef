-- "A production's number becomes a word" (02 f): of a production, whatever stream its record was fetched from.
use Rattle.std.specs.Prelude.{ℕ, ◌<◌, ◌≡◌, List}
use Rattle.rules.specs.Grammar.{production_number}
use Rattle.stream.specs.Record.{Fetched}
use Rattle.stream.specs.declared.record.Record.{Record}

-- n is the number of the production whose head is r
pub record ProductionNumber (r : Record) (n : ℕ) : Type 0 where
  pub is : (g : List ℕ) (p : ℕ) → Fetched g p r → n ≡ production_number g p
  pub small : n < 16777216
