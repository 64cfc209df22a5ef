-- Sorts of things that stand in rows.
use Rattle.std.specs.Prelude.{ℕ, ◌<◌, ◌≡◌, List, Bool, true}
use Rattle.std.proofs.Math.Option.{none}
use Rattle.rules.specs.Blocks.{stream_length}
use Rattle.rules.specs.Records.{record_count}
use Rattle.stream.specs.declared.record.Record.{Record}
use Rattle.stream.specs.Record.{Fetched}

-- b tells of a record that was fetched whether it is the head of a thing of a sort, which stands in the stream then
pub record Tells (is : List ℕ → ℕ → Bool) (r : Record) (b : Bool) : Type 0 where
  pub told : (s : List ℕ) (p : ℕ) → Fetched s p r → b ≡ is s p
  pub inside : (s : List ℕ) (p : ℕ) → stream_length s ≡ none → Fetched s p r → b ≡ true → p < record_count s

-- r is record p of a whole stream
pub record HeadInside (s : List ℕ) (p : ℕ) (r : Record) : Type 0 where
  pub sized : stream_length s ≡ none
  pub fetched : Fetched s p r
  pub inside : p < record_count s
