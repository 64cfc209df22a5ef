-- "2 range: bytes 1-3 lowest and 4-6 highest code point, little-endian", as it is read from its record.
use Rattle.std.specs.Prelude.{ℕ, ◌<◌, ◌^◌, ◌≡◌, List}
use Rattle.rules.specs.Lexeme.{lowest, highest}
use Rattle.records.specs.declared.range.Range.{Range}

pub record RangeAt (g : List ℕ) (i : ℕ) (r : Range) : Type 0 where
  pub from : r.lowest ≡ lowest g i
  pub to : r.highest ≡ highest g i
  pub near : r.lowest < 2 ^ 24
  pub small : r.highest < 2 ^ 24
