-- The scan of a value's heads that also puts its children's places down.
use Rattle.std.specs.Prelude.{ℕ, ◌+◌, ◌-◌, ◌≤◌, ◌<◌, ◌≡◌, List, Bool, true, length, get_or}
use Rattle.std.proofs.Math.Option.{none}
use Rattle.rules.specs.Blocks.{stream_length}
use Rattle.rules.specs.Records.{record_count, after}
use Rattle.rules.specs.Value.{value_size}
use Rattle.stream.specs.declared.record.Place.{Place}
use Rattle.records.specs.Children.{Children}
use Rattle.layout.specs.Tree.{Value, chain, fills, Chains}

-- a row that begins at `used` has room for a child at each record from p to e
pub record PlacesLent (v : List ℕ) (p : ℕ) (at : Place) (e used : ℕ) (places : List ℕ) : Type 0 where
  pub chains : Chains v p at e
  pub room : used + (e - p) ≤ length places

-- the n things from p on end at e, and then the row has their places; what was there before it is as it was
pub record PlacesPut (v : List ℕ) (n p e used : ℕ) (before places : List ℕ) (r : Bool) : Type 0 where
  pub is : r ≡ chain (value_size v) n p e
  pub put : r ≡ true → (j : ℕ) → j < n → get_or places (used + j) 0 ≡ after (value_size v) j p
  pub kept : (i : ℕ) → i < used → get_or places i 0 ≡ get_or before i 0

-- the value of a whole stream ends by its size at e, inside it, and both rows have a number for each record
pub record TableLent (v : List ℕ) (e : ℕ) (firsts places : List ℕ) : Type 0 where
  pub sized : stream_length v ≡ none
  pub size_is : e ≡ value_size v 0
  pub inside : e ≤ record_count v
  pub firsts_room : record_count v ≤ length firsts
  pub places_room : record_count v ≤ length places

-- the records up to e are one value, and then the rows have its children
pub record TablePut (v : List ℕ) (e : ℕ) (firsts places : List ℕ) (r : Bool) : Type 0 where
  pub is : r ≡ fills Value v 0 e
  pub children : r ≡ true → Children v firsts places
