-- "Size is the number of records of a thing, head and all below it": of a value and of an element, whatever stream their record was fetched from.
use Rattle.std.specs.Prelude.{ℕ, ◌+◌, ◌≤◌, ◌<◌, ◌≡◌, List, Bool, true, cond, eqb}
use Rattle.rules.specs.Grammar.{text_length, element_size}
use Rattle.rules.specs.Records.{heads}
use Rattle.rules.specs.Value.{value_size, values_below}
use Rattle.stream.specs.Record.{Fetched}
use Rattle.stream.specs.declared.record.Record.{Record}

-- n is the size of the value whose head is r
pub record ValueSize (r : Record) (n : ℕ) : Type 0 where
  pub is : (v : List ℕ) (w : ℕ) → Fetched v w r → n ≡ value_size v w
  pub small : n < 65536

-- n values stand directly below the value whose head is r
pub record CountBelow (r : Record) (n : ℕ) : Type 0 where
  pub is : (v : List ℕ) (w : ℕ) → Fetched v w r → heads (value_size v) n (w + 1) ≡ values_below v w
  pub few : n < 65536

-- n bytes of text follow the element whose record is r
pub record TextLength (r : Record) (n : ℕ) : Type 0 where
  pub is : (g : List ℕ) (e : ℕ) → Fetched g e r → n ≡ text_length g e

-- the forms of a repetition
unfoldable pub repeats : ℕ → Bool
repeats a = cond (eqb a 3) true (eqb a 4)

-- n is the size of the element whose record is r
pub record ElementSize (r : Record) (n : ℕ) : Type 0 where
  pub is : (g : List ℕ) (e : ℕ) → Fetched g e r → n ≡ element_size g e
  pub small : n ≤ 8193
