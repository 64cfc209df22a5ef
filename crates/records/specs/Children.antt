-- The children of a value by table. No definition of crate rules hears of it.
use Rattle.std.specs.Prelude.{ℕ, ◌+◌, ◌<◌, ◌≡◌, List, length, get_or}
use Rattle.std.proofs.Math.Option.{some}
use Rattle.rules.specs.Records.{nth}
use Rattle.rules.specs.Value.{values_below}

-- a value is at w: the whole one, whose head is record 0, or one that stands directly below another
pub data Stands (v : List ℕ) : ℕ → Type 0 where
  whole : Stands v 0
  below : (w j c : ℕ) → Stands v w → nth (values_below v w) j ≡ some c → Stands v c

-- child j of the value at w: number `firsts w + j` of the children's places is the place c
pub record ChildAt (firsts places : List ℕ) (w j c : ℕ) : Type 0 where
  pub head : w < length firsts
  pub entry : get_or firsts w 0 + j < length places
  pub is : get_or places (get_or firsts w 0 + j) 0 ≡ c

-- so for every value and each of its children
pub record Children (v firsts places : List ℕ) : Type 0 where
  pub each : (w j c : ℕ) → Stands v w → nth (values_below v w) j ≡ some c → ChildAt firsts places w j c
