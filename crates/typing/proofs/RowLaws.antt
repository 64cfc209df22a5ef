-- Laws of things in a row: what is left after i of n. Assumes nothing.
use Prim.Native.Nat.{ℕ, zero, suc, ◌+◌, ◌-◌, ◌≤◌, ◌<◌}
use mathlib.Core.Path.{◌≡◌, refl}
use mathlib.Core.List.{List, [], ◌∷◌, map}
use native.Mathlib.Omega.{arith}
use native.Mathlib.Nat.{sub-zero}
use Rattle.rules.specs.Records.{heads}
use Rattle.laws.specs.Rows.{one_less}
use Rattle.typing.specs.Answers.{row_of}

module _ {A : Type 0} (make : ℕ → ℕ → A) (size : ℕ → ℕ) where
  pub turns_start : {B : Type 0} (f : List A → B) (n p : ℕ) → f (row_of make size (n - 0) 0 p) ≡ f (row_of make size n 0 p)
  turns_start f n p = rw (sub-zero n)

  module _ (n i p : ℕ) where
    pub turns_done : n ≤ i → row_of make size (n - i) i p ≡ []
    unfolding row_of
    turns_done h = let e : n - i ≡ 0 = omega arith in rw e

    pub turns_more : i < n → (c : ℕ) → c ≡ size p → row_of make size (n - i) i p ≡ make i p ∷ row_of make size (n - (i + 1)) (i + 1) (p + c)
    unfolding row_of
    turns_more h c e = rw (one_less n i h, e)

-- things in a row whose number in it does not matter
pub map_row : {A : Type 0} (f : ℕ → A) (make : ℕ → ℕ → A) (size : ℕ → ℕ) → ((i p : ℕ) → f p ≡ make i p) → (n i p : ℕ) → map f (heads size n p) ≡ row_of make size n i p
unfolding heads row_of
map_row f make size h zero i p = refl
map_row f make size h (suc n) i p = rw (h i p, map_row f make size h n (i + 1) (p + size p))
