-- Rows: things one after the other, each of so many records. After i of n things, n - i are left.
use Rattle.std.specs.Prelude.{ℕ, zero, suc, ◌+◌, ◌-◌, ◌≤◌, ◌<◌, ◌≡◌, refl, List, [], ◌∷◌, map, length}
use Rattle.std.proofs.Common.{sym, ap, ◌∙◌, le_of_suc-le-suc, not-suc-le-zero, add-zero, add_assoc}
use Rattle.std.proofs.Math.Option.{Option, none, some}
use native.Mathlib.Omega.{arith}
use Rattle.std.proofs.Math.Nat.{sub-zero}
use Rattle.rules.specs.Faults.{every}
use Rattle.rules.specs.Records.{nth, heads, row}
use Rattle.laws.specs.Faults.{both_wrong}

pub one_less : (n i : ℕ) → i < n → n - i ≡ suc (n - (i + 1))
one_less n i h = omega arith

module _ (size : ℕ → ℕ) (n i at : ℕ) where
  pub heads_done : n ≤ i → heads size (n - i) at ≡ []
  unfolding heads
  heads_done h = let e : n - i ≡ 0 = omega arith in rw e

  pub heads_more : i < n → (next : ℕ) → next ≡ size at → heads size (n - i) at ≡ at ∷ heads size (n - (i + 1)) (at + next)
  unfolding heads
  heads_more h next k = rw (one_less n i h, k)

-- before the first turn
pub heads_all : {A : Type 0} (f : List ℕ → A) (size : ℕ → ℕ) (n at : ℕ) {count : ℕ} → n ≡ count → f (heads size (n - 0) at) ≡ f (heads size count at)
heads_all f size n at e = rw (sub-zero n, e)

pub length_heads : (size : ℕ → ℕ) (n p : ℕ) → length (heads size n p) ≡ n
unfolding heads
length_heads size zero p = refl
length_heads size (suc n) p = ap suc (length_heads size n (p + size p))

pub nth_heads : (size : ℕ → ℕ) (n p j : ℕ) → n ≤ j → nth (heads size n p) j ≡ none
unfolding nth heads
nth_heads size zero p j h = refl
nth_heads size (suc n) p zero h = absurd (not-suc-le-zero h)
nth_heads size (suc n) p (suc j) h = nth_heads size n (p + size p) j (le_of_suc-le-suc h)

-- records in a row, after i of them
pub row_more : (n p i : ℕ) → i < n → row (n - i) (p + i) ≡ (p + i) ∷ row (n - (i + 1)) (p + (i + 1))
unfolding row heads
row_more n p i h = rw (one_less n i h, heads, add_assoc p i 1)

pub row_done : (n p i : ℕ) → n ≤ i → row (n - i) (p + i) ≡ []
unfolding row heads
row_done n p i h = let e : n - i ≡ 0 = omega arith in rw e

pub row_all : (n p : ℕ) → row (n - 0) (p + 0) ≡ row n p
row_all n p = rw (sub-zero, add-zero)

-- what the records of a row name
pub row_some : (f : ℕ → ℕ) (n p j : ℕ) → j < n → nth (map f (row n p)) j ≡ some (f (p + j))
unfolding nth row heads
row_some f zero p j h = absurd (not-suc-le-zero h)
row_some f (suc n) p zero h = ap (λ (q : ℕ). some (f q)) (sym (add-zero p))
row_some f (suc n) p (suc j) h =
    let e : p + 1 + j ≡ p + suc j = omega arith in
    row_some f n (p + 1) j (le_of_suc-le-suc h) ∙ ap (λ (q : ℕ). some (f q)) e

pub row_none : (f : ℕ → ℕ) (n p j : ℕ) → n ≤ j → nth (map f (row n p)) j ≡ none
unfolding nth row heads
row_none f zero p j h = refl
row_none f (suc n) p zero h = absurd (not-suc-le-zero h)
row_none f (suc n) p (suc j) h = row_none f n (p + 1) j (le_of_suc-le-suc h)

-- a check of a row with nothing in it, and of one whose first thing offends
pub every_none : {B : Type 0} (f : ℕ → Option B) (size : ℕ → ℕ) (count first : ℕ) → count ≡ 0 → none ≡ every f (heads size count first)
unfolding heads every
every_none f size zero first e = refl
every_none f size (suc n) first e = absurd (omega arith)

pub every_offends : {B : Type 0} (f : ℕ → Option B) (size : ℕ → ℕ) (count first : ℕ) → (count ≡ 0 → ⊥) → (x : B) → f first ≡ some x → some x ≡ every f (heads size count first)
unfolding heads every
every_offends f size zero first l x e = absurd (l refl)
every_offends f size (suc n) first l x e = sym (both_wrong _ e)
