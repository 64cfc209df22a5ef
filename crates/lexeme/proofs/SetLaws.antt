-- A set as it is filled: one number of it, all of some numbers, and with these a range.
use Prim.Native.Nat.{ℕ, zero, suc, ◌+◌, ◌-◌, ◌*◌, ◌/◌, ◌%◌, min, ◌≤◌, ◌<◌}
use mathlib.Core.Path.{◌≡◌, refl, ap, ap₂, sym, ◌∙◌}
use mathlib.Core.List.{List}
use mathlib.Core.Bool.{false, ◌||◌}
use native.Mathlib.Omega.{arith}
use native.Mathlib.Nat.{zero-div}
use lib.ListN.{length, get_or, set, take, drop, replicate}
use lib.Seq.{get_or-set_same, get_or-set_other}
use borrow.Rule.Slice.PartMut.{put_mid}
use Rattle.std.proofs.lemmas.List.{places}
use borrow.Author.Rules.{rules}
use Rattle.std.proofs.lemmas.Grind.{common_steps}
use lib.Bits.{bit_or}
use borrow.Author.Tests.{lt-ltb}
use Rattle.rules.specs.Lexeme.{within}
use Rattle.lexeme.specs.Sets.{bit_at, is_in, Added, Filled}
use Rattle.lexeme.proofs.BitLaws.{bit_or_lem, bit_ones}

-- one number: its own characters, and those of the others
module _ (low high : ℕ) (before : List ℕ) (w m : ℕ) (size : length before ≡ 128) (l : w < 128)
    (bits : (j : ℕ) → j < 16 → bit_at m j ≡ within low high (16 * w + j)) where
  other : (x : ℕ) → (x / 16 ≡ w → ⊥) → is_in (set before w (bit_or (get_or before w 0) m)) x ≡ is_in before x
  unfolding is_in
  other x d = ap (λ (n : ℕ). bit_at n (x % 16)) (get_or-set_other before w (x / 16) (bit_or (get_or before w 0) m) 0 d)

  here : (x : ℕ) → x / 16 ≡ w → is_in (set before w (bit_or (get_or before w 0) m)) x ≡ (is_in before x || within low high x)
  unfolding is_in
  here x e =
      let f : 16 * w + x % 16 ≡ x = omega arith in
      ap (λ (n : ℕ). bit_at (get_or (set before w (bit_or (get_or before w 0) m)) n 0) (x % 16)) e
      ∙ ap (λ (n : ℕ). bit_at n (x % 16)) (get_or-set_same before w (bit_or (get_or before w 0) m) 0 (omega arith))
      ∙ bit_or_lem (get_or before w 0) m (x % 16)
      ∙ ap₂ ◌||◌ (ap (λ (n : ℕ). bit_at (get_or before n 0) (x % 16)) (sym e)) (bits (x % 16) (omega arith) ∙ ap (within low high) f)

  pub add_one_number : Added low high w before (set before w (bit_or (get_or before w 0) m))
  add_one_number = record { here = λ x k e. here x e; other = other }

-- numbers of ones
module _ (from to : ℕ) (before ys : List ℕ) (near : from ≤ to) (far : to ≤ length before) (ones : ys ≡ replicate (length (take (to - from) (drop from before))) 65535) where
  in_ones : (n : ℕ) → from ≤ n → n < to → get_or (put_mid from (to - from) before ys) n 0 ≡ 65535
  in_ones n l m = rw ones (search (rules, places))

  below_ones : (n : ℕ) → n < from → get_or (put_mid from (to - from) before ys) n 0 ≡ get_or before n 0
  below_ones n l = search (rules, places)

  above_ones : (n : ℕ) → to ≤ n → get_or (put_mid from (to - from) before ys) n 0 ≡ get_or before n 0
  above_ones n l = rw ones (search (rules, places))

  pub ones_filled : Filled from to before (put_mid from (to - from) before ys)
  unfolding is_in
  ones_filled = record {
    here = λ x l m. rw (in_ones (x / 16) l m) (bit_ones 16 (x % 16) ∙ lt-ltb (x % 16) 16 (omega arith));
    below = λ x l. rw (below_ones (x / 16) l);
    above = λ x l. rw (above_ones (x / 16) l);
  }

-- a range that goes on: its first number, those between, its last
pub range_long : (low high : ℕ) (set₀ set₁ set₂ set₃ : List ℕ) (end : ℕ) → low / 16 < high / 16 → end ≡ min (high / 16) 128
    → Added low high (low / 16) set₀ set₁ → Filled (low / 16 + 1) end set₁ set₂ → Added low high (high / 16) set₂ set₃
    → (x : ℕ) → x < 2048 → is_in set₃ x ≡ (is_in set₀ x || within low high x)
range_long low high set₀ set₁ set₂ set₃ end l e a f c x k = grind (arith, common_steps)

-- the empty set
zero_at : (n i : ℕ) → ◌≡◌ {A = ℕ} (get_or (replicate n 0) i 0) 0
zero_at zero i = refl
zero_at (suc n) zero = refl
zero_at (suc n) (suc i) = zero_at n i

pub none_in : (k x : ℕ) → is_in (replicate k 0) x ≡ false
unfolding is_in bit_at
none_in k x = rw (zero_at k (x / 16), zero-div)
