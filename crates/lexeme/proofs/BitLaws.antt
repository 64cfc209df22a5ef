-- Bits of a number: of a union, of an intersection, of a row of ones; the characters of a range in one number; and four numbers in one word.
use Prim.Native.Nat.{ℕ, ◌+◌, ◌-◌, ◌*◌, ◌/◌, ◌%◌, min, max, ◌≤◌, ◌<◌, ◌^◌}
use mathlib.Core.Path.{◌≡◌, refl, ap, ap₂, sym, ◌∙◌}
use mathlib.Core.List.{List}
use mathlib.Core.Bool.{Bool, true, false, not, ◌&&◌, ◌||◌}
use native.Mathlib.Omega.{arith}
use lib.Bits.{bit_and, bit_or}
use lib.Dec.{eqb, ltb, leb}
use lib.ListN.{get_or}
use lib.Pow.{pow_mono}
use mir.Syntax.{w16}
use borrow.Author.Tests.{ltb-true, ltb-false}
use Rattle.std.proofs.lemmas.Bool.Decides.{nat_tests}
use Rattle.std.proofs.lemmas.Grind.{common_steps}
use Rattle.std.proofs.lemmas.Nat.Bits.{bit_at_and, bit_at_or, bit_at_not, bit_at-lt, bit_at_ones, bit_at_ones_above, bit_at_cat_low, bit_at_cat_high}
use Rattle.rules.specs.Lexeme.{within}
use Rattle.lexeme.specs.Sets.{bit_at, is_in, WordOf}

-- one binary digit
max_digit : (u v : ℕ) → u < 2 → v < 2 → eqb (max u v) 1 ≡ (eqb u 1 || eqb v 1)
max_digit u v l m = grind (arith, nat_tests)

min_digit : (u v : ℕ) → u < 2 → v < 2 → eqb (min u v) 1 ≡ (eqb u 1 && eqb v 1)
min_digit u v l m = grind (arith, nat_tests)

other_digit : (u : ℕ) → u < 2 → eqb (1 - u) 1 ≡ not (eqb u 1)
other_digit u l = grind (arith, nat_tests)

pub bit_or_lem : (a b j : ℕ) → bit_at (bit_or a b) j ≡ (bit_at a j || bit_at b j)
unfolding bit_at
bit_or_lem a b j = ap (λ (n : ℕ). eqb n 1) (bit_at_or a b j) ∙ max_digit (a / 2 ^ j % 2) (b / 2 ^ j % 2) (bit_at-lt a j) (bit_at-lt b j)

pub bit_and_lem : (a b j : ℕ) → bit_at (bit_and a b) j ≡ (bit_at a j && bit_at b j)
unfolding bit_at
bit_and_lem a b j = ap (λ (n : ℕ). eqb n 1) (bit_at_and a b j) ∙ min_digit (a / 2 ^ j % 2) (b / 2 ^ j % 2) (bit_at-lt a j) (bit_at-lt b j)

-- all but those of a number of 16 bits
pub bit_not : (a j : ℕ) → a < 65536 → j < 16 → bit_at (65535 - a) j ≡ not (bit_at a j)
unfolding bit_at
bit_not a j l m = ap (λ (n : ℕ). eqb n 1) (bit_at_not w16 a j l m) ∙ other_digit (a / 2 ^ j % 2) (bit_at-lt a j)

-- a number of k ones
pub bit_ones : (k j : ℕ) → bit_at (2 ^ k - 1) j ≡ ltb j k
unfolding bit_at
bit_ones k j = go (ltb j k) refl
  where
    go : (b : Bool) → ltb j k ≡ b → eqb ((2 ^ k - 1) / 2 ^ j % 2) 1 ≡ ltb j k
    go true e = ap (λ (n : ℕ). eqb n 1) (bit_at_ones k j (ltb-true j k e)) ∙ sym e
    go false e = ap (λ (n : ℕ). eqb n 1) (bit_at_ones_above k j (ltb-false j k e)) ∙ sym e

-- the characters of number w from low to high
pub mask_made : (low high w : ℕ) {from below to up : ℕ} → from ≡ min 16 (low - 16 * w) → below ≡ 2 ^ from - 1 → to ≡ min 16 (high + 1 - 16 * w) → up ≡ 2 ^ to - 1
    → (j : ℕ) → j < 16 → bit_at (bit_and (65535 - below) up) j ≡ within low high (16 * w + j)
mask_made low high w {from} {below} {to} {up} e f g h j l =
    bit_and_lem (65535 - below) up j
    ∙ ap₂ ◌&&◌
    (bit_not below j (omega (arith, pow_mono {i = from} {j = 16} (omega arith))) l ∙ ap not (ap (λ (n : ℕ). bit_at n j) f ∙ bit_ones from j) ∙ begun)
    (ap (λ (n : ℕ). bit_at n j) h ∙ bit_ones to j ∙ unended)
  where
    begun : not (ltb j from) ≡ leb low (16 * w + j)
    begun = grind (arith, common_steps)

    unended : ltb j to ≡ leb (16 * w + j) high
    unended = grind (arith, common_steps)

-- the lowest 16 bits, and those above them
bit_low : (n rest j : ℕ) → j < 16 → bit_at (n + 65536 * rest) j ≡ bit_at n j
unfolding bit_at
bit_low n rest j l =
    let e : n + 65536 * rest ≡ rest * 2 ^ 16 + n = omega arith in
    ap (λ (m : ℕ). eqb m 1) (ap (λ (m : ℕ). m / 2 ^ j % 2) e ∙ bit_at_cat_low rest 16 n j l)

bit_high : (n rest j : ℕ) → n < 65536 → bit_at (n + 65536 * rest) (16 + j) ≡ bit_at rest j
unfolding bit_at
bit_high n rest j l =
    let e : n + 65536 * rest ≡ rest * 2 ^ 16 + n = omega arith in
    let f : 16 + j - 16 ≡ j = omega arith in
    ap (λ (m : ℕ). eqb m 1) (ap (λ (m : ℕ). m / 2 ^ (16 + j) % 2) e ∙ bit_at_cat_high rest 16 n (16 + j) l (omega arith) ∙ ap (λ (m : ℕ). rest / 2 ^ m % 2) f)

-- number q of the four, as a set has it
bit_in : (set : List ℕ) (j q r i n : ℕ) → n ≡ get_or set (4 * j + q) 0 → i ≡ 16 * q + r → r < 16 → bit_at n r ≡ is_in set (64 * j + i)
unfolding is_in
bit_in set j q r i n e f l =
    let a : (64 * j + i) / 16 ≡ 4 * j + q = omega arith in
    let b : (64 * j + i) % 16 ≡ r = omega arith in
    rw (a, b, e)

module _ (set : List ℕ) (j : ℕ) {a b c d : ℕ} (e : a ≡ get_or set (4 * j) 0) (f : b ≡ get_or set (4 * j + 1) 0) (g : c ≡ get_or set (4 * j + 2) 0) (h : d ≡ get_or set (4 * j + 3) 0)
    (k : a < 65536) (l : b < 65536) (m : c < 65536) where
  word_bit : (i : ℕ) → i < 64 → (x : Bool) → ltb i 16 ≡ x → (y : Bool) → ltb i 32 ≡ y → (z : Bool) → ltb i 48 ≡ z
      → bit_at (a + 65536 * (b + 65536 * (c + 65536 * d))) i ≡ is_in set (64 * j + i)
  word_bit i n true p y q z r =
      let o : i < 16 = ltb-true i 16 p in
      let w : 4 * j ≡ 4 * j + 0 = omega arith in
      bit_low a (b + 65536 * (c + 65536 * d)) i o ∙ bit_in set j 0 i i a (e ∙ ap (λ (t : ℕ). get_or set t 0) w) (omega arith) o
  word_bit i n false p true q z r =
      let o : i < 32 = ltb-true i 32 q in
      let s : 16 ≤ i = ltb-false i 16 p in
      let w : i ≡ 16 + (i - 16) = omega arith in
      ap (bit_at (a + 65536 * (b + 65536 * (c + 65536 * d)))) w
      ∙ bit_high a (b + 65536 * (c + 65536 * d)) (i - 16) k
      ∙ bit_low b (c + 65536 * d) (i - 16) (omega arith)
      ∙ bit_in set j 1 (i - 16) i b f (omega arith) (omega arith)
  word_bit i n false p false q true r =
      let o : i < 48 = ltb-true i 48 r in
      let s : 32 ≤ i = ltb-false i 32 q in
      let w : i ≡ 16 + (16 + (i - 32)) = omega arith in
      ap (bit_at (a + 65536 * (b + 65536 * (c + 65536 * d)))) w
      ∙ bit_high a (b + 65536 * (c + 65536 * d)) (16 + (i - 32)) k
      ∙ bit_high b (c + 65536 * d) (i - 32) l
      ∙ bit_low c d (i - 32) (omega arith)
      ∙ bit_in set j 2 (i - 32) i c g (omega arith) (omega arith)
  word_bit i n false p false q false r =
      let s : 48 ≤ i = ltb-false i 48 r in
      let w : i ≡ 16 + (16 + (16 + (i - 48))) = omega arith in
      ap (bit_at (a + 65536 * (b + 65536 * (c + 65536 * d)))) w
      ∙ bit_high a (b + 65536 * (c + 65536 * d)) (16 + (16 + (i - 48))) k
      ∙ bit_high b (c + 65536 * d) (16 + (i - 48)) l
      ∙ bit_high c d (i - 48) m
      ∙ bit_in set j 3 (i - 48) i d h (omega arith) (omega arith)

  pub word_made : WordOf set j (a + 65536 * (b + 65536 * (c + 65536 * d)))
  word_made = record { bits = λ i n. word_bit i n (ltb i 16) refl (ltb i 32) refl (ltb i 48) refl }

-- what a word says of one character
pub word_says : (set : List ℕ) (word x : ℕ) → WordOf set (x / 64) word → bit_at word (x % 64) ≡ is_in set x
word_says set word x w =
    let e : 64 * (x / 64) + x % 64 ≡ x = omega arith in
    w.bits (x % 64) (omega arith) ∙ ap (is_in set) e
