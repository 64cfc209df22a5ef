-- The bits of the nonterminals: one more is set with each production.
use Prim.Native.Nat.{ℕ, ◌+◌, ◌*◌, ◌/◌, ◌%◌, ◌^◌, ◌≤◌, ◌<◌}
use mathlib.Core.Path.{◌≡◌, refl, sym, ap, ◌∙◌}
use mathlib.Core.List.{List}
use mathlib.Core.Bool.{Bool, true, false, ◌||◌}
use native.Mathlib.Omega.{arith}
use native.Mathlib.Nat.{zero-div, one-mul, mod-eq_of_lt}
use lib.ListN.{length, get_or, drop, replicate, length-set, get_or-replicate}
use lib.Seq.{get_or-set_same, get_or-set_other}
use lib.Dec.{eqb}
use lib.Bits.{bit_or}
use lib.Pow.{pow-lt}
use borrow.Author.Tests.{eqb-true, eqb-false}
use Rattle.std.proofs.lemmas.Nat.Bits.{bit_at_or, bit_at-lt, bit_at-pow_same, bit_at-pow_other}
use Rattle.rules.specs.Records.{field_b}
use Rattle.rules.specs.Grammar.{productions, has_production, nonterminal_exists}
use Rattle.limits.specs.Bits.{is_marked, with_bit, marked, Nonterminals}
use Rattle.laws.specs.Lists.{drop_done, drop_more}

-- the code's shift
pub with_bit_lem : (word bit : ℕ) → bit < 64 → bit_or word (1 * 2 ^ bit % 18446744073709551616) ≡ with_bit word bit
unfolding with_bit
with_bit_lem word bit l = let e : 2 ^ bit < 2 ^ 64 = pow-lt l in rw (one-mul, mod-eq_of_lt e)

-- bit j of a word with bit i set
bit_set : (word i j : ℕ) → i ≡ j → with_bit word i / 2 ^ j % 2 ≡ 1
unfolding with_bit
bit_set word i j e =
    let a = bit_at_or word (2 ^ i) j in
    let b : 2 ^ i / 2 ^ j % 2 ≡ 1 = rw e (bit_at-pow_same j) in
    let l = bit_at-lt word j in
    omega arith

bit_kept : (word i j : ℕ) → (i ≡ j → ⊥) → with_bit word i / 2 ^ j % 2 ≡ word / 2 ^ j % 2
unfolding with_bit
bit_kept word i j h = let a = bit_at_or word (2 ^ i) j in let b = bit_at-pow_other i j (λ z. h (sym z)) in omega arith

-- the bit of n set: it is 1, and the others are as they were
module _ (bits : List ℕ) (n : ℕ) (l : n / 64 < length bits) where
  marked_same : (m : ℕ) → m / 64 ≡ n / 64 → get_or (marked bits n) (m / 64) 0 ≡ with_bit (get_or bits (n / 64) 0) (n % 64)
  unfolding marked
  marked_same m k = rw k (get_or-set_same bits (n / 64) (with_bit (get_or bits (n / 64) 0) (n % 64)) 0 l)

  marked_here : is_marked (marked bits n) n ≡ true
  unfolding is_marked
  marked_here = rw (marked_same n refl, bit_set (get_or bits (n / 64) 0) (n % 64) (n % 64) refl)

  marked_other : (m : ℕ) → (n ≡ m → ⊥) → is_marked (marked bits n) m ≡ is_marked bits m
  unfolding is_marked marked
  marked_other m h = go (eqb (m / 64) (n / 64)) refl
    where
      go : (b : Bool) → eqb (m / 64) (n / 64) ≡ b → is_marked (marked bits n) m ≡ is_marked bits m
      go true e =
          let k : m / 64 ≡ n / 64 = eqb-true _ _ e in
          rw (marked_same m k, k, bit_kept (get_or bits (n / 64) 0) (n % 64) (m % 64) (λ x. h (omega arith)))
      go false e = rw (get_or-set_other bits (n / 64) (m / 64) (with_bit (get_or bits (n / 64) 0) (n % 64)) 0 (eqb-false _ _ e))

  pub marked_is : (m : ℕ) → is_marked (marked bits n) m ≡ (eqb n m || is_marked bits m)
  marked_is m = go (eqb n m) refl
    where
      go : (b : Bool) → eqb n m ≡ b → is_marked (marked bits n) m ≡ (b || is_marked bits m)
      go true e = ap (is_marked (marked bits n)) (sym (eqb-true n m e)) ∙ marked_here
      go false e = marked_other m (eqb-false n m e)

-- the bits so far and the productions from i on make up the nonterminals that exist
pub record Marking (g ps bits : List ℕ) (i : ℕ) : Type 0 where
  pub words : length bits ≡ 1024
  pub rest : (n : ℕ) → n < 65536 → (is_marked bits n || has_production g n (drop i ps)) ≡ nonterminal_exists g n

pub marking_start : (g ps : List ℕ) → ps ≡ productions g → Marking g ps (replicate 1024 0) 0
unfolding is_marked nonterminal_exists
marking_start g ps e = record {
  words = refl;
  rest = λ n l. rw (get_or-replicate {A = ℕ} 1024 (n / 64) 0 0 (omega arith), zero-div (2 ^ (n % 64)), e);
}

or_turn : (m b r : Bool) → (b || m) || r ≡ m || (b || r)
or_turn true true r = refl
or_turn true false r = refl
or_turn false true r = refl
or_turn false false r = refl

has_more : (g ps : List ℕ) (i b n : ℕ) → i < length ps → b ≡ field_b g (get_or ps i 0)
    → has_production g n (drop i ps) ≡ (eqb b n || has_production g n (drop (i + 1) ps))
unfolding has_production
has_more g ps i b n more hb = rw (drop_more ps i more, hb)

pub marked_words : (bits : List ℕ) (n : ℕ) → length (marked bits n) ≡ length bits
unfolding marked
marked_words bits n = length-set bits (n / 64) (with_bit (get_or bits (n / 64) 0) (n % 64))

-- one production: its nonterminal b is marked
pub marking_next : (g ps bits bits' : List ℕ) (i b : ℕ) → Marking g ps bits i → i < length ps → b ≡ field_b g (get_or ps i 0) → b < 65536
    → bits' ≡ marked bits b → Marking g ps bits' (i + 1)
marking_next g ps bits bits' i b m more hb small h = rw h (record {
  words = marked_words bits b ∙ m.words;
  rest = λ n l.
      ap (λ (x : Bool). x || has_production g n (drop (i + 1) ps)) (marked_is bits b (omega (arith, m.words)) n)
      ∙ or_turn (is_marked bits n) (eqb b n) (has_production g n (drop (i + 1) ps))
      ∙ ap (λ (x : Bool). is_marked bits n || x) (sym (has_more g ps i b n more hb))
      ∙ m.rest n l;
})

pub marking_done : (g ps bits : List ℕ) (i : ℕ) → Marking g ps bits i → length ps ≤ i → Nonterminals g bits
unfolding has_production
marking_done g ps bits i m h = record { exactly = λ n l. sym (or-false (is_marked bits n)) ∙ rw (drop_done ps i h) at (m.rest n l) }
  where
    or-false : (b : Bool) → b || false ≡ b
    or-false true = refl
    or-false false = refl
