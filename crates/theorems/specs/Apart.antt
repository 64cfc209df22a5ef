-- Things in a row lie apart, however they are laid out: of two of them each ends before the other begins, unless they are one.
use Rattle.std.specs.Prelude.{◌≡◌, ◌⊎◌, Bool, eqb}
use Rattle.std.proofs.Math.Path.{refl, sym}
use Rattle.std.proofs.Common.{◌∙◌, ap, subst}
use Rattle.std.proofs.Math.Logic.{inl, inr}
use Prim.Native.Nat.{ℕ, zero, suc, ◌+◌, ◌≤◌}
use mathlib.Core.List.{List, [], ◌∷◌}
use Rattle.std.proofs.Math.Bool.{true, false}
use native.Mathlib.Omega.{arith}
use Rattle.rules.specs.Records.{kind_of, heads, after, things, those}
use Rattle.laws.specs.Faults.{In, here, later}

pub data Apart (size : ℕ → ℕ) (p q : ℕ) : Type 0 where
  one_thing : p ≡ q → Apart size p q
  first_ends : p + size p ≤ q → Apart size p q
  second_ends : q + size q ≤ p → Apart size p q

in_first : {q p : ℕ} {xs : List ℕ} → In q (p ∷ xs) → (q ≡ p) ⊎ In q xs
in_first (here xs) = inl refl
in_first (later y xs i) = inr i

module _ (size : ℕ → ℕ) where
  after_on : (n p : ℕ) → p ≤ after size n p
  unfolding after
  after_on zero p = omega arith
  after_on (suc n) p = let h = after_on n (p + size p) in omega arith

  pub heads_within : {q : ℕ} (n p : ℕ) → In q (heads size n p) → (p ≤ q) × (q + size q ≤ after size n p)
  unfolding heads after
  heads_within {q = q} zero p x' = elim x' [ ]
  heads_within (suc n) p (here xs) = (omega arith, after_on n (p + size p))
  heads_within (suc n) p (later y xs i) = let (a, b) = heads_within n (p + size p) i in (omega arith, b)

  pub heads_apart : {q r : ℕ} (n p : ℕ) → In q (heads size n p) → In r (heads size n p) → Apart size q r
  unfolding heads
  heads_apart {q = q} {r = r} zero p x'' _ = elim x'' [ ]
  heads_apart (suc n) p (here xs) (here ys) = one_thing refl
  heads_apart (suc n) p (here xs) (later y ys j) = first_ends (heads_within n (p + size p) j).0
  heads_apart (suc n) p (later y xs i) (here ys) = second_ends (heads_within n (p + size p) i).0
  heads_apart (suc n) p (later y xs i) (later z ys j) = heads_apart n (p + size p) i j

  -- the things of a stream
  module _ (s : List ℕ) where
    thing_in : {q : ℕ} (n p : ℕ) → In q (things s size (suc n) p) → (q ≡ p) ⊎ In q (things s size n (p + size p))
    unfolding things
    thing_in {q} n p i = go (eqb (kind_of s p) 0) i
      where
        go : (b : Bool) → In q (elim b [ true ↦ [] | false ↦ p ∷ things s size n (p + size p) ]) → (q ≡ p) ⊎ In q (things s size n (p + size p))
        go true i = elim i [ ]
        go false i = in_first i

    things_from : {q : ℕ} (n p : ℕ) → In q (things s size n p) → p ≤ q
    unfolding things
    things_from {q = q} zero p i = elim i [ ]
    things_from (suc n) p i = elim (thing_in n p i) [ inl e ↦ omega arith | inr j ↦ let h = things_from n (p + size p) j in omega arith ]

    pub things_apart : {q r : ℕ} (n p : ℕ) → In q (things s size n p) → In r (things s size n p) → Apart size q r
    unfolding things
    things_apart {q = q} {r = r} zero p i j = elim i [ ]
    things_apart {q} {r} (suc n) p i j = go (thing_in n p i) (thing_in n p j) (λ k l. things_apart n (p + size p) k l)
      where
        go : (q ≡ p) ⊎ In q (things s size n (p + size p)) → (r ≡ p) ⊎ In r (things s size n (p + size p))
            → (In q (things s size n (p + size p)) → In r (things s size n (p + size p)) → Apart size q r) → Apart size q r
        go (inl a) (inl b) rest = one_thing (a ∙ sym b)
        go (inl a) (inr b) rest = first_ends (rw a (things_from n (p + size p) b))
        go (inr a) (inl b) rest = second_ends (rw b (things_from n (p + size p) a))
        go (inr a) (inr b) rest = rest a b

-- what is chosen of a list by its sort
pub those_in : {q : ℕ} (is : ℕ → Bool) (ps : List ℕ) → In q (those is ps) → In q ps × (is q ≡ true)
unfolding those
those_in {q = q} is [] i = elim i [ ]
those_in {q} is (p ∷ ps) i = go (is p) refl i (λ j. let (a, b) = those_in is ps j in (later p ps a, b))
  where
    first : is p ≡ true → q ≡ p → In q (p ∷ ps) × (is q ≡ true)
    first e h = (subst (λ (x : ℕ). In x (p ∷ ps)) (sym h) (here ps), ap is h ∙ e)

    go : (b : Bool) → is p ≡ b → In q (elim b [ true ↦ p ∷ those is ps | false ↦ those is ps ])
        → (In q (those is ps) → In q (p ∷ ps) × (is q ≡ true)) → In q (p ∷ ps) × (is q ≡ true)
    go true e i rest = elim (in_first i) [ inl h ↦ first e h | inr j ↦ rest j ]
    go false e i rest = rest i
