-- The five, searched by what a text begins with.
use Rattle.std.proofs.Common.{◌≡◌, refl, ap, sym, ◌∙◌, ℕ, zero, suc, ◌+◌, ◌≤◌, ◌<◌, Bool, true, false, ◌&&◌, List, [], ◌∷◌, ◌++◌, length, take, get_or, eqb, arith, subst, below_more}
use Rattle.std.proofs.lemmas.Bool.{false≢true}
use Rattle.std.specs.Cmp.Lexicographic.{pointwise}
use Rattle.std.proofs.Math.Option.{none, some}
use Rattle.rules.specs.Escape.{entity, begins, first_of, plain_byte}
use Rattle.entities.specs.Entity.{Turns, plain_in, Read}

-- `starts_with`, as the rules say it
pub starts : (xs text : List ℕ) → pointwise eqb xs (take (length xs) text) ≡ begins xs text
unfolding begins
starts [] text = refl
starts (x ∷ xs) [] = refl
starts (x ∷ xs) (b ∷ bs) = ap (λ t. eqb x b && t) (starts xs bs)

abbrev pub five : List ℕ
five = 0x26 ∷ 0x3c ∷ 0x3e ∷ 0x22 ∷ 0x27 ∷ []

-- each of them is turned into something
pub five_turn : (i : ℕ) → i < 5 → entity (get_or five i 0) ≡ get_or five i 0 ∷ [] → ⊥
unfolding entity
five_turn zero l e = omega (arith, ap length e)
five_turn (suc zero) l e = omega (arith, ap length e)
five_turn (suc (suc zero)) l e = omega (arith, ap length e)
five_turn (suc (suc (suc zero))) l e = omega (arith, ap length e)
five_turn (suc (suc (suc (suc zero)))) l e = omega (arith, ap length e)
five_turn (suc (suc (suc (suc (suc i))))) l e = absurd (omega arith)

-- the first of a list to pass a test
first_at : (holds : ℕ → Bool) (cs ds : List ℕ) (i : ℕ) → i < length cs → ((k : ℕ) → k < i → holds (get_or cs k 0) ≡ false) → holds (get_or cs i 0) ≡ true
    → first_of holds (cs ++ ds) ≡ some (get_or cs i 0)
unfolding first_of
first_at holds [] ds i l h e = absurd (omega arith)
first_at holds (c ∷ cs) ds zero l h e = rw e
first_at holds (c ∷ cs) ds (suc i) l h e =
    rw (h 0 (omega arith)) (first_at holds cs ds i (omega arith) (λ k m. h (suc k) (omega arith)) e)

module _ (text : List ℕ) where
  -- the text begins with the entity of none of the first n
  abbrev pub NoneOf : ℕ → Type 0
  NoneOf n = (k : ℕ) → k < n → begins (entity (get_or five k 0)) text ≡ false

begins_some : (e text : List ℕ) → 4 ≤ length e → begins e text ≡ true → 1 ≤ length text
unfolding begins
begins_some [] text l h = absurd (omega arith)
begins_some (x ∷ xs) [] l h = absurd (false≢true h)
begins_some (x ∷ xs) (b ∷ bs) l h = omega arith

plain_found : (text : List ℕ) (i : ℕ) → i < 5 → NoneOf text i → begins (entity (get_or five i 0)) text ≡ true → 1 ≤ length text
    → plain_in text ≡ some (get_or five i 0)
unfolding plain_in plain_byte
plain_found [] i l h e m = absurd (omega arith)
plain_found (b ∷ bs) i l h e m = first_at (λ c. begins (entity c) (b ∷ bs)) five (b ∷ []) i l h e

pub search_found : (text : List ℕ) (i : ℕ) → i < 5 → NoneOf text i → {e : List ℕ} → Turns (get_or five i 0) e
    → {r : Bool} → r ≡ pointwise eqb e (take (length e) text) → r ≡ true → Read text (record { byte = get_or five i 0; length = length e })
search_found text i l h {e} t f g =
    let m : begins e text ≡ true = sym (starts e text) ∙ sym f ∙ g in
    record { told = plain_found text i l h (rw t.into m) (begins_some e text t.long m); long = rw t.into }

pub search_other : (text : List ℕ) (i : ℕ) → NoneOf text i → {e : List ℕ} → Turns (get_or five i 0) e
    → {r : Bool} → r ≡ pointwise eqb e (take (length e) text) → r ≡ false → NoneOf text (i + 1)
search_other text i h {e} t f g = below_more (λ k. begins (entity (get_or five k 0)) text ≡ false) i h (rw t.into (sym (starts e text) ∙ sym f ∙ g))

pub search_none : (text : List ℕ) → NoneOf text 5 → get_or text 0 0 ≡ 0x26 → plain_in text ≡ none
unfolding plain_in plain_byte first_of
search_none [] h e = refl
search_none (b ∷ bs) h e =
    let i : begins (entity b) (b ∷ bs) ≡ false = subst (λ x. begins (entity x) (b ∷ bs) ≡ false) (sym e) (h 0 (omega arith)) in
    rw (h 0 (omega arith), h 1 (omega arith), h 2 (omega arith), h 3 (omega arith), h 4 (omega arith), i)
