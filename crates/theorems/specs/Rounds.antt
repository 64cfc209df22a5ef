-- The rounds of `Finite` come to an end: a round finds more than the one before it, or the same; and there are no more productions than rounds. So what they
-- have found is closed: where all elements of a production derive a text by it, it has the production's nonterminal.
use Rattle.std.specs.Prelude.{◌≡◌, ◌⊎◌, Bool, true, false, eqb}
use Rattle.std.proofs.Math.Path.{refl}
use Rattle.std.proofs.Common.{sym, ap, subst, arith}
use Rattle.std.proofs.Math.Logic.{inl, inr}
use Prim.Native.Nat.{ℕ, zero, suc, ◌≤◌, ◌<◌}
use mathlib.Core.List.{List, [], ◌∷◌, map}
use Rattle.std.proofs.lemmas.Bool.{false≢true}
use Rattle.std.proofs.Math.ListN.{length}
use Rattle.rules.specs.Records.{field_b, those}
use Rattle.rules.specs.Grammar.{Element, keyword, lexeme, nonterminal, repetition, unknown, elements, productions}
use Rattle.rules.specs.Finite.{derivable, all_derivable, is_one_of, round, rounds, finite}
use Rattle.laws.specs.Faults.{In, here, later, in_map, and_iff, or_iff, eqb_iff}
use Rattle.laws.specs.Lists.{length_map}
use Rattle.theorems.specs.Apart.{those_in}
use Rattle.theorems.specs.HeadByHead.{map_in}

-- a list as a set of nonterminals
one_of_in : (ms : List ℕ) (n : ℕ) → is_one_of ms n ≡ true → In n ms
unfolding is_one_of
one_of_in [] n e = absurd (false≢true e)
one_of_in (m ∷ ms) n e = elim ((or_iff (eqb m n) (is_one_of ms n)).0 e) [
  | inl h ↦ subst (λ (k : ℕ). In k (m ∷ ms)) ((eqb_iff m n).0 h) (here ms)
  | inr h ↦ later m ms (one_of_in ms n h)
]

in_one_of : {n : ℕ} {ms : List ℕ} → In n ms → is_one_of ms n ≡ true
unfolding is_one_of
in_one_of {n} (here ms) = (or_iff (eqb n n) _).1 (inl ((eqb_iff n n).1 refl))
in_one_of (later m ms i) = (or_iff (eqb m _) _).1 (inr (in_one_of i))

-- whatever the one set has, the other has too
abbrev pub Within : (ℕ → Bool) → (ℕ → Bool) → Type 0
Within known known' = (n : ℕ) → known n ≡ true → known' n ≡ true

-- where more nonterminals are known, more derives a text
module _ (g : List ℕ) {known known' : ℕ → Bool} (h : Within known known') where
  derivable_more : (e : Element) → derivable g known e ≡ true → derivable g known' e ≡ true
  unfolding derivable
  derivable_more (keyword x) d = d
  derivable_more (lexeme c) d = d
  derivable_more (nonterminal n) d = h n d
  derivable_more (repetition n x) d = d
  derivable_more unknown d = d

  pub all_derivable_more : (es : List Element) → all_derivable g known es ≡ true → all_derivable g known' es ≡ true
  unfolding all_derivable
  all_derivable_more [] d = d
  all_derivable_more (e ∷ es) d =
      let (a, b) = (and_iff (derivable g known e) _).0 d in
      (and_iff (derivable g known' e) _).1 (derivable_more e a, all_derivable_more es b)

-- the entries of a list that pass a test
in_those : {q : ℕ} (is : ℕ → Bool) {ps : List ℕ} → In q ps → is q ≡ true → In q (those is ps)
unfolding those
in_those {q} is (here ps) e = go (is q) e
  where
    go : (b : Bool) → b ≡ true → In q (elim b [ true ↦ q ∷ those is ps | false ↦ those is ps ])
    go true e = here (those is ps)
    go false e = absurd (false≢true e)
in_those {q} is (later p ps i) e = go (is p) (in_those is i e)
  where
    go : (b : Bool) → In q (those is ps) → In q (elim b [ true ↦ p ∷ those is ps | false ↦ those is ps ])
    go true j = later p (those is ps) j
    go false j = j

those_few : (is : ℕ → Bool) (ps : List ℕ) → length (those is ps) ≤ length ps
unfolding those
those_few is [] = omega arith
those_few is (p ∷ ps) = go (is p) (those_few is ps)
  where
    go : (b : Bool) → length (those is ps) ≤ length ps → length {A = ℕ} (elim b [ true ↦ p ∷ those is ps | false ↦ those is ps ]) ≤ suc (length ps)
    go true l = omega arith
    go false l = omega arith

-- where a test passes what another does, it passes the same or more
abbrev SameOrMore : List ℕ → List ℕ → Type 0
SameOrMore xs ys = (xs ≡ ys) ⊎ (length xs < length ys)

those_more : (is is' : ℕ → Bool) → Within is is' → (ps : List ℕ) → SameOrMore (those is ps) (those is' ps)
unfolding those
those_more is is' h [] = inl refl
those_more is is' h (p ∷ ps) = go (is p) (is' p) (h p) (those_more is is' h ps)
  where
    go : (b b' : Bool) → (b ≡ true → b' ≡ true) → SameOrMore (those is ps) (those is' ps)
        → SameOrMore (elim b [ true ↦ p ∷ those is ps | false ↦ those is ps ]) (elim b' [ true ↦ p ∷ those is' ps | false ↦ those is' ps ])
    go true true k (inl e) = inl (ap (λ (xs : List ℕ). p ∷ xs) e)
    go true true k (inr l) = inr (omega arith)
    go true false k s = absurd (false≢true (k refl))
    go false true k (inl e) = inr (let d = ap length e in omega arith)
    go false true k (inr l) = inr (omega arith)
    go false false k s = s

module _ (g ps : List ℕ) where
  -- the test of a round
  abbrev Passes : List ℕ → ℕ → Bool
  Passes found p = all_derivable g (is_one_of found) (elements g p)

  pub in_round : (found : List ℕ) {p : ℕ} → In p ps → all_derivable g (is_one_of found) (elements g p) ≡ true → is_one_of (round g ps found) (field_b g p) ≡ true
  unfolding round
  in_round found i d = in_one_of (in_map (field_b g) (in_those (Passes found) i d))

  -- the production by which a round has found a nonterminal
  pub record FoundBy (found : List ℕ) (n : ℕ) : Type 0 where
    pub head : ℕ
    pub one_of_them : In head ps
    pub of_nonterminal : field_b g head ≡ n
    pub elements_derive : all_derivable g (is_one_of found) (elements g head) ≡ true

  pub of_round : (found : List ℕ) (n : ℕ) → is_one_of (round g ps found) n ≡ true → FoundBy found n
  unfolding round
  of_round found n e =
      map_in (FoundBy found) (field_b g) (those (Passes found) ps)
      (λ p i. let (j, d) = those_in (Passes found) ps i in record { head = p; one_of_them = j; of_nonterminal = refl; elements_derive = d })
      (one_of_in _ n e)

  round_more : (found found' : List ℕ) → Within (is_one_of found) (is_one_of found') → Within (is_one_of (round g ps found)) (is_one_of (round g ps found'))
  round_more found found' h n e =
      let f = of_round found n e in
      subst (λ (m : ℕ). is_one_of (round g ps found') m ≡ true) f.of_nonterminal (in_round found' f.one_of_them (all_derivable_more g h _ f.elements_derive))

  rounds_more : (k : ℕ) → Within (is_one_of (rounds g ps k)) (is_one_of (rounds g ps (suc k)))
  unfolding rounds is_one_of
  rounds_more zero = λ n e. absurd (false≢true e)
  rounds_more (suc k) = round_more (rounds g ps k) (rounds g ps (suc k)) (rounds_more k)

  -- a round finds the same as the one before it, or more
  grows : (k : ℕ) → SameOrMore (rounds g ps k) (rounds g ps (suc k))
  unfolding rounds round
  grows zero = go (round g ps [])
    where
      go : (xs : List ℕ) → SameOrMore [] xs
      go [] = inl refl
      go (x ∷ xs) = inr (omega arith)
  grows (suc k) = go (those_more (Passes (rounds g ps k)) (Passes (rounds g ps (suc k))) (λ p. all_derivable_more g (rounds_more k) (elements g p)) ps)
    where
      go : SameOrMore (those (Passes (rounds g ps k)) ps) (those (Passes (rounds g ps (suc k))) ps)
          → SameOrMore (rounds g ps (suc k)) (rounds g ps (suc (suc k)))
      go (inl e) = inl (ap (map (field_b g)) e)
      go (inr l) = inr (rw (length_map (field_b g) (those (Passes (rounds g ps k)) ps), length_map (field_b g) (those (Passes (rounds g ps (suc k))) ps)) l)

  -- so after k rounds k were found, or the next round finds the same
  ended_or_many : (k : ℕ) → (rounds g ps k ≡ rounds g ps (suc k)) ⊎ (k ≤ length (rounds g ps k))
  unfolding rounds
  ended_or_many zero = inr (omega arith)
  ended_or_many (suc k) = go (ended_or_many k) (grows k)
    where
      go : (rounds g ps k ≡ rounds g ps (suc k)) ⊎ (k ≤ length (rounds g ps k)) → SameOrMore (rounds g ps k) (rounds g ps (suc k))
          → (rounds g ps (suc k) ≡ rounds g ps (suc (suc k))) ⊎ (suc k ≤ length (rounds g ps (suc k)))
      go (inl e) s = inl (ap (round g ps) e)
      go (inr l) (inl e) = inl (ap (round g ps) e)
      go (inr l) (inr m) = inr (omega arith)

  ended : rounds g ps (length ps) ≡ round g ps (rounds g ps (length ps))
  unfolding rounds round
  ended = go (ended_or_many (length ps)) (grows (length ps))
    where
      few : length (rounds g ps (suc (length ps))) ≤ length ps
      few = rw (length_map (field_b g) (those (Passes (rounds g ps (length ps))) ps)) (those_few (Passes (rounds g ps (length ps))) ps)

      go : (rounds g ps (length ps) ≡ rounds g ps (suc (length ps))) ⊎ (length ps ≤ length (rounds g ps (length ps)))
          → SameOrMore (rounds g ps (length ps)) (rounds g ps (suc (length ps))) → rounds g ps (length ps) ≡ rounds g ps (suc (length ps))
      go (inl e) s = e
      go (inr l) (inl e) = e
      go (inr l) (inr m) = absurd (let f = few in omega arith)

-- What the rounds have found is closed
pub finite_closed : (g : List ℕ) {p : ℕ} → In p (productions g) → all_derivable g (is_one_of (finite g)) (elements g p) ≡ true → is_one_of (finite g) (field_b g p) ≡ true
unfolding finite
finite_closed g {p} i d = subst (λ (xs : List ℕ). is_one_of xs (field_b g p) ≡ true) (sym (ended g (productions g))) (in_round g (productions g) (rounds g (productions g) (length (productions g))) i d)

-- and in every closed set: it is the least of them
pub finite_least : (g : List ℕ) (known : ℕ → Bool) → ((p : ℕ) → In p (productions g) → all_derivable g known (elements g p) ≡ true → known (field_b g p) ≡ true)
    → Within (is_one_of (finite g)) known
unfolding finite rounds is_one_of
finite_least g known closed = go (length (productions g))
  where
    step : (k : ℕ) → Within (is_one_of (rounds g (productions g) k)) known → Within (is_one_of (round g (productions g) (rounds g (productions g) k))) known
    step k h n e =
        let f = of_round g (productions g) (rounds g (productions g) k) n e in
        subst (λ (m : ℕ). known m ≡ true) f.of_nonterminal (closed f.head f.one_of_them (all_derivable_more g h _ f.elements_derive))

    go : (k : ℕ) → Within (is_one_of (rounds g (productions g) k)) known
    go zero = λ n e. absurd (false≢true e)
    go (suc k) = step k (go k)
