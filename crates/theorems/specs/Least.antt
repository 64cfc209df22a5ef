-- The place that a check answers is the first that offends: one law for each way in which checks are put together.
-- (Goes on in proofs/Least.antt.)
use Rattle.std.specs.Prelude.{◌≡◌, refl, ◌↔◌, ◌⊎◌, List, [], ◌∷◌, Bool, true, false}
use Rattle.std.proofs.Common.{sym, ap, inl, inr, true≢false}
use Rattle.std.proofs.Math.Path.{subst}
use Prim.Native.Nat.{ℕ, suc, ◌+◌, ◌≤◌, ◌<◌}
use Rattle.std.proofs.Math.Option.{Option, none, some, some-ne-none, none-ne-some, some-injective}
use native.Mathlib.Omega.{arith}
use Rattle.rules.specs.Faults.{need, both}
use Rattle.rules.specs.Records.{heads}
use Rattle.laws.specs.Faults.{In, here, later, Below}
use Rattle.laws.specs.Orders.{Order, less, same, more, order}
use Rattle.theorems.specs.LaidOut.{InRow, no_thing, one_thing}

-- f answers the first of all that offends, in an order, and none where nothing offends
pub record FirstBy {P : Type 0} (Before : P → P → Type 0) (Off : P → Type 0) (f : Option P) : Type 0 where
  pub none_offends : f ≡ none → (q : P) → Off q → ⊥
  pub first_offends : (p : P) → f ≡ some p → Off p × ((q : P) → Before q p → Off q → ⊥)

-- of the places in a stream, f answers the first that offends
abbrev pub First : (ℕ → Type 0) → Option ℕ → Type 0
First = FirstBy (λ q p. q < p)

-- the same, where all that offends stands from lo up to hi: so checks of one part after the other can be put together
pub record Least (Off : ℕ → Type 0) (lo hi : ℕ) (f : Option ℕ) : Type 0 where
  pub ordered : lo ≤ hi
  pub inside : (q : ℕ) → Off q → (lo ≤ q) × (q < hi)
  pub first : First Off f

-- what offends, with nothing before it that does, is what f answers
pub first_is : {Off : ℕ → Type 0} (f : Option ℕ) → First Off f → (n : ℕ) → Off n → ((m : ℕ) → m < n → Off m → ⊥) → f ≡ some n
first_is none h n o before = absurd (h.none_offends refl n o)
first_is (some m) h n o before = go (order m n)
  where
    go : Order m n → some m ≡ some n
    go (less l) = absurd (before m l (h.first_offends m refl).0)
    go (same e) = ap some e
    go (more l) = absurd ((h.first_offends m refl).1 n l o)

-- the same offends, said in another way
pub first_same : {P : Type 0} {Before : P → P → Type 0} {Off Off' : P → Type 0} {f : Option P} → ((q : P) → Off q ↔ Off' q)
    → FirstBy Before Off f → FirstBy Before Off' f
first_same s h = record {
  none_offends = λ e q o. h.none_offends e q ((s q).1 o);
  first_offends = λ p e. let r = h.first_offends p e in ((s p).0 r.0, λ q l o. r.1 q l ((s q).1 o));
}

pub least_same : {Off Off' : ℕ → Type 0} {lo hi : ℕ} {f : Option ℕ} → ((q : ℕ) → Off q ↔ Off' q) → Least Off lo hi f → Least Off' lo hi f
least_same s h = record { ordered = h.ordered; inside = λ q o. h.inside q ((s q).1 o); first = first_same s h.first }

pub least_wide : {Off : ℕ → Type 0} {lo hi lo' hi' : ℕ} {f : Option ℕ} → lo' ≤ lo → hi ≤ hi' → Least Off lo hi f → Least Off lo' hi' f
least_wide a b h = let c = h.ordered in record { ordered = omega arith; inside = λ q o. let r = h.inside q o in (omega arith, omega arith); first = h.first }

-- a test that must hold
pub first_need : (b : Bool) (p : ℕ) → First (λ q. (q ≡ p) × (b ≡ false)) (need b p)
unfolding need
first_need true p = record {
  none_offends = λ e q o. absurd (true≢false o.1);
  first_offends = λ q e. absurd (none-ne-some q e);
}
first_need false p = record {
  none_offends = λ e q o. absurd (some-ne-none p e);
  first_offends = λ q e. let i : p ≡ q = some-injective p q e in
      ((sym i, refl), λ r l o. let j : r ≡ p = o.0 in omega arith);
}

pub least_need : (b : Bool) (p : ℕ) → Least (λ q. (q ≡ p) × (b ≡ false)) p (p + 1) (need b p)
least_need b p = record {
  ordered = omega arith;
  inside = λ q o. let j : q ≡ p = o.0 in (omega arith, omega arith);
  first = first_need b p;
}

-- nothing is checked, and nothing offends
pub first_none : {P : Type 0} {Before : P → P → Type 0} {Off : P → Type 0} → ((q : P) → Off q → ⊥) → FirstBy Before Off none
first_none h = record { none_offends = λ e. h; first_offends = λ p e. absurd (none-ne-some p e) }

-- one check, and then another of what comes after it
pub first_both : {P : Type 0} {Before : P → P → Type 0} {Off Off' : P → Type 0} (f g : Option P) → ((p q : P) → Off p → Off' q → Before q p → ⊥)
    → FirstBy Before Off f → FirstBy Before Off' g → FirstBy Before (λ q. Off q ⊎ Off' q) (both f g)
unfolding both
first_both none g after h k = record {
  none_offends = λ e q. elim [ inl o ↦ h.none_offends refl q o | inr o ↦ k.none_offends e q o ];
  first_offends = λ p e. let r = k.first_offends p e in
      (inr r.0, λ q l. elim [ inl o ↦ h.none_offends refl q o | inr o ↦ r.1 q l o ]);
}
first_both (some p) g after h k = record {
  none_offends = λ e. absurd (some-ne-none p e);
  first_offends = λ q e. let r = h.first_offends q e in
      (inl r.0, λ x l. elim [ inl o ↦ r.1 x l o | inr o ↦ after q x r.0 o l ]);
}

-- things one after the other from lo up to hi, other records between them
pub data Rows {A : Type 0} (Thing : A → ℕ → ℕ → Type 0) : List A → ℕ → ℕ → Type 0 where
  no_row : (lo hi : ℕ) → lo ≤ hi → Rows Thing [] lo hi
  one_row : (x : A) (xs : List A) (lo p q hi : ℕ) → lo ≤ p → Thing x p q → Rows Thing xs q hi → Rows Thing (x ∷ xs) lo hi

pub rows_ordered : {A : Type 0} {Thing : A → ℕ → ℕ → Type 0} → ((x : A) (lo hi : ℕ) → Thing x lo hi → lo ≤ hi)
    → {xs : List A} {lo hi : ℕ} → Rows Thing xs lo hi → lo ≤ hi
rows_ordered h (no_row lo hi l) = l
rows_ordered h (one_row x xs lo p q hi l a r) = let z = h x p q a in let m = rows_ordered h r in omega arith

-- the same things, in a wider space
pub rows_wide : {A : Type 0} {Thing : A → ℕ → ℕ → Type 0} {xs : List A} {lo hi : ℕ} (lo' : ℕ) → lo' ≤ lo → Rows Thing xs lo hi → Rows Thing xs lo' hi
rows_wide lo' m (no_row lo hi l) = no_row lo' hi (omega arith)
rows_wide lo' m (one_row x xs lo p q hi l a r) = one_row x xs lo' p q hi (omega arith) a r

-- the thing with head x is laid out from lo up to hi
abbrev pub From : (ℕ → ℕ → Type 0) → ℕ → ℕ → ℕ → Type 0
From Thing x lo hi = (x ≡ lo) × Thing lo hi

-- so many things in a row, by their heads
pub rows_heads : {Thing : ℕ → ℕ → Type 0} (size : ℕ → ℕ) → ((p q : ℕ) → Thing p q → q ≡ p + size p)
    → {n p r : ℕ} → InRow Thing n p r → Rows (From Thing) (heads size n p) p r
unfolding heads
rows_heads size h (no_thing p) = no_row p p (omega arith)
rows_heads {Thing} size h (one_thing n p q r a as') =
    one_row p (heads size n (p + size p)) p p q r (omega arith) (refl, a)
    (subst (λ (m : ℕ). Rows (From Thing) (heads size n m) q r) (h p q a) (rows_heads size h as'))

-- some entry of xs has an offence at q
abbrev pub Some : {A : Type 0} → List A → (A → ℕ → Type 0) → ℕ → Type 0
Some {A} xs Off q = (x : A) × In x xs × Off x q

-- nothing is an entry of no list
pub in_none : {A : Type 0} {x : A} → In x [] → ⊥
in_none = elim [ ]

-- it is the first entry's, or one of the others'
pub some_split : {A : Type 0} (Off : A → ℕ → Type 0) (x : A) (xs : List A) (q : ℕ) → (Off x q ⊎ Some xs Off q) ↔ Some (x ∷ xs) Off q
some_split {A} Off x xs q = (
  elim [ inl o ↦ (x, here xs, o) | inr r ↦ (r.0, later x xs r.1, r.2) ],
  λ r. go r.1 r.2,
)
  where
    go : {y : A} → In y (x ∷ xs) → Off y q → Off x q ⊎ Some xs Off q
    go (here ys) o = inl o
    go {y} (later z ys i) o = inr (y, i, o)

-- Something in the tree of x offends: it is more than k deep, x itself counting 1, or fails its own test.
pub data Offends {A : Type 0} (ok : A → Bool) (below : A → List A) (place : A → ℕ) (k : ℕ) (x : A) : ℕ → Type 0 where
  too_deep : (d : ℕ) (y : A) → Below below x d y → k < suc d → Offends ok below place k x (place y)
  fails : (d : ℕ) (y : A) → Below below x d y → ok y ≡ false → Offends ok below place k x (place y)

-- where the things of a tree stand: each from its head up to its end, what is below it in a row between these
pub record Standing {A : Type 0} (below : A → List A) (place : A → ℕ) (Stands : A → ℕ → ℕ → Type 0) : Type 0 where
  pub head : {x : A} {lo hi : ℕ} → Stands x lo hi → place x ≡ lo
  pub size : {x : A} {lo hi : ℕ} → Stands x lo hi → lo < hi
  pub rest : {x : A} {lo hi : ℕ} → Stands x lo hi → Rows Stands (below x) (lo + 1) hi

-- Where nothing in the tree is more than k deep: something in it fails its own test.
pub data Fails {A : Type 0} (ok : A → Bool) (below : A → List A) (place : A → ℕ) (x : A) : ℕ → Type 0 where
  failing : (d : ℕ) (y : A) → Below below x d y → ok y ≡ false → Fails ok below place x (place y)
