-- The place that a check answers is the first that offends: one law for each way in which checks are put together.
-- Goes on from specs/Least.antt: what rests on definitions that a must-fail edit changes.
use Rattle.std.specs.Prelude.{◌≡◌, refl, ◌↔◌, ◌⊎◌, List, [], ◌∷◌, Bool, true, false}
use Rattle.std.proofs.Common.{sym, ◌∙◌, ap, inl, inr}
use Rattle.std.proofs.Math.Path.{subst}
use Prim.Native.Nat.{ℕ, zero, suc, ◌≤◌, ◌<◌}
use Rattle.std.proofs.Math.Option.{Option, some-ne-none, some-injective}
use native.Mathlib.Omega.{arith}
use Rattle.rules.specs.Faults.{need, both, every, tree, at}
use Rattle.laws.specs.Faults.{In, here, later, at_both, Below, itself, under}
use Rattle.theorems.specs.Least.{Least, least_same, least_wide, least_need, first_none, first_both, Rows, no_row, one_row, rows_ordered, From, Some, in_none, some_split, Offends, too_deep, fails, Standing, Fails, failing}

pub least_both : {Off Off' : ℕ → Type 0} {lo mid hi : ℕ} {f g : Option ℕ} → Least Off lo mid f → Least Off' mid hi g
    → Least (λ q. Off q ⊎ Off' q) lo hi (both f g)
least_both {f = f} {g = g} h k = record {
  ordered = let a = h.ordered in let b = k.ordered in omega arith;
  inside = λ q. elim [
    | inl o ↦ let r = h.inside q o in let b = k.ordered in (omega arith, omega arith)
    | inr o ↦ let r = k.inside q o in let a = h.ordered in (omega arith, omega arith)
  ];
  first = first_both f g (λ p q o o' l. let r = h.inside p o in let s = k.inside q o' in omega arith) h.first k.first;
}

-- a check of every thing in a row
pub least_every : {A : Type 0} {Thing : A → ℕ → ℕ → Type 0} (Off : A → ℕ → Type 0) (f : A → Option ℕ) {xs : List A} {lo hi : ℕ}
    → ((x : A) (lo hi : ℕ) → In x xs → Thing x lo hi → Least (Off x) lo hi (f x)) → Rows Thing xs lo hi → Least (Some xs Off) lo hi (every f xs)
unfolding every
least_every Off f h (no_row lo hi l) = record {
  ordered = l;
  inside = λ q o. absurd (in_none o.1);
  first = first_none (λ q o. in_none o.1);
}
least_every Off f h (one_row x xs lo p q hi l a r) =
    least_wide l (omega arith)
    (least_same (some_split Off x xs) (least_both (h x p q (here xs) a) (least_every Off f (λ y lo hi i. h y lo hi (later x xs i)) r)))

-- a check of every head in a row
pub least_heads : {Thing : ℕ → ℕ → Type 0} (Off : ℕ → ℕ → Type 0) (f : ℕ → Option ℕ) {xs : List ℕ} {lo hi : ℕ}
    → ((p q : ℕ) → In p xs → Thing p q → Least (Off p) p q (f p)) → Rows (From Thing) xs lo hi → Least (Some xs Off) lo hi (every f xs)
least_heads Off f {xs} h r =
    least_every Off f
    (λ x lo hi i a. subst (λ (p : ℕ). Least (Off p) lo hi (f p)) (sym a.0) (h lo hi (subst (λ (p : ℕ). In p xs) a.0 i) a.1)) r

in_test : {b : ℕ → Bool} (xs : List ℕ) (q : ℕ) → Some xs (λ x q. (q ≡ x) × (b x ≡ false)) q ↔ (In q xs × (b q ≡ false))
in_test {b} xs q = (
  λ r. (subst (λ (x : ℕ). In x xs) (sym r.2.0) r.1, subst (λ (x : ℕ). b x ≡ false) (sym r.2.0) r.2.1),
  λ r. (q, r.0, (refl, r.1)),
)

-- a test of every head in a row
pub least_tests : {Thing : ℕ → ℕ → Type 0} → ((p q : ℕ) → Thing p q → p < q) → (b : ℕ → Bool) {xs : List ℕ} {lo hi : ℕ} → Rows (From Thing) xs lo hi
    → Least (λ q. In q xs × (b q ≡ false)) lo hi (every (λ x. need (b x) x) xs)
least_tests grows b {xs} r =
    least_same (in_test {b = b} xs)
    (least_heads _ _ (λ p q i a. let l = grows p q a in least_wide (omega arith) (omega arith) (least_need (b p) p)) r)

-- the place of what a check finds is what the check of the places finds
at_need : {A : Type 0} (place : A → ℕ) (b : Bool) (x : A) → at place (need b x) ≡ need b (place x)
unfolding at need
at_need place true x = refl
at_need place false x = refl

at_every : {A B : Type 0} (place : B → ℕ) (f : A → Option B) (xs : List A) → at place (every f xs) ≡ every (λ x. at place (f x)) xs
unfolding at every
at_every place f [] = refl
at_every place f (x ∷ xs) = at_both place (f x) (every f xs) ∙ ap (both (at place (f x))) (at_every place f xs)

-- what offends in the tree of x is x itself, or offends in the tree of one below it
module _ {A : Type 0} (ok : A → Bool) (below : A → List A) (place : A → ℕ) (k : ℕ) (x : A) where
  one_deeper : (c : A) (q : ℕ) → In c (below x) → Offends ok below place k c q → Offends ok below place (suc k) x q
  one_deeper c q i (too_deep d y b l) = too_deep (suc d) y (under x c y d i b) (omega arith)
  one_deeper c q i (fails d y b e) = fails (suc d) y (under x c y d i b) e

  deep_split : (y : A) (d : ℕ) → Below below x d y → suc k < suc d → Some (below x) (Offends ok below place k) (place y)
  deep_split y d (itself z) l = absurd (omega arith)
  deep_split y d (under z c w e i b) l = (c, i, too_deep e y b (omega arith))

  failing_split : (y : A) (d : ℕ) → Below below x d y → ok y ≡ false
      → ((place y ≡ place x) × (ok x ≡ false)) ⊎ Some (below x) (Offends ok below place k) (place y)
  failing_split y d (itself z) f = inl (refl, f)
  failing_split y d (under z c w e i b) f = inr (c, i, fails e y b f)

  offends_split : (q : ℕ) → Offends ok below place (suc k) x q → ((q ≡ place x) × (ok x ≡ false)) ⊎ Some (below x) (Offends ok below place k) q
  offends_split q (too_deep d y b l) = inr (deep_split y d b l)
  offends_split q (fails d y b e) = failing_split y d b e

  tree_split : (q : ℕ) → (((q ≡ place x) × (ok x ≡ false)) ⊎ Some (below x) (Offends ok below place k) q) ↔ Offends ok below place (suc k) x q
  tree_split q = (
    elim [
      | inl o ↦ subst (Offends ok below place (suc k) x) (sym o.0) (fails 0 x (itself x) o.1)
      | inr r ↦ one_deeper r.0 q r.1 r.2
    ],
    offends_split q,
  )

  tree_placed : at place (tree ok below (suc k) x) ≡ both (need (ok x) (place x)) (every (λ c. at place (tree ok below k c)) (below x))
  unfolding tree
  tree_placed = at_both place _ _ ∙ rw (at_need place (ok x) x, at_every place (tree ok below k) (below x))

module _ {A : Type 0} {below : A → List A} {place : A → ℕ} {Stands : A → ℕ → ℕ → Type 0} (standing : Standing below place Stands) where
  -- an entry of a row stands inside it
  entry_inside : {c : A} {xs : List A} {lo hi : ℕ} → In c xs → Rows Stands xs lo hi → (p : ℕ) × (q : ℕ) × Stands c p q × (lo ≤ p) × (q ≤ hi)
  entry_inside (here xs) (one_row x ys lo p q hi l a r) = (p, q, a, l, rows_ordered (λ x lo hi s. let z = standing.size s in omega arith) r)
  entry_inside (later y ys i) (one_row x xs lo p q hi l a r) =
      let e = entry_inside i r in
      let z = standing.size a in
      (e.0, e.1, e.2, omega arith, e.4)

  -- all of a tree stands from its head up to its end
  below_inside : {x y : A} {d lo hi : ℕ} → Below below x d y → Stands x lo hi → (lo ≤ place y) × (place y < hi)
  below_inside (itself x) s = let h = standing.head s in let z = standing.size s in (omega arith, omega arith)
  below_inside (under x c y d i b) s =
      let e = entry_inside i (standing.rest s) in
      let r = below_inside b e.2 in
      (omega arith, omega arith)

  offends_inside : (ok : A → Bool) (k : ℕ) (x : A) (lo hi q : ℕ) → Stands x lo hi → Offends ok below place k x q → (lo ≤ q) × (q < hi)
  offends_inside ok k x lo hi q s (too_deep d y b l) = below_inside b s
  offends_inside ok k x lo hi q s (fails d y b e) = below_inside b s

  -- a check of a head and of all below it
  pub least_tree : (ok : A → Bool) (k : ℕ) (x : A) (lo hi : ℕ) → Stands x lo hi
      → Least (Offends ok below place k x) lo hi (at place (tree ok below k x))
  unfolding tree at
  least_tree ok zero x lo hi s = record {
    ordered = let z = standing.size s in omega arith;
    inside = λ q. offends_inside ok 0 x lo hi q s;
    first = record {
      none_offends = λ e. absurd (some-ne-none (place x) e);
      first_offends = λ p e. let i : place x ≡ p = some-injective (place x) p e in (
        subst (Offends ok below place 0 x) i (too_deep 0 x (itself x) (omega arith)),
        λ q l o. let r = offends_inside ok 0 x lo hi q s o in let h = standing.head s in omega arith,
      );
    };
  }
  least_tree ok (suc k) x lo hi s =
      let e = standing.head s in
      rw (tree_placed ok below place k x)
      (least_same (tree_split ok below place k x)
      (least_both (least_wide (omega arith) (omega arith) (least_need (ok x) (place x)))
      (least_every (Offends ok below place k) (λ c. at place (tree ok below k c)) (λ c p q i. least_tree ok k c p q) (standing.rest s))))

module _ {A : Type 0} (ok : A → Bool) (below : A → List A) (place : A → ℕ) (k : ℕ) (x : A) (shallow : (d : ℕ) (y : A) → Below below x d y → d < k) where
  offends_fails : (q : ℕ) → Offends ok below place k x q → Fails ok below place x q
  offends_fails q (too_deep d y b l) = absurd (let m = shallow d y b in omega arith)
  offends_fails q (fails d y b e) = failing d y b e

  fails_offends : (q : ℕ) → Fails ok below place x q → Offends ok below place k x q
  fails_offends q (failing d y b e) = fails d y b e

pub least_shallow : {A : Type 0} {below : A → List A} {place : A → ℕ} {Stands : A → ℕ → ℕ → Type 0} → Standing below place Stands
    → (ok : A → Bool) (k : ℕ) (x : A) (lo hi : ℕ) → Stands x lo hi → ((d : ℕ) (y : A) → Below below x d y → d < k)
    → Least (Fails ok below place x) lo hi (at place (tree ok below k x))
least_shallow {below = below} {place = place} st ok k x lo hi s h =
    least_same (λ q. (offends_fails ok below place k x h q, fails_offends ok below place k x h q)) (least_tree st ok k x lo hi s)
