-- A judgement of a tree, head by head: one law for nodes and for values.
use Rattle.std.specs.Prelude.{◌≡◌, refl, ◌↔◌, List, [], ◌∷◌, map, Bool, true}
use Prim.Native.Nat.{ℕ, zero, suc, ◌<◌}
use Rattle.std.proofs.Math.Option.{Option, none, some, some-ne-none}
use Rattle.rules.specs.Faults.{tree, on_found}
use Rattle.laws.specs.Faults.{need_none, both_none, In, here, later, every_in, Below, itself, under, in_tree}

-- what holds of every entry of a list, by the way in which the list is made
pub in_cons : {A : Type 0} (P : A → Type 0) {x y : A} {xs : List A} → P x → ((z : A) → In z xs → P z) → In y (x ∷ xs) → P y
in_cons P p h (here xs) = p
in_cons P p h (later x xs i) = h _ i

pub map_in : {A B : Type 0} (P : B → Type 0) (f : A → B) (xs : List A) {y : B} → ((x : A) → In x xs → P (f x)) → In y (map f xs) → P y
map_in P f [] h i = elim i [ ]
map_in P f (x ∷ xs) h i = in_cons P (h x (here xs)) (λ z j. map_in P f xs (λ w k. h w (later x xs k)) j) i

pub found_in : {A B : Type 0} (o : Option A) (f : A → List B) {y : B} → In y (on_found o [] f) → (a : A) × (o ≡ some a) × In y (f a)
unfolding on_found
found_in none f i = elim i [ ]
found_in (some a) f i = (a, refl, i)

-- what stands below something in a tree
pub below_more : {A : Type 0} {below : A → List A} {x y z : A} {d : ℕ} → Below below x d y → In z (below y) → Below below x (suc d) z
below_more {z = z} (itself x) i = under x z z 0 i (itself z)
below_more {z = z} (under x c y d j b) i = under x c z (suc d) j (below_more b i)

-- A judgement that holds of a head exactly where the head's own test does and the judgement holds of all directly below it:
module _ {A : Type 0} (ok : A → Bool) (below : A → List A) (Judged : A → Type 0)
    (by_parts : (x : A) → Judged x ↔ ((ok x ≡ true) × ((y : A) → In y (below x) → Judged y))) where
  -- it holds where the check of the tree finds no fault
  pub tree_judged : (k : ℕ) (x : A) → tree ok below k x ≡ none → Judged x
  unfolding tree
  tree_judged zero x e = absurd (some-ne-none x e)
  tree_judged (suc k) x e = let r = both_none _ _ e in (by_parts x).1 (need_none (ok x) x r.0, λ y i. tree_judged k y (every_in _ r.1 i))

  judged_below : {x y : A} {d : ℕ} → Judged x → Below below x d y → Judged y
  judged_below j (itself x) = j
  judged_below j (under x c y d i b) = judged_below (((by_parts x).0 j).1 c i) b

  pub judged_each : (x : A) → Judged x → (d : ℕ) (y : A) → Below below x d y → ok y ≡ true
  judged_each x j d y b = ((by_parts y).0 (judged_below j b)).0

  -- and where nothing is too deep it holds nowhere else: it is one of every head in the tree by itself
  module _ (k : ℕ) (x : A) (shallow : (d : ℕ) (y : A) → Below below x d y → d < k) where
    each_tree : ((d : ℕ) (y : A) → Below below x d y → ok y ≡ true) → tree ok below k x ≡ none
    each_tree h = in_tree ok below k x (λ d y b. (shallow d y b, h d y b))

    pub judged_exactly : (tree ok below k x ≡ none) ↔ Judged x
    judged_exactly = (tree_judged k x, λ j. each_tree (judged_each x j))

    pub each_exactly : Judged x ↔ ((d : ℕ) (y : A) → Below below x d y → ok y ≡ true)
    each_exactly = (judged_each x, λ h. tree_judged k x (each_tree h))
