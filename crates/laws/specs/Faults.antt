-- What a check says, when it finds nothing and when it does: laws for each way in which checks are put together.
use Rattle.std.specs.Prelude.{◌≡◌, ◌↔◌, ◌⊎◌, List, [], ◌∷◌, ◌++◌, map, Bool, true, false, ◌&&◌, ◌||◌, eqb, leb, ltb}
use Rattle.std.proofs.Math.Path.{refl, sym}
use Rattle.std.proofs.Common.{ap, subst, ◌∙◌, inl, inr, eqb-true, eq-eqb, leb-true, le-leb, ltb-true, lt-ltb}
use Prim.Native.Nat.{ℕ, zero, suc, ◌-◌, ◌≤◌, ◌<◌}
use Rattle.std.proofs.lemmas.Bool.{false≢true}
use Rattle.std.proofs.Math.Option.{Option, none, some, some-ne-none, none-ne-some, some-injective}
use native.Mathlib.Omega.{arith}
use Rattle.rules.specs.Records.{nth}
use Rattle.rules.specs.Answers.{placed, try}
use Rattle.rules.specs.declared.Answer.{Answer}
use Rattle.rules.specs.Faults.{need, both, every, tree, on_found, exists, only_if, at}

pub need_none : {A : Type 0} (b : Bool) (x : A) → need b x ≡ none → b ≡ true
unfolding need
need_none true x e = refl
need_none false x e = absurd (some-ne-none x e)

pub need_iff : {A : Type 0} (b : Bool) (x : A) → (need b x ≡ none) ↔ (b ≡ true)
unfolding need
need_iff true x = (λ e. refl, λ e. refl)
need_iff false x = (λ e. absurd (some-ne-none x e), λ e. absurd (false≢true e))

pub need_some : {A : Type 0} (b : Bool) (x : A) → (need b x ≡ none → ⊥) → need b x ≡ some x
unfolding need
need_some true x h = absurd (h refl)
need_some false x h = refl

-- two tests that fail alike
pub need_alike : {A : Type 0} (x : A) (b b' : Bool) → (need b x ≡ none → need b' x ≡ none) → (need b' x ≡ none → need b x ≡ none) → need b x ≡ need b' x
unfolding need
need_alike x true true f h = refl
need_alike x true false f h = sym (f refl)
need_alike x false true f h = h refl
need_alike x false false f h = refl

pub both_none : {A : Type 0} (a b : Option A) → both a b ≡ none → (a ≡ none) × (b ≡ none)
unfolding both
both_none none b e = (refl, e)
both_none (some x) b e = absurd (some-ne-none x e)

pub both_iff : {A : Type 0} (a b : Option A) → (both a b ≡ none) ↔ ((a ≡ none) × (b ≡ none))
unfolding both
both_iff none b = (λ e. (refl, e), λ e. e.1)
both_iff (some x) b = (λ e. absurd (some-ne-none x e), λ e. absurd (some-ne-none x e.0))

-- a test that holds, or fails; a check that passes, or offends, and then another
pub need_right : {A : Type 0} {b : Bool} (x : A) → b ≡ true → need b x ≡ none
unfolding need
need_right x e = rw e

pub need_wrong : {A : Type 0} {b : Bool} (x : A) → b ≡ false → need b x ≡ some x
unfolding need
need_wrong x e = rw e

pub both_right : {A : Type 0} {a : Option A} (b : Option A) → a ≡ none → both a b ≡ b
unfolding both
both_right b e = rw e

pub both_wrong : {A : Type 0} {a : Option A} (b : Option A) {x : A} → a ≡ some x → both a b ≡ some x
unfolding both
both_wrong b e = rw e

pub both_nil : {A : Type 0} (a : Option A) → both a none ≡ a
unfolding both
both_nil none = refl
both_nil (some x) = refl

pub every_nil : {A B : Type 0} (f : A → Option B) → every f [] ≡ none
unfolding every
every_nil f = refl

pub every_cons : {A B : Type 0} (f : A → Option B) (x : A) (xs : List A) → f x ≡ none → every f xs ≡ none → every f (x ∷ xs) ≡ none
unfolding every both
every_cons f x xs e r = rw e r

pub every_first : {A B : Type 0} (f : A → Option B) (x : A) (xs : List A) → every f (x ∷ xs) ≡ none → (f x ≡ none) × (every f xs ≡ none)
unfolding every
every_first f x xs e = both_none _ _ e

pub every_one : {A B : Type 0} (f : A → Option B) (x : A) → every f (x ∷ []) ≡ f x
unfolding every
every_one f x = both_nil (f x)

-- a loop's turn: the next entry is right, or it offends; after the last turn nothing is left
module _ {A B : Type 0} (f : A → Option B) {whole : Option B} {xs : List A} (rest : every f xs ≡ whole) where
  pub every_next : {y : A} {ys : List A} → xs ≡ y ∷ ys → f y ≡ none → every f ys ≡ whole
  unfolding every
  every_next e h = sym (ap (every f) e ∙ both_right _ h) ∙ rest

  pub every_stop : {y : A} {ys : List A} {x : B} → xs ≡ y ∷ ys → f y ≡ some x → some x ≡ whole
  unfolding every
  every_stop e h = sym (ap (every f) e ∙ both_wrong _ h) ∙ rest

  pub every_end : xs ≡ [] → none ≡ whole
  unfolding every
  every_end e = sym (ap (every f) e) ∙ rest

-- x is an entry of xs
pub data In {A : Type 0} (x : A) : List A → Type 0 where
  here : (xs : List A) → In x (x ∷ xs)
  later : (y : A) (xs : List A) → In x xs → In x (y ∷ xs)

pub in_nth : {A : Type 0} {x : A} {xs : List A} → In x xs → (n : ℕ) × (nth xs n ≡ some x)
unfolding nth
in_nth (here xs) = (0, refl)
in_nth (later y xs i) = let r = in_nth i in (suc r.0, r.1)

pub nth_in : {A : Type 0} (xs : List A) (n : ℕ) (x : A) → nth xs n ≡ some x → In x xs
unfolding nth
nth_in [] n x e = absurd (none-ne-some x e)
nth_in (y ∷ ys) zero x e = subst (λ z. In z (y ∷ ys)) (some-injective y x e) (here ys)
nth_in (y ∷ ys) (suc n) x e = later y ys (nth_in ys n x e)

pub in_map : {A B : Type 0} (f : A → B) {x : A} {xs : List A} → In x xs → In (f x) (map f xs)
in_map f (here xs) = here _
in_map f (later y xs i) = later _ _ (in_map f i)

pub in_append : {A : Type 0} {x : A} (xs ys : List A) → In x (xs ++ ys) → In x xs ⊎ In x ys
in_append [] ys i = inr i
in_append (y ∷ xs) ys (here _) = inl (here xs)
in_append (y ∷ xs) ys (later _ _ i) = elim (in_append xs ys i) [ inl j ↦ inl (later y xs j) | inr j ↦ inr j ]

pub every_in : {A B : Type 0} (f : A → Option B) {x : A} {xs : List A} → every f xs ≡ none → In x xs → f x ≡ none
unfolding every
every_in f e (here xs) = (both_none _ _ e).0
every_in f e (later y xs i) = every_in f (both_none _ _ e).1 i

pub in_every : {A B : Type 0} (f : A → Option B) (xs : List A) → ((x : A) → In x xs → f x ≡ none) → every f xs ≡ none
unfolding every both
in_every f [] h = refl
in_every f (x ∷ xs) h = rw (h x (here xs)) (in_every f xs (λ y i. h y (later x xs i)))

pub every_iff : {A B : Type 0} (f : A → Option B) (xs : List A) → (every f xs ≡ none) ↔ ((x : A) → In x xs → f x ≡ none)
every_iff f xs = (λ e x i. every_in f e i, in_every f xs)

pub on_found_true : {A : Type 0} (o : Option A) (f : A → Bool) → (on_found o false f ≡ true) ↔ ((a : A) × (o ≡ some a) × (f a ≡ true))
unfolding on_found
on_found_true none f = (λ e. absurd (false≢true e), λ e. absurd (none-ne-some e.0 e.1))
on_found_true (some a) f = (λ e. (a, refl, e), λ e. subst (λ x. f x ≡ true) (sym (some-injective a e.0 e.1)) e.2)

pub exists_iff : {A : Type 0} (o : Option A) → (exists o ≡ true) ↔ ((a : A) × (o ≡ some a))
unfolding exists
exists_iff none = (λ e. absurd (false≢true e), λ h. absurd (none-ne-some h.0 h.1))
exists_iff (some a) = (λ e. (a, refl), λ h. refl)

-- what is there only if a test holds
pub only_if_iff : {A : Type 0} (b : Bool) (x y : A) → (only_if b x ≡ some y) ↔ ((b ≡ true) × (x ≡ y))
unfolding only_if
only_if_iff true x y = (λ e. (refl, some-injective x y e), λ h. ap some h.1)
only_if_iff false x y = (λ e. absurd (none-ne-some y e), λ h. absurd (false≢true h.0))

pub only_yes : {A : Type 0} (b : Bool) (x : A) → b ≡ true → only_if b x ≡ some x
unfolding only_if
only_yes b x e = rw e

pub only_no : {A : Type 0} (b : Bool) (x : A) → b ≡ false → only_if b x ≡ none
unfolding only_if
only_no b x e = rw e

pub if_exists : {A : Type 0} (b : Bool) (a : A) → exists (only_if b a) ≡ b
unfolding exists only_if
if_exists true a = refl
if_exists false a = refl

pub on_found_some : {A B : Type 0} (o : Option A) (f : A → Option B) (b : B) → on_found o none f ≡ some b → (a : A) × (o ≡ some a) × (f a ≡ some b)
unfolding on_found
on_found_some none f b e = absurd (none-ne-some b e)
on_found_some (some a) f b e = (a, refl, e)

pub on_found_none : {A B : Type 0} (o : Option A) (b : B) (f : A → Option B) → (on_found o (some b) f ≡ none) ↔ ((a : A) × (o ≡ some a) × (f a ≡ none))
unfolding on_found
on_found_none none b f = (λ e. absurd (some-ne-none b e), λ e. absurd (none-ne-some e.0 e.1))
on_found_none (some a) b f = (λ e. (a, refl, e), λ e. subst (λ x. f x ≡ none) (sym (some-injective a e.0 e.1)) e.2)

pub on_some : {A B : Type 0} {o : Option A} {a : A} (b : B) (f : A → B) → o ≡ some a → on_found o b f ≡ f a
unfolding on_found
on_some b f e = rw e

pub on_none : {A B : Type 0} {o : Option A} (b : B) (f : A → B) → o ≡ none → on_found o b f ≡ b
unfolding on_found
on_none b f e = rw e

pub at_none : {A : Type 0} (place : A → ℕ) (o : Option A) → (at place o ≡ none) ↔ (o ≡ none)
unfolding at
at_none place none = (λ e. refl, λ e. refl)
at_none place (some x) = (λ e. absurd (some-ne-none (place x) e), λ e. absurd (some-ne-none x e))

pub at_some : {A : Type 0} (place : A → ℕ) (o : Option A) (p : ℕ) → at place o ≡ some p → (x : A) × (o ≡ some x) × (place x ≡ p)
unfolding at
at_some place none p e = absurd (none-ne-some p e)
at_some place (some x) p e = (x, refl, some-injective (place x) p e)

pub at_both : {A : Type 0} (place : A → ℕ) (a b : Option A) → at place (both a b) ≡ both (at place a) (at place b)
unfolding at both
at_both place none b = refl
at_both place (some x) b = refl

pub and_true : (a b : Bool) → (a && b) ≡ true → (a ≡ true) × (b ≡ true)
and_true true b e = (refl, e)
and_true false b e = absurd (false≢true e)

pub and_iff : (a b : Bool) → ((a && b) ≡ true) ↔ ((a ≡ true) × (b ≡ true))
and_iff true b = (and_true true b, λ e. e.1)
and_iff false b = (and_true false b, λ e. absurd (false≢true e.0))

pub or_iff : (a b : Bool) → ((a || b) ≡ true) ↔ ((a ≡ true) ⊎ (b ≡ true))
or_iff true b = (λ e. inl refl, λ e. refl)
or_iff false b = (inr, λ e. elim e [ inl h ↦ absurd (false≢true h) | inr h ↦ h ])

pub eqb_iff : (a b : ℕ) → (eqb a b ≡ true) ↔ (a ≡ b)
eqb_iff a b = (eqb-true a b, eq-eqb a b)

pub leb_iff : (a b : ℕ) → (leb a b ≡ true) ↔ (a ≤ b)
leb_iff a b = (leb-true a b, le-leb a b)

pub ltb_iff : (a b : ℕ) → (ltb a b ≡ true) ↔ (a < b)
ltb_iff a b = (ltb-true a b, lt-ltb a b)

-- a check finds nothing, and neither does what is tried next
pub placed_iff : (kind : ℕ) (fault : Option ℕ) → (placed kind fault ≡ none) ↔ (fault ≡ none)
unfolding placed
placed_iff kind none = (λ e. refl, λ e. refl)
placed_iff kind (some p) = (λ e. absurd (some-ne-none _ e), λ e. absurd (some-ne-none p e))

pub try_iff : (number : ℕ) (fault : Option (ℕ × ℕ)) (next : Unit {0} → Option Answer) → (try number fault next ≡ none) ↔ ((fault ≡ none) × (next tt ≡ none))
unfolding try
try_iff number none next = (λ e. (refl, e), λ e. e.1)
try_iff number (some x) next = (λ e. absurd (some-ne-none _ e), λ e. absurd (some-ne-none x e.0))

-- y stands so many levels below x
pub data Below {A : Type 0} (below : A → List A) : A → ℕ → A → Type 0 where
  itself : (x : A) → Below below x 0 x
  under : (x c y : A) (d : ℕ) → In c (below x) → Below below c d y → Below below x (suc d) y

-- a tree has no fault exactly when everything in it is at most k deep, itself counting 1, and passes its own test
pub tree_in : {A : Type 0} (ok : A → Bool) (below : A → List A) (k : ℕ) {x y : A} {d : ℕ} → tree ok below k x ≡ none → Below below x d y → (d < k) × (ok y ≡ true)
unfolding tree
tree_in ok below zero e (itself x) = absurd (some-ne-none x e)
tree_in ok below zero e (under x c y d i b) = absurd (some-ne-none x e)
tree_in ok below (suc k) e (itself x) = (omega arith, need_none (ok x) x (both_none _ _ e).0)
tree_in ok below (suc k) e (under x c y d i b) =
    let r = tree_in ok below k (every_in (tree ok below k) (both_none _ _ e).1 i) b in
    (omega arith, r.1)

pub in_tree : {A : Type 0} (ok : A → Bool) (below : A → List A) (k : ℕ) (x : A) → ((d : ℕ) (y : A) → Below below x d y → (d < k) × (ok y ≡ true)) → tree ok below k x ≡ none
unfolding tree both need
in_tree ok below zero x h = absurd (let z : 0 < 0 = (h 0 x (itself x)).0 in omega arith)
in_tree ok below (suc k) x h =
    rw (h 0 x (itself x)).1
    (in_every (tree ok below k) (below x) λ c i. in_tree ok below k c λ d y b. let r = h (suc d) y (under x c y d i b) in (omega arith, r.1))

-- a tree with a level left: its own test, then all below it; with none left it offends
module _ {A : Type 0} (ok : A → Bool) (below : A → List A) where
  pub tree_right : (left : ℕ) (x : A) → 0 < left → ok x ≡ true → tree ok below left x ≡ every (tree ok below (left - 1)) (below x)
  unfolding tree
  tree_right zero x l e = absurd (omega arith)
  tree_right (suc k) x l e = let p : suc k - 1 ≡ k = omega arith in rw p (both_right _ (need_right x e))

  pub tree_wrong : (left : ℕ) (x : A) → 0 < left → ok x ≡ false → tree ok below left x ≡ some x
  unfolding tree
  tree_wrong zero x l e = absurd (omega arith)
  tree_wrong (suc k) x l e = both_wrong _ (need_wrong x e)

  pub tree_deep : (left : ℕ) (x : A) → left ≡ 0 → tree ok below left x ≡ some x
  unfolding tree
  tree_deep zero x e = refl
  tree_deep (suc k) x e = absurd (omega arith)

  pub tree_none : (k : ℕ) (x : A) → tree ok below k x ≡ none → (j : ℕ) × (ok x ≡ true) × (every (tree ok below j) (below x) ≡ none)
  unfolding tree
  tree_none zero x e = absurd (some-ne-none x e)
  tree_none (suc k) x e = let h = both_none _ _ e in (k, need_none (ok x) x h.0, h.1)
