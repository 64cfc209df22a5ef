-- A check answers what offends first, or nothing. These are the ways in which checks are put together.
use Rattle.std.specs.Prelude.{ℕ, zero, suc, List, [], ◌∷◌, Bool, true, false}
use Rattle.std.proofs.Math.Option.{Option, none, some}

-- a test that must hold, or x offends
unfoldable pub need : {A : Type 0} → Bool → A → Option A
need true x = none
need false x = some x

-- one check, and then another
unfoldable pub both : {A : Type 0} → Option A → Option A → Option A
both none b = b
both (some x) b = some x

-- a check of every entry, in order
unfoldable pub every : {A B : Type 0} → (A → Option B) → List A → Option B
every check [] = none
every check (x ∷ xs) = both (check x) (every check xs)

-- a check of a head and of all that stands below it, in record order: its own test first; a head more than k deep offends
unfoldable pub tree : {A : Type 0} → (A → Bool) → (A → List A) → ℕ → A → Option A
tree ok below zero x = some x
tree ok below (suc k) x = both (need (ok x) x) (every (tree ok below k) (below x))

-- what follows from something found, or b
unfoldable pub on_found : {A B : Type 0} → Option A → B → (A → B) → B
on_found none b f = b
on_found (some a) b f = f a

unfoldable pub exists : {A : Type 0} → Option A → Bool
exists none = false
exists (some a) = true

-- a, where the test holds
unfoldable pub only_if : {A : Type 0} → Bool → A → Option A
only_if true a = some a
only_if false a = none

-- the place of what offends
unfoldable pub at : {A : Type 0} → (A → ℕ) → Option A → Option ℕ
at place none = none
at place (some x) = some (place x)
