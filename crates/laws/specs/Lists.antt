-- Entries of lists: by number, of a first part, of what is left after some.
use Rattle.std.specs.Prelude.{ℕ, zero, suc, ◌+◌, ◌≤◌, ◌<◌, ◌≡◌, refl, List, [], ◌∷◌, ◌++◌, map, length, get_or, take, drop}
use Rattle.std.proofs.Common.{sym, ap, ◌∙◌, arith, le_of_suc-le-suc, not-suc-le-zero, zero-add, suc-add, length-take, drop_of_length-le, get_or-take, drop-cons}
use Rattle.std.proofs.Math.Option.{none, some, some-ne-none, none-ne-some, some-injective}
use Rattle.std.proofs.Math.Numerals.{add-one}
use Rattle.std.proofs.Math.Seq.{take-nil}
use Rattle.rules.specs.Records.{nth, numbered}

pub nth_some : (xs : List ℕ) (i : ℕ) → i < length xs → nth xs i ≡ some (get_or xs i 0)
unfolding nth
nth_some [] i h = absurd (not-suc-le-zero h)
nth_some (x ∷ xs) zero h = refl
nth_some (x ∷ xs) (suc i) h = nth_some xs i (le_of_suc-le-suc h)

pub nth_none : (xs : List ℕ) (i : ℕ) → length xs ≤ i → nth xs i ≡ none
unfolding nth
nth_none [] i h = refl
nth_none (x ∷ xs) zero h = absurd (not-suc-le-zero h)
nth_none (x ∷ xs) (suc i) h = nth_none xs i (le_of_suc-le-suc h)

pub nth_within : (xs : List ℕ) (i x : ℕ) → nth xs i ≡ some x → i < length xs
unfolding nth
nth_within [] i x e = absurd (some-ne-none x (sym e))
nth_within (y ∷ xs) zero x e = omega arith
nth_within (y ∷ xs) (suc i) x e = let w = nth_within xs i x e in omega (arith, w)

-- an entry of a list with one more at its end: what holds of all before, and of that one, holds of it
pub nth_more : (xs : List ℕ) (x k w : ℕ) → nth (xs ++ x ∷ []) k ≡ some w → (P : ℕ → Type 0) → ((k w : ℕ) → nth xs k ≡ some w → P w) → P x → P w
unfolding nth
nth_more [] x zero w e P f p = let z : x ≡ w = some-injective x w e in rw z at p
nth_more [] x (suc k) w e P f p = absurd (none-ne-some w e)
nth_more (y ∷ ys) x zero w e P f p = f 0 w e
nth_more (y ∷ ys) x (suc k) w e P f p = nth_more ys x k w e P (λ i u h. f (suc i) u h) p

-- the first n entries of a list
pub first_some : (xs : List ℕ) (n k : ℕ) → n ≤ length xs → k < n → some (get_or xs k 0) ≡ nth (take n xs) k
first_some xs n k h l = sym (nth_some (take n xs) k (simp length-take (omega arith)) ∙ ap some (get_or-take n xs k 0 l))

pub first_none : (xs : List ℕ) (n k : ℕ) → n ≤ k → none ≡ nth (take n xs) k
first_none xs n k h = sym (nth_none (take n xs) k (simp length-take (omega arith)))

-- what is left of a list after i entries, and with their numbers
module _ (xs : List ℕ) (i : ℕ) where
  pub drop_done : length xs ≤ i → drop i xs ≡ []
  drop_done h = drop_of_length-le xs {i = i} h

  pub drop_more : i < length xs → drop i xs ≡ get_or xs i 0 ∷ drop (i + 1) xs
  drop_more h = drop-cons xs i 0 h ∙ rw (add-one i)

  pub numbered_done : length xs ≤ i → numbered i (drop i xs) ≡ []
  unfolding numbered
  numbered_done h = rw (drop_done h)

  pub numbered_more : i < length xs → numbered i (drop i xs) ≡ (i, get_or xs i 0) ∷ numbered (i + 1) (drop (i + 1) xs)
  unfolding numbered
  numbered_more h = rw (drop_more h, add-one i)

pub length_map : {A B : Type 0} (f : A → B) (xs : List A) → length (map f xs) ≡ length xs
length_map f [] = refl
length_map f (x ∷ xs) = ap suc (length_map f xs)

-- what is left of a first part
pub drop_take : (m n : ℕ) (l : List ℕ) → drop m (take (m + n) l) ≡ take n (drop m l)
drop_take zero n l = rw zero-add
drop_take (suc m) n [] = rw suc-add (sym (take-nil n))
drop_take (suc m) n (x ∷ l) = rw suc-add (drop_take m n l)
