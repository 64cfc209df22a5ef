-- Elements and rows of elements, in the code's steps.
use Prim.Native.Nat.{ℕ, ◌≤◌, ◌<◌}
use mathlib.Core.Path.{◌≡◌, sym, ap, ◌∙◌}
use mathlib.Core.List.{List, [], ◌∷◌, map}
use mathlib.Core.Bool.{Bool, true, false}
use native.Mathlib.Omega.{arith}
use lib.Dec.{eqb}
use borrow.Author.Tests.{eq-eqb, ne_eqb}
use Rattle.rules.specs.Grammar.{element_at}
use Rattle.rules.specs.Finite.{derivable, all_derivable}

-- none are left, or some
pub none_left : (left : ℕ) → left ≤ 0 → eqb left 0 ≡ true
none_left left l = eq-eqb left 0 (omega arith)

pub some_left : (k left : ℕ) → k < left → eqb left 0 ≡ false
some_left k left l = ne_eqb left 0 (λ z. omega arith)

-- a row of elements, from the one at e on
module _ (g : List ℕ) (known : ℕ → Bool) {xs : List ℕ} {whole : Bool} (rest : all_derivable g known (map (element_at g) xs) ≡ whole) where
  pub derivable_next : {e : ℕ} {es : List ℕ} → xs ≡ e ∷ es → derivable g known (element_at g e) ≡ true → all_derivable g known (map (element_at g) es) ≡ whole
  unfolding all_derivable
  derivable_next e h = sym (ap (λ (ys : List ℕ). all_derivable g known (map (element_at g) ys)) e ∙ rw h) ∙ rest

  pub derivable_stop : {e : ℕ} {es : List ℕ} → xs ≡ e ∷ es → derivable g known (element_at g e) ≡ false → false ≡ whole
  unfolding all_derivable
  derivable_stop e h = sym (ap (λ (ys : List ℕ). all_derivable g known (map (element_at g) ys)) e ∙ rw h) ∙ rest

  pub derivable_end : xs ≡ [] → true ≡ whole
  unfolding all_derivable
  derivable_end e = sym (ap (λ (ys : List ℕ). all_derivable g known (map (element_at g) ys)) e) ∙ rest
