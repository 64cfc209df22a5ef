-- Laws of an expand's own test, in step with the code. Assumes nothing.
use Prim.Native.Nat.{ℕ, zero, suc, ◌+◌, ◌-◌, ◌≤◌, ◌<◌}
use mathlib.Core.Path.{◌≡◌, refl, sym, ap, ◌∙◌}
use mathlib.Core.List.{List, map}
use mathlib.Core.Bool.{Bool, true, false, ◌&&◌, and-false}
use mathlib.Core.Option.{none, some}
use lib.Dec.{eqb}
use borrow.Author.Tests.{eq-eqb, ne_eqb}
use Rattle.rules.specs.Faults.{on_found}
use Rattle.rules.specs.Records.{field_a, field_b, field_d, heads, row, nth}
use Rattle.rules.specs.Templates.{templates, template, parameter_heads, parameters, paths}
use Rattle.rules.specs.Typing.{Site, asks_nonterminal, path_type, arguments_fit, suits_form}
use Rattle.rules.specs.declared.Form.TheVariants.{Expand}
use Rattle.laws.specs.Faults.{on_some, on_none}
use Rattle.laws.specs.Rows.{row_all, row_more, row_done}

fit_lengths : (t vars : List ℕ) (n m p q : ℕ) → (n ≡ m → ⊥) → arguments_fit t vars (row n p) (map (field_b t) (row m q)) ≡ false
unfolding arguments_fit row heads
fit_lengths t vars zero zero p q h = absurd (h refl)
fit_lengths t vars zero (suc m) p q h = refl
fit_lengths t vars (suc n) zero p q h = refl
fit_lengths t vars (suc n) (suc m) p q h =
    ap (λ (b : Bool). on_found (path_type t vars p) false (eqb (field_b t q)) && b) (fit_lengths t vars n m (p + 1) (q + 1) (λ e. h (ap suc e))) ∙ and-false (on_found (path_type t vars p) false (eqb (field_b t q)))

module _ (g t : List ℕ) (x : Site) where
  pub expand_nothing : asks_nonterminal x.position ≡ none → false ≡ suits_form g t Expand x
  unfolding suits_form
  expand_nothing h = sym (on_none false _ h)

  module _ (n : ℕ) (asks : asks_nonterminal x.position ≡ some n) (hs : List ℕ) (he : hs ≡ templates t) (k : ℕ) (hk : k ≡ field_b t x.node) where
    pub expand_missing : nth hs k ≡ none → false ≡ suits_form g t Expand x
    unfolding suits_form template
    expand_missing h = sym (on_some false _ asks ∙ on_none false _ (rw (← hk, ← he) h))

    module _ (q : ℕ) (hq : nth hs k ≡ some q) (b : ℕ) (hb : b ≡ field_b t q) where
      expand_found : suits_form g t Expand x ≡ (eqb b n && arguments_fit t x.vars (paths t x.node) (parameters t q))
      unfolding suits_form template
      expand_found = on_some false _ asks ∙ on_some {a = q} false _ (rw (← hk, ← he) hq) ∙ rw (← hb)

      pub expand_other : (b ≡ n → ⊥) → false ≡ suits_form g t Expand x
      expand_other h = sym (expand_found ∙ rw (ne_eqb _ _ h))

      module _ (same : b ≡ n) (d a : ℕ) (hd : d ≡ field_d t x.node) (ha : a ≡ field_a t q) where
        expand_fits : suits_form g t Expand x ≡ arguments_fit t x.vars (row d (x.node + 1)) (map (field_b t) (row a (q + 1)))
        unfolding paths parameters parameter_heads
        expand_fits = expand_found ∙ rw (eq-eqb _ _ same, ← hd, ← ha)

        pub expand_counts : (d ≡ a → ⊥) → false ≡ suits_form g t Expand x
        expand_counts h = sym (expand_fits ∙ fit_lengths t x.vars d a (x.node + 1) (q + 1) h)

        pub expand_is : d ≡ a → arguments_fit t x.vars (row d (x.node + 1)) (map (field_b t) (row d (q + 1))) ≡ suits_form g t Expand x
        expand_is h = ap (λ (m : ℕ). arguments_fit t x.vars (row d (x.node + 1)) (map (field_b t) (row m (q + 1)))) h ∙ sym expand_fits

-- what is left of an expand's arguments after i turns
abbrev pub fits : List ℕ → List ℕ → ℕ → ℕ → ℕ → ℕ → Bool
fits t vars n p q i = arguments_fit t vars (row (n - i) (p + 1 + i)) (map (field_b t) (row (n - i) (q + 1 + i)))

module _ (t vars : List ℕ) (n p q : ℕ) where
  pub fits_start : fits t vars n p q 0 ≡ arguments_fit t vars (row n (p + 1)) (map (field_b t) (row n (q + 1)))
  fits_start = rw (row_all n (p + 1), row_all n (q + 1))

  module _ (i : ℕ) where
    pub fits_done : n ≤ i → fits t vars n p q i ≡ true
    unfolding arguments_fit
    fits_done h = rw (row_done n (p + 1) i h, row_done n (q + 1) i h)

    module _ (more : i < n) where
      fits_more : fits t vars n p q i ≡ (on_found (path_type t vars (p + 1 + i)) false (eqb (field_b t (q + 1 + i))) && fits t vars n p q (i + 1))
      unfolding arguments_fit
      fits_more = rw (row_more n (p + 1) i more, row_more n (q + 1) i more)

      pub fits_nothing : path_type t vars (p + 1 + i) ≡ none → fits t vars n p q i ≡ false
      unfolding on_found
      fits_nothing e = fits_more ∙ rw e

      module _ (u b : ℕ) (hu : path_type t vars (p + 1 + i) ≡ some u) (hb : b ≡ field_b t (q + 1 + i)) where
        pub fits_other : (b ≡ u → ⊥) → fits t vars n p q i ≡ false
        unfolding on_found
        fits_other h = fits_more ∙ rw (hu, ← hb, ne_eqb _ _ h)

        pub fits_next : b ≡ u → fits t vars n p q i ≡ fits t vars n p q (i + 1)
        unfolding on_found
        fits_next h = fits_more ∙ rw (hu, ← hb, eq-eqb _ _ h)
