-- A type of a template set, by the tests of the code: it has one record, and one for each field or case. Assumes nothing.
use Prim.Native.Nat.{ℕ, zero, suc, ◌+◌, ◌≤◌, ◌<◌}
use mathlib.Core.Path.{◌≡◌, refl, ap, sym, ◌∙◌}
use mathlib.Core.List.{List}
use mathlib.Core.Bool.{Bool, true, false, ◌&&◌}
use mathlib.Core.Option.{none, some}
use mathlib.Core.Logic.{◌⊎◌, ⊎_elim, inl, inr}
use native.Mathlib.Omega.{arith}
use borrow.Author.Tests.{eqb-true, eq-eqb, ne_eqb, le-leb, lt-leb}
use lib.Dec.{eqb, leb}
use Rattle.rules.specs.Faults.{on_found, only_if}
use Rattle.rules.specs.Records.{field_b, field_c, field_d}
use Rattle.rules.specs.Layout.{then_read, in_row, naming_end, fields_end, type_form_end, type_end}
use Rattle.stream.specs.declared.record.Record.{Record}
use Rattle.stream.specs.Record.{Fetched}

only_same : (b : Bool) (x y : ℕ) → (b ≡ true → x ≡ y) → only_if b x ≡ only_if b y
unfolding only_if
only_same true x y h = ap some (h refl)
only_same false x y h = refl

no_fields_end : (t : List ℕ) (p : ℕ) → eqb (field_c t p) 0 ≡ false → fields_end t p ≡ none
unfolding fields_end only_if then_read on_found
no_fields_end t p e = rw e (and_none (eqb (field_b t p) 0) (p + 1))
  where
    and_none : (b : Bool) (q : ℕ) → then_read (only_if (b && false) q) (in_row (naming_end t 2) (field_d t p)) ≡ none
    and_none true q = refl
    and_none false q = refl

used_c : (t : List ℕ) (p form : ℕ) → eqb (field_c t p) 0 ≡ false → type_form_end t form p ≡ none
unfolding type_form_end only_if then_read on_found
used_c t p zero e = rw e
used_c t p (suc zero) e = rw e (and_none (eqb (field_b t p) 0) (p + 1))
  where
    and_none : (b : Bool) (q : ℕ) → only_if (b && false) q ≡ none
    and_none true q = refl
    and_none false q = refl
used_c t p (suc (suc zero)) e = rw e
used_c t p (suc (suc (suc zero))) e = no_fields_end t p e
used_c t p (suc (suc (suc (suc zero)))) e = go (leb 1 (field_d t p) && leb (field_d t p) 256)
  where
    go : (b : Bool) → then_read (only_if b p) (fields_end t) ≡ none
    go true = no_fields_end t p e
    go false = refl
used_c t p (suc (suc (suc (suc (suc form))))) e = refl

other_type : (t : List ℕ) (p form : ℕ) → ((form ≡ 0) ⊎ (form ≡ 2) → ⊥) → (form ≡ 1 → ⊥) → (form ≡ 3 → ⊥) → (form ≡ 4 → ⊥) → type_form_end t form p ≡ none
unfolding type_form_end
other_type t p zero s o f v = absurd (s (inl refl))
other_type t p (suc zero) s o f v = absurd (o refl)
other_type t p (suc (suc zero)) s o f v = absurd (s (inr refl))
other_type t p (suc (suc (suc zero))) s o f v = absurd (f refl)
other_type t p (suc (suc (suc (suc zero)))) s o f v = absurd (v refl)
other_type t p (suc (suc (suc (suc (suc form))))) s o f v = refl

module _ (t : List ℕ) (p : ℕ) (r : Record) (f : Fetched t p r) where
  -- where the type ends: after its record and its d fields
  abbrev end : ℕ
  end = p + 1 + field_d t p

  type_at : (form : ℕ) → r.a ≡ form → type_end t p ≡ type_form_end t form p
  unfolding type_end
  type_at form e = rw (sym f.a ∙ e)

  not_type : (form : ℕ) → r.a ≡ form → type_form_end t form p ≡ none → only_if false end ≡ type_end t p
  unfolding only_if
  not_type form e z = sym (type_at form e ∙ z)

  pub type_c : (r.c ≡ 0 → ⊥) → only_if false end ≡ type_end t p
  type_c c = not_type r.a refl (used_c t p r.a (ne_eqb (field_c t p) 0 (λ e. c (f.c ∙ e))))

  pub type_other : ((r.a ≡ 0) ⊎ (r.a ≡ 2) → ⊥) → (r.a ≡ 1 → ⊥) → (r.a ≡ 3 → ⊥) → (r.a ≡ 4 → ⊥) → only_if false end ≡ type_end t p
  type_other s o u v = not_type r.a refl (other_type t p r.a s o u v)

  -- with no fields
  no_fields : only_if (eqb r.d 0) end ≡ only_if (eqb (field_d t p) 0) (p + 1)
  no_fields =
      ap (λ (d : ℕ). only_if (eqb d 0) end) f.d
      ∙ only_same (eqb (field_d t p) 0) end (p + 1) (λ e. let z : field_d t p ≡ 0 = eqb-true (field_d t p) 0 e in omega arith)

  module _ (c : r.c ≡ 0) where
    zero_c : eqb (field_c t p) 0 ≡ true
    zero_c = eq-eqb (field_c t p) 0 (sym f.c ∙ c)

    pub type_named_lem : (r.a ≡ 0) ⊎ (r.a ≡ 2) → only_if (eqb r.d 0) end ≡ type_end t p
    unfolding type_form_end
    type_named_lem e = no_fields ∙ ⊎_elim (λ a. sym (type_at 0 a ∙ rw zero_c)) (λ a. sym (type_at 2 a ∙ rw zero_c)) e

    pub type_used_b : r.a ≡ 1 → (r.b ≡ 0 → ⊥) → only_if false end ≡ type_end t p
    unfolding type_form_end only_if
    type_used_b a b = not_type 1 a (rw (ne_eqb (field_b t p) 0 (λ e. b (f.b ∙ e))))

    pub fields_used_b : (r.b ≡ 0 → ⊥) → only_if false end ≡ fields_end t p
    unfolding fields_end only_if then_read on_found
    fields_used_b b = sym (rw (ne_eqb (field_b t p) 0 (λ e. b (f.b ∙ e))))

    module _ (b : r.b ≡ 0) where
      zero_b : eqb (field_b t p) 0 ≡ true
      zero_b = eq-eqb (field_b t p) 0 (sym f.b ∙ b)

      pub type_yes_no : r.a ≡ 1 → only_if (eqb r.d 0) end ≡ type_end t p
      unfolding type_form_end
      type_yes_no a = no_fields ∙ sym (type_at 1 a ∙ rw (zero_b, zero_c))

      pub fields_row : (z : Bool) → only_if z (p + 1 + r.d) ≡ in_row (naming_end t 2) r.d (p + 1) → only_if z end ≡ fields_end t p
      unfolding fields_end then_read on_found only_if
      fields_row z h =
          let e : only_if z end ≡ in_row (naming_end t 2) (field_d t p) (p + 1) = rw (← f.d) h in
          e ∙ sym (rw (zero_b, zero_c))

    pub type_record : r.a ≡ 3 → (z : Bool) → only_if z end ≡ fields_end t p → only_if z end ≡ type_end t p
    unfolding type_form_end
    type_record a z h = h ∙ sym (type_at 3 a)

    -- a variant has 1 to 256 cases
    module _ (a : r.a ≡ 4) where
      pub no_case : r.d < 1 → only_if false end ≡ type_end t p
      unfolding type_form_end only_if then_read on_found
      no_case l = not_type 4 a (rw (lt-leb 1 (field_d t p) (omega (arith, f.d))))

      module _ (l : 1 ≤ r.d) where
        pub many_cases : 256 < r.d → only_if false end ≡ type_end t p
        unfolding type_form_end only_if then_read on_found
        many_cases m = not_type 4 a (rw (le-leb 1 (field_d t p) (omega (arith, f.d)), lt-leb (field_d t p) 256 (omega (arith, f.d))))

        pub type_variant : r.d ≤ 256 → (z : Bool) → only_if z end ≡ fields_end t p → only_if z end ≡ type_end t p
        unfolding type_form_end only_if then_read on_found
        type_variant m z h = h ∙ sym (type_at 4 a ∙ rw (le-leb 1 (field_d t p) (omega (arith, f.d)), le-leb (field_d t p) 256 (omega (arith, f.d))))
