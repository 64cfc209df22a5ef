-- Of which sort a head is: classes, plain and escaped, by their kind and by their number.
use Rattle.std.specs.Prelude.{ℕ, ◌≡◌, ◌⊎◌, ◌↔◌, List, Bool, ◌||◌}
use Rattle.std.proofs.Math.Path.{refl}
use Rattle.std.proofs.Math.Logic.{inl, inr}
use Rattle.std.proofs.Math.Bool.{true, false}
use Rattle.std.proofs.Math.Option.{Option, none, some, none-ne-some, some-injective}
use Rattle.std.proofs.Common.{arith}
use Rattle.std.proofs.Math.Dec.{eqb}
use borrow.Author.Tests.{eqb-true, eq-eqb, ne_eqb}
use Rattle.rules.specs.Faults.{on_found, only_if}
use Rattle.rules.specs.Records.{kind_of, of_kind}
use Rattle.rules.specs.Grammar.{is_class, class, plain_class, escaped_class}
use Rattle.laws.specs.Faults.{only_if_iff}

-- a class is a record 1 or a record 5
module _ (g : List ℕ) (p : ℕ) where
  pub plain_is_class : kind_of g p ≡ 1 → is_class g p ≡ true
  unfolding is_class
  plain_is_class e = rw (eq-eqb (kind_of g p) 1 e)

  pub escaped_is_class : kind_of g p ≡ 5 → is_class g p ≡ true
  unfolding is_class
  escaped_is_class e = rw (ne_eqb (kind_of g p) 1 (λ k. omega arith), eq-eqb (kind_of g p) 5 e)

  pub no_class : (kind_of g p ≡ 1 → ⊥) → (kind_of g p ≡ 5 → ⊥) → is_class g p ≡ false
  unfolding is_class
  no_class a b = rw (ne_eqb (kind_of g p) 1 a, ne_eqb (kind_of g p) 5 b)

  pub class_kinds : is_class g p ≡ true → (kind_of g p ≡ 1) ⊎ (kind_of g p ≡ 5)
  unfolding is_class
  class_kinds e = go (eqb (kind_of g p) 1) refl e
    where
      go : (b : Bool) → eqb (kind_of g p) 1 ≡ b → (b || eqb (kind_of g p) 5) ≡ true → (kind_of g p ≡ 1) ⊎ (kind_of g p ≡ 5)
      go true a h = inl (eqb-true _ _ a)
      go false a h = inr (eqb-true _ _ h)

-- class n of a kind, if it is of it
found_of_kind : (o : Option ℕ) (is : ℕ → Bool) (p : ℕ) → (on_found o none (λ q. only_if (is q) q) ≡ some p) ↔ ((o ≡ some p) × (is p ≡ true))
unfolding on_found
found_of_kind none is p = (λ e. absurd (none-ne-some p e), λ h. absurd (none-ne-some p h.0))
found_of_kind (some q) is p = (
  λ e. let h = (only_if_iff (is q) q p).0 e in (rw h.1 refl, rw (← h.1) h.0),
  λ h. let z : q ≡ p = some-injective q p h.0 in (only_if_iff (is q) q p).1 (rw z h.1, z),
)

module _ (g : List ℕ) (n p : ℕ) where
  pub plain_class_iff : (plain_class g n ≡ some p) ↔ ((class g n ≡ some p) × (kind_of g p ≡ 1))
  unfolding plain_class
  plain_class_iff = let h = found_of_kind (class g n) (of_kind g 1) p in
      (λ e. let r = h.0 e in (r.0, eqb-true _ _ r.1), λ r. h.1 (r.0, eq-eqb _ _ r.1))

  pub escaped_class_iff : (escaped_class g n ≡ some p) ↔ ((class g n ≡ some p) × (kind_of g p ≡ 5))
  unfolding escaped_class
  escaped_class_iff = let h = found_of_kind (class g n) (of_kind g 5) p in
      (λ e. let r = h.0 e in (r.0, eqb-true _ _ r.1), λ r. h.1 (r.0, eq-eqb _ _ r.1))
