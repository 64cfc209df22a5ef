-- Refusal 6 as a statement, and that the check finds no fault exactly where it holds.
use Rattle.std.specs.Prelude.{◌≡◌, ◌↔◌, ◌⊎◌, ℕ, ◌≤◌, List, true}
use Rattle.std.proofs.Common.{sym, ◌∙◌, inl, inr, arith, eq-eqb, ne_eqb}
use Rattle.std.proofs.Math.Option.{none}
use Rattle.rules.specs.Records.{kind_of, field_b, field_c}
use Rattle.rules.specs.Lexeme.{lowest, highest, ranges}
use Rattle.rules.specs.Grammar.{is_class, grammar_things, classes}
use Rattle.rules.specs.Classes.{range_right, class_bounds, bounds_right, grammar_classes}
use Rattle.laws.specs.Faults.{need_none, need_iff, both_none, both_iff, In, every_in, in_every, and_iff, leb_iff}
use Rattle.laws.specs.Sorts.{class_kinds}
use Rattle.theorems.specs.Apart.{those_in}

-- "A class has least above most, or a range has lowest above highest or passes U+10FFFF." is refused: of a class that is right
pub record ClassRight (g : List ℕ) (p : ℕ) : Type 0 where
  pub least_most : field_b g p ≤ field_c g p
  pub lowest_highest : (r : ℕ) → In r (ranges g p) → lowest g r ≤ highest g r
  pub in_unicode : (r : ℕ) → In r (ranges g p) → highest g r ≤ 0x10ffff

range_iff : (g : List ℕ) (r : ℕ) → (range_right g r ≡ true) ↔ ((lowest g r ≤ highest g r) × (highest g r ≤ 0x10ffff))
unfolding range_right
range_iff g r = (λ e. let a = (and_iff _ _).0 e in ((leb_iff _ _).0 a.0, (leb_iff _ _).0 a.1), λ h. (and_iff _ _).1 ((leb_iff _ _).1 h.0, (leb_iff _ _).1 h.1))

class_bounds_lem : (g : List ℕ) (p : ℕ) → (class_bounds g p ≡ none) ↔ ClassRight g p
unfolding class_bounds
class_bounds_lem g p = (
  λ e. let a = both_none _ _ e in
      record {
        least_most = (leb_iff _ _).0 (need_none _ p a.0);
        lowest_highest = λ r j. ((range_iff g r).0 (need_none _ r (every_in _ a.1 j))).0;
        in_unicode = λ r j. ((range_iff g r).0 (need_none _ r (every_in _ a.1 j))).1;
      },
  λ h. (both_iff _ _).1 (
    (need_iff _ p).1 ((leb_iff _ _).1 h.least_most),
    in_every _ _ λ r j. (need_iff _ r).1 ((range_iff g r).1 (h.lowest_highest r j, h.in_unicode r j)),
  ),
)

-- the bounds of an escaped class, which has none, are not looked at
pub plain_bounds : (g : List ℕ) (p : ℕ) → kind_of g p ≡ 1 → bounds_right g p ≡ class_bounds g p
unfolding bounds_right
plain_bounds g p k = rw (ne_eqb (kind_of g p) 5 (λ z. omega arith))

pub escaped_bounds : (g : List ℕ) (p : ℕ) → kind_of g p ≡ 5 → bounds_right g p ≡ none
unfolding bounds_right
escaped_bounds g p k = rw (eq-eqb (kind_of g p) 5 k)

-- a class is a plain or an escaped one
pub class_in : (g : List ℕ) {p : ℕ} → In p (classes g) → (kind_of g p ≡ 1) ⊎ (kind_of g p ≡ 5)
unfolding classes
class_in g {p} i = class_kinds g p (those_in (is_class g) (grammar_things g) i).1

pub classes_exactly : (g : List ℕ) → (grammar_classes g ≡ none) ↔ ((p : ℕ) → In p (classes g) → kind_of g p ≡ 1 → ClassRight g p)
unfolding grammar_classes
classes_exactly g = (
  λ e p i k. (class_bounds_lem g p).0 (sym (plain_bounds g p k) ∙ every_in _ e i),
  λ h. in_every _ _ λ p i. elim (class_in g i) [
    | inl k ↦ plain_bounds g p k ∙ (class_bounds_lem g p).1 (h p i k)
    | inr k ↦ escaped_bounds g p k
  ],
)
