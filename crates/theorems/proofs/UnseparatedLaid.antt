-- Two grammars that differ only in element 3 against element 4 with an empty separator are both laid out, or neither is.
-- (In proofs/, as it rests on definitions that a must-fail edit changes.)
use Rattle.std.specs.Prelude.{◌≡◌, refl, ℕ, ◌+◌, ◌-◌, ◌*◌, ◌/◌, ◌≤◌, ◌<◌, length, drop}
use Rattle.std.proofs.Math.Path.{sym, ap, subst}
use Rattle.std.proofs.Common.{◌∙◌, inl, inr, arith}
use mathlib.Core.List.{List}
use Rattle.std.proofs.Math.ListN.{get_or}
use Rattle.rules.specs.Records.{kind_of, field_b, field_c, field_d, record_count, records_from, units, padding_of, heads}
use Rattle.rules.specs.Grammar.{text_length, element_size, grammar_size, productions, element_heads}
use Rattle.rules.specs.Layout.{layout_fault, grammar_layout}
use Rattle.laws.specs.Faults.{In, here, later, need_alike}
use Rattle.theorems.specs.Streams.{WellSized}
use Rattle.theorems.specs.LaidOut.{InRow, no_thing, one_thing, Numbered, no_more, one_more, Padded, Tail, RangeAt, ClassAt, ElementHead, ElementAt, ProductionAt, GrammarLaid}
use Rattle.theorems.specs.LaidOut.ClassAt.{a_plain, an_escaped}
use Rattle.theorems.specs.LaidOut.ElementAt.{a_keyword, a_name, a_separated}
use Rattle.theorems.specs.LayoutExactly.{grammar_laid_exactly}
use Rattle.theorems.specs.Sizes.{each_in_row, class_size, keyword_text, separator_text, element_size_lem, production_size_lem}
use Rattle.theorems.specs.Heads.{productions_are}
use Rattle.theorems.specs.Unseparated.{ElementOf, Unseparated, same_bytes, three_or_four, DifferInForm, no_text}
use Rattle.theorems.proofs.Unseparated.{the_other_way}
use Rattle.theorems.specs.Unseparated.{same_byte}
use Rattle.theorems.proofs.Unseparated.{same_kind, same_a, same_b, same_c, same_d, same_units}

-- things in a row, each with its place in the list of heads
row_too : {A B : ℕ → ℕ → Type 0} (size : ℕ → ℕ) {n p r : ℕ} → ((p q : ℕ) → A p q → q ≡ p + size p)
    → ((x q : ℕ) → In x (heads size n p) → A x q → B x q) → InRow A n p r → InRow B n p r
unfolding heads
row_too size e h (no_thing p) = no_thing p
row_too size e h (one_thing n p q r a as') =
    one_thing n p q r (h p q (here _) a) (row_too size e (λ x y i. h x y (later p _ (subst (λ (z : ℕ). In x (heads size n z)) (e p q a) i))) as')

numbered_too : {A B : ℕ → ℕ → ℕ → Type 0} (size : ℕ → ℕ) {m n p r : ℕ} → ((k p q : ℕ) → A k p q → q ≡ p + size p)
    → ((k x q : ℕ) → In x (heads size n p) → A k x q → B k x q) → Numbered A m n p r → Numbered B m n p r
unfolding heads
numbered_too size e h (no_more m p) = no_more m p
numbered_too size e h (one_more m n p q r a as') =
    one_more m n p q r (h m p q (here _) a)
    (numbered_too size e (λ k x y i. h k x y (later p _ (subst (λ (z : ℕ). In x (heads size n z)) (e m p q a) i))) as')

-- a repetition without separator has no text and so no padding
no_padding : (s : List ℕ) (e : ℕ) → Padded s 0 e
unfolding padding_of units records_from
no_padding s e i = refl

unseparated_laid : {g : List ℕ} {e : ℕ} → Unseparated g e → field_d g e ≡ 0 → ElementAt g e (e + 1)
unfolding units
unseparated_laid {g} {e} u z =
    let h : ElementHead g e = record { kind = u.kind; unused_d = z } in
    elim u.form [
      | inl a ↦ a_name e h (omega arith) (omega arith) u.no_separator
      | inr a ↦
          let o = u.no_separator in
          subst (ElementAt g e) (let k : e + 1 + (field_c g e + 7) / 8 ≡ e + 1 = omega arith in k)
          (a_separated e h a (subst (λ (n : ℕ). Padded g n e) (sym u.no_separator) (no_padding g e)))
    ]

module _ (g g' : List ℕ) (d : DifferInForm g g') where
  same_unless_4 : (i : ℕ) → (kind_of g i ≡ 4 → ⊥) → records_from g 1 i ≡ records_from g' 1 i
  same_unless_4 i h = elim (d.each_record i) [ same_bytes b ↦ b | three_or_four a u u' b c ↦ absurd (h u.kind) ]

  range_too : (p q : ℕ) → RangeAt g p q → RangeAt g' p q
  range_too p q r = record {
    kind = sym (same_kind g g' d p) ∙ r.kind;
    unused = sym (same_byte g g' p 7 (omega arith) (same_unless_4 p (λ k. let z = r.kind in omega arith))) ∙ r.unused;
    end = r.end;
  }

  class_too : (n p q : ℕ) → ClassAt g n p q → ClassAt g' n p q
  class_too n p q (a_plain k a rs) =
      a_plain (sym (same_kind g g' d p) ∙ k) (sym (same_a g g' d p (same_unless_4 p (λ z. omega arith))) ∙ a)
      (subst (λ (m : ℕ). InRow (RangeAt g') m (p + 1) q) (same_d g g' d p) (each_in_row range_too rs))
  class_too n p q (an_escaped k a b c e) =
      an_escaped (sym (same_kind g g' d p) ∙ k) (sym (same_a g g' d p (same_unless_4 p (λ z. omega arith))) ∙ a)
      (sym (same_c g g' d p) ∙ b) (sym (same_d g g' d p) ∙ c) e

  head_too : {e : ℕ} → ElementHead g e → ElementHead g' e
  head_too {e} h = record { kind = sym (same_kind g g' d e) ∙ h.kind; unused_d = sym (same_d g g' d e) ∙ h.unused_d }

  padded_too : {e : ℕ} (n : ℕ) → ElementOf g e → text_length g e ≡ n → Padded g n e → Padded g' n e
  unfolding padding_of
  padded_too {e} n h k z i =
      let o = subst (λ (m : ℕ). records_from g (units m) (e + 1) ≡ records_from g' (units m) (e + 1)) k (same_units g g' d h) in
      ap (λ (x : List ℕ). get_or (drop n x) i 0) (sym o) ∙ z i

  -- an element that is the same in both, or a repetition of form 3 or 4
  laid_too : {e q : ℕ} → ElementAt g e q → ElementOf g e → records_from g 1 e ≡ records_from g' 1 e → ElementAt g' e q
  laid_too (a_keyword e h a c z) o b =
      subst (λ (n : ℕ). ElementAt g' e (e + 1 + units n)) (sym (same_b g g' d e))
      (a_keyword e (head_too h) (sym (same_a g g' d e b) ∙ a) (sym (same_c g g' d e) ∙ c)
      (subst (λ (n : ℕ). Padded g' n e) (same_b g g' d e) (padded_too (field_b g e) o (keyword_text g e a) z)))
  laid_too (a_name e h l m c) o b =
      let a = same_a g g' d e b in
      a_name e (head_too h) (omega arith) (omega arith) (sym (same_c g g' d e) ∙ c)
  laid_too (a_separated e h a z) o b =
      subst (λ (n : ℕ). ElementAt g' e (e + 1 + units n)) (sym (same_c g g' d e))
      (a_separated e (head_too h) (sym (same_a g g' d e b) ∙ a)
      (subst (λ (n : ℕ). Padded g' n e) (same_c g g' d e) (padded_too (field_c g e) o (separator_text g e a) z)))

  head_of : {e q : ℕ} → ElementAt g e q → ElementHead g e
  head_of (a_keyword e h a c z) = h
  head_of (a_name e h l m c) = h
  head_of (a_separated e h a z) = h

  element_laid : {e q : ℕ} → ElementAt g e q → ElementOf g e → ElementAt g' e q
  unfolding element_size units
  element_laid {e} {q} a o = elim (d.each_record e) [
    | same_bytes b ↦ laid_too a o b
    | three_or_four i u u' b c ↦
        let z = no_text u in
        let k : e + 1 ≡ q = rw (element_size_lem a, z) (omega arith) in
        subst (ElementAt g' e) k (unseparated_laid u' (head_too (head_of a)).unused_d)
  ]

  production_too : (n p q : ℕ) → In p (productions g) → ProductionAt g n p q → ProductionAt g' n p q
  unfolding element_heads
  production_too n p q i h = record {
    kind = sym (same_kind g g' d p) ∙ h.kind;
    number =
        let a = same_a g g' d p (same_unless_4 p (λ k. let z = h.kind in omega arith)) in
        let c = same_c g g' d p in
        let n = h.number in
        omega arith;
    elements = subst (λ (m : ℕ). InRow (ElementAt g') m (p + 1) q) (same_d g g' d p)
        (row_too (element_size g) (λ p q. element_size_lem) (λ e r j a. element_laid a (record { head = p; a_production = i; its_element = j })) h.elements);
  }

  tail_too : {e : ℕ} → Tail g e → Tail g' e
  unfolding record_count kind_of
  tail_too {e} h =
      let c : record_count g ≡ record_count g' = ap (λ (n : ℕ). n / 512 * 63) d.same_length in
      record {
        a_thing = h.a_thing;
        inside = subst (λ (n : ℕ). e ≤ n) c h.inside;
        few = subst (λ (n : ℕ). n - e < 63) c h.few;
        zero_records = λ i j a b l.
            let b' : i < record_count g = subst (λ (n : ℕ). i < n) (sym c) b in
            sym (same_byte g g' i j l (same_unless_4 i (λ k. let z = h.zero_records i 0 a b' (omega arith) in omega arith))) ∙ h.zero_records i j a b' l;
      }

  pub grammar_laid_too : WellSized g → GrammarLaid g → GrammarLaid g'
  grammar_laid_too w h = record {
    class_count = h.class_count;
    production_count = h.production_count;
    middle = h.middle;
    end = h.end;
    classes = numbered_too (grammar_size g) (λ k p q. class_size) (λ k p q i. class_too k p q) h.classes;
    productions = numbered_too (grammar_size g) (λ k p q. production_size_lem)
        (λ k p q i. production_too k p q (subst (In p) (sym (productions_are g w h)) i)) h.productions;
    tail = tail_too h.tail;
  }

well_sized_too : {s s' : List ℕ} → length s ≡ length s' → WellSized s → WellSized s'
well_sized_too e w = let a = w.some_bytes in let b = w.at_most in let c = w.whole_blocks in record { some_bytes = rw e at a; at_most = rw e at b; whole_blocks = rw e at c }

-- 3
pub layout_alike : (g g' : List ℕ) → DifferInForm g g' → WellSized g → grammar_layout g ≡ grammar_layout g'
unfolding grammar_layout layout_fault
layout_alike g g' d w =
    let w' : WellSized g' = well_sized_too d.same_length w in
    need_alike 0 _ _ (λ e. (grammar_laid_exactly g' w').1 (grammar_laid_too g g' d w ((grammar_laid_exactly g w).0 e)))
    (λ e. (grammar_laid_exactly g w).1 (grammar_laid_too g' g (the_other_way g g' d) w' ((grammar_laid_exactly g' w').0 e)))
