-- The sizes of values and elements, the numbers of productions, and the ends of ranges, from their records.
use Prim.Native.Nat.{ℕ, ◌+◌, ◌*◌, ◌%◌, ◌≤◌, ◌<◌}
use mathlib.Core.Path.{◌≡◌, sym, ap, ◌∙◌}
use mathlib.Core.List.{List}
use native.Mathlib.Omega.{arith}
use borrow.Author.Tests.{eq-eqb, ne_eqb, le-leb, lt-leb}
use Rattle.rules.specs.Records.{kind_of, field_a, units, heads}
use Rattle.rules.specs.Grammar.{text_length, element_size, production_number}
use Rattle.rules.specs.Value.{value_size, children, content, values_below}
use Rattle.rules.specs.Lexeme.{lowest, highest}
use Rattle.stream.specs.Record.{Fetched}
use Rattle.stream.specs.declared.record.Record.{Record}
use Rattle.stream.proofs.RecordLaws.{eight_bytes}
use Rattle.records.specs.Sizes.{ValueSize, CountBelow, TextLength, ElementSize}
use Rattle.records.specs.Productions.{ProductionNumber}

pub size_yes_no : (r : Record) → r.kind ≡ 2 → ValueSize r 1
unfolding value_size
size_yes_no r e = record { is = λ v w f. sym (rw (eq-eqb (kind_of v w) 2 (sym f.kind ∙ e))); small = omega arith }

pub size_field : (r : Record) → (r.kind ≡ 2 → ⊥) → r.c < 65536 → ValueSize r r.c
unfolding value_size
size_field r e l = record { is = λ v w f. f.c ∙ sym (rw (ne_eqb (kind_of v w) 2 (λ h. e (f.kind ∙ h)))); small = l }

-- the values directly below a value, by its kind
pub below_case : (r : Record) → r.kind ≡ 5 → CountBelow r 1
unfolding values_below content heads
below_case r e = record { is = λ v w f. rw (eq-eqb (kind_of v w) 5 (sym f.kind ∙ e)); few = omega arith }

pub below_none : (r : Record) → r.kind < 3 → CountBelow r 0
unfolding values_below heads
below_none r l = record {
  is = λ v w f. let k = f.kind in rw (ne_eqb (kind_of v w) 5 (λ e. omega arith), lt-leb 3 (kind_of v w) (omega arith));
  few = omega arith;
}

pub below_children : (r : Record) → (r.kind ≡ 5 → ⊥) → 3 ≤ r.kind → r.d < 65536 → CountBelow r r.d
unfolding values_below children
below_children r n l m = record {
  is = λ v w f. let k = f.kind in
      rw (ne_eqb (kind_of v w) 5 (λ e. n (f.kind ∙ e)), le-leb 3 (kind_of v w) (omega arith)) (ap (λ (d : ℕ). heads (value_size v) d (w + 1)) f.d);
  few = m;
}

-- the text of an element, by its form, and so its size
pub keyword_text : (r : Record) → r.a ≡ 0 → TextLength r r.b
unfolding text_length
keyword_text r e = record { is = λ g p f. rw (eq-eqb (field_a g p) 0 (sym f.a ∙ e)) f.b }

pub separator_text : (r : Record) → r.a ≡ 4 → TextLength r r.c
unfolding text_length
separator_text r e = record { is = λ g p f. let h : field_a g p ≡ 4 = sym f.a ∙ e in rw h f.c }

pub no_text : (r : Record) → (r.a ≡ 0 → ⊥) → (r.a ≡ 4 → ⊥) → TextLength r 0
unfolding text_length
no_text r e h = record { is = λ g p f. rw (ne_eqb (field_a g p) 0 (λ k. e (f.a ∙ k)), ne_eqb (field_a g p) 4 (λ k. h (f.a ∙ k))) }

pub element_size_lem : (r : Record) (m n : ℕ) → TextLength r m → m < 65536 → n ≡ units m → ElementSize r (1 + n)
unfolding element_size units
element_size_lem r m n t l h = record { is = λ g p f. rw (← t.is g p f, h); small = omega arith }

-- a low byte and a high one
pub two_bytes : (r : Record) → r.a < 256 → r.c < 65536 → ProductionNumber r (r.a + 256 * r.c)
unfolding production_number
two_bytes r l m = record { is = λ g p f. let a = f.a in let c = f.c in omega arith; small = omega arith }

-- both ends of a range
pub range_low : (g : List ℕ) (i : ℕ) (r : Record) → Fetched g i r → r.a + 256 * r.b ≡ lowest g i
unfolding lowest
range_low g i r f = let e = eight_bytes g i r f in omega (arith, e.byte1, e.byte2, e.byte3)

pub range_high : (g : List ℕ) (i : ℕ) (r : Record) → Fetched g i r → r.c + 65536 * (r.d % 256) ≡ highest g i
unfolding highest
range_high g i r f = let e = eight_bytes g i r f in omega (arith, e.byte4, e.byte5, e.byte6)
