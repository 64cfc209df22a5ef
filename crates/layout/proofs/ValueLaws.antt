-- A value's head, by the tests of the code; and the layout of a whole value.
use Prim.Native.Nat.{ℕ, zero, suc, ◌+◌, ◌≤◌, ◌<◌}
use mathlib.Core.Path.{◌≡◌, refl, ap, sym, ◌∙◌}
use mathlib.Core.List.{List}
use mathlib.Core.Bool.{Bool, true, false, ◌&&◌}
use mathlib.Core.Option.{Option, none, some}
use mathlib.Core.Logic.{◌⊎◌, inl, inr}
use native.Mathlib.Omega.{arith}
use borrow.Author.Tests.{eq-eqb, ne_eqb}
use lib.Dec.{eqb, leb}
use Rattle.rules.specs.Faults.{need, on_found, only_if}
use Rattle.rules.specs.Records.{record_count, kind_of, field_a, field_b, field_c, field_d}
use Rattle.rules.specs.Value.{value_size}
use Rattle.rules.specs.Layout.{then_read, value_end, tail_right, layout_fault, value_layout}
use Rattle.stream.specs.declared.record.Record.{Record}
use Rattle.stream.specs.Record.{Fetched}
use Rattle.layout.specs.declared.tree.Head.{Head}
use Rattle.std.specs.Prelude.{Some, None}
use Rattle.std.specs.Prelude as code
use Rattle.layout.specs.Tree.{Value, text_head, kind_head, kind_below, head_end, below, thing_end, fills, Headed, yes_no, case_head}
use Rattle.laws.specs.Faults.{only_no}
use Rattle.layout.proofs.CommonLaws.{tail_past}
use Rattle.layout.proofs.TreeThings.{thing_sized}
use Rattle.layout.proofs.TreeTurns.{wrong, right, as_head, found_true, found_false}

-- a test that fails before what follows it
no_head : (b : Bool) (p : ℕ) (next : ℕ → Option ℕ) → b ≡ false → then_read (only_if b p) next ≡ none
unfolding then_read on_found only_if
no_head b p next e = rw e

-- one of two fields is used, the second looked at where the first is not
abbrev pub used : ℕ → ℕ → Type 0
used a b = (a ≡ 0 → ⊥) ⊎ ((a ≡ 0) × (b ≡ 0 → ⊥))

not_both : (a b : ℕ) → used a b → eqb a 0 && eqb b 0 ≡ false
not_both a b (inl l) = rw (ne_eqb a 0 l)
not_both a b (inr w) = rw (eq-eqb a 0 w.0, ne_eqb b 0 w.1)

-- a list and a record share their head; no other kind is a value
with_children : (v : List ℕ) (p kind : ℕ) → 3 ≤ kind → kind < 5
    → (kind_head v kind p ≡ only_if (eqb (field_a v p) 0 && eqb (field_b v p) 0) (p + 1)) × (kind_below v kind p ≡ field_d v p)
unfolding kind_head kind_below
with_children v p zero l m = absurd (omega arith)
with_children v p (suc zero) l m = absurd (omega arith)
with_children v p (suc (suc zero)) l m = absurd (omega arith)
with_children v p (suc (suc (suc zero))) l m = (refl, refl)
with_children v p (suc (suc (suc (suc zero)))) l m = (refl, refl)
with_children v p (suc (suc (suc (suc (suc kind))))) l m = absurd (omega arith)

other_high : (v : List ℕ) (p kind : ℕ) → (kind ≡ 5 → ⊥) → 5 ≤ kind → kind_head v kind p ≡ none
unfolding kind_head
other_high v p zero n l = absurd (omega arith)
other_high v p (suc zero) n l = absurd (omega arith)
other_high v p (suc (suc zero)) n l = absurd (omega arith)
other_high v p (suc (suc (suc zero))) n l = absurd (omega arith)
other_high v p (suc (suc (suc (suc zero)))) n l = absurd (omega arith)
other_high v p (suc (suc (suc (suc (suc zero))))) n l = absurd (n refl)
other_high v p (suc (suc (suc (suc (suc (suc kind)))))) n l = refl

module _ (v : List ℕ) (p : ℕ) (r : Record) (f : Fetched v p r) where
  -- the value's kind, by its number
  at_kind : (kind : ℕ) → r.kind ≡ kind → (head_end Value v p ≡ kind_head v kind p) × (below Value v p ≡ kind_below v kind p)
  unfolding head_end below
  at_kind kind e = let z : kind_of v p ≡ kind = sym f.kind ∙ e in (rw z, rw z)

  not_head : (kind : ℕ) → r.kind ≡ kind → kind_head v kind p ≡ none → Headed p None (head_end Value v p) (below Value v p)
  not_head kind e z = wrong p _ _ ((at_kind kind e).0 ∙ z)

  yes_is : yes_no r ≡ leb (field_a v p) 1 && (eqb (field_b v p) 0 && (eqb (field_c v p) 0 && eqb (field_d v p) 0))
  unfolding yes_no
  yes_is = rw (f.a, f.b, f.c, f.d)

  pub yes_right : r.kind ≡ 2 → true ≡ yes_no r → Headed p (Some (record { own = 1; below = 0 })) (head_end Value v p) (below Value v p)
  unfolding kind_head kind_below only_if
  yes_right e z = right p _ 1 0 _ ((at_kind 2 e).0 ∙ ap (λ (b : Bool). only_if b (p + 1)) (sym (z ∙ yes_is))) (sym (at_kind 2 e).1)

  pub yes_wrong : r.kind ≡ 2 → false ≡ yes_no r → Headed p None (head_end Value v p) (below Value v p)
  unfolding kind_head
  yes_wrong e z = not_head 2 e (only_no _ (p + 1) (sym (z ∙ yes_is)))

  case_is : case_head r ≡ eqb (field_b v p) 0 && eqb (field_d v p) 0
  unfolding case_head
  case_is = rw (f.b, f.d)

  pub case_right : r.kind ≡ 5 → true ≡ case_head r → Headed p (Some (record { own = 1; below = 1 })) (head_end Value v p) (below Value v p)
  unfolding kind_head kind_below only_if
  case_right e z = right p _ 1 1 _ ((at_kind 5 e).0 ∙ ap (λ (b : Bool). only_if b (p + 1)) (sym (z ∙ case_is))) (sym (at_kind 5 e).1)

  pub case_wrong : r.kind ≡ 5 → false ≡ case_head r → Headed p None (head_end Value v p) (below Value v p)
  unfolding kind_head
  case_wrong e z = not_head 5 e (only_no _ (p + 1) (sym (z ∙ case_is)))

  text_is : kind_head v 1 p ≡ then_read (only_if (eqb r.a 0 && eqb r.d 0) p) (text_head v)
  unfolding kind_head
  text_is = rw (f.a, f.d)

  pub a_text : r.kind ≡ 1 → r.a ≡ 0 → r.d ≡ 0 → (h : code.Option Head) → Headed p h (text_head v p) 0 → Headed p h (head_end Value v p) (below Value v p)
  unfolding kind_below then_read on_found only_if
  a_text k a d h is = as_head ((at_kind 1 k).0 ∙ text_is ∙ rw (a, d)) (at_kind 1 k).1 is

  pub not_text : r.kind ≡ 1 → used r.a r.d → Headed p None (head_end Value v p) (below Value v p)
  not_text k z = not_head 1 k (text_is ∙ no_head _ p (text_head v) (not_both r.a r.d z))

  list_is : 3 ≤ r.kind → r.kind < 5 → head_end Value v p ≡ only_if (eqb r.a 0 && eqb r.b 0) (p + 1)
  list_is l m = (at_kind r.kind refl).0 ∙ (with_children v p r.kind l m).0 ∙ rw (f.a, f.b)

  pub a_list : 3 ≤ r.kind → r.kind < 5 → r.a ≡ 0 → r.b ≡ 0 → Headed p (Some (record { own = 1; below = r.d })) (head_end Value v p) (below Value v p)
  unfolding only_if
  a_list l m a b = right p _ 1 r.d _ (list_is l m ∙ rw (a, b)) (f.d ∙ sym ((at_kind r.kind refl).1 ∙ (with_children v p r.kind l m).1))

  pub not_list : 3 ≤ r.kind → r.kind < 5 → used r.a r.b → Headed p None (head_end Value v p) (below Value v p)
  not_list l m z = wrong p _ _ (list_is l m ∙ only_no _ (p + 1) (not_both r.a r.b z))

  pub low_kind : r.kind < 1 → Headed p None (head_end Value v p) (below Value v p)
  unfolding kind_head
  low_kind l = let z : r.kind ≡ 0 = omega arith in not_head 0 z refl

  pub high_kind : (r.kind ≡ 5 → ⊥) → 5 ≤ r.kind → Headed p None (head_end Value v p) (below Value v p)
  high_kind n l = not_head r.kind refl (other_high v p r.kind n l)

-- The whole value: it ends where its size says

none_right : (o : Option ℕ) {f : ℕ → Bool} → ((q : ℕ) → o ≡ some q → f q ≡ false) → on_found o false f ≡ false
unfolding on_found
none_right none l = refl
none_right (some q) l = l q refl

module _ (v : List ℕ) (e : ℕ) (z : e ≡ value_size v 0) where
  ends_there : (q : ℕ) → value_end v (record_count v) 0 ≡ some q → q ≡ e
  unfolding thing_end
  ends_there q h = omega (arith, (thing_sized Value v (record_count v) 0 q h).1)

  -- the layout is broken where the place after the value, if there is one, has no right tail
  broken : ((q : ℕ) → value_end v (record_count v) 0 ≡ some q → tail_right v q ≡ false) → need false 0 ≡ value_layout v
  unfolding value_layout layout_fault
  broken l = ap (λ (b : Bool). need b 0) (sym (none_right (value_end v (record_count v) 0) l))

  pub value_past : record_count v < e → need false 0 ≡ value_layout v
  value_past l = broken (λ q h. let i = ends_there q h in sym (tail_past v q (omega arith) (record_count v) refl (omega arith)))

  pub value_wrong : false ≡ fills Value v 0 e → need false 0 ≡ value_layout v
  unfolding fills thing_end
  value_wrong b = broken (λ q h. absurd (found_false (value_end v (record_count v) 0) e q (sym b) h (ends_there q h)))

  pub value_right : true ≡ fills Value v 0 e → (t : Bool) → t ≡ tail_right v e → need t 0 ≡ value_layout v
  unfolding fills thing_end value_layout layout_fault on_found
  value_right b t is = rw (found_true (value_end v (record_count v) 0) e (sym b)) (ap (λ (b : Bool). need b 0) is)
