-- Steps of the check of a grammar's layout, in the shape of the code.
use Prim.Native.Nat.{ℕ, zero, suc, ◌+◌, ◌-◌, ◌/◌, ◌<◌, ◌≤◌}
use mathlib.Core.Path.{◌≡◌, refl, sym, ◌∙◌, ap}
use mathlib.Core.Bool.{Bool, true, false, cond, ◌&&◌, ◌||◌, false≢true}
use mathlib.Core.Logic.{◌⊎◌, inl, inr, ⊎_elim}
use mathlib.Core.List.{List}
use mathlib.Core.Option.{Option, none, some}
use Rattle.std.specs.Prelude.{None, Some, MatchOption}
use Rattle.std.specs.Prelude as code
use native.Mathlib.Omega.{arith}
use native.Mathlib.Numerals.{add-one}
use native.Mathlib.Nat.{sub-zero}
use borrow.Author.Tests.{eq-eqb, ne_eqb, eqb-true, eqb-false}
use lib.Dec.{eqb, leb}
use Rattle.rules.specs.Faults.{need, on_found, only_if}
use Rattle.rules.specs.Blocks.{stream_length}
use Rattle.rules.specs.Records.{record_count, byte_of, kind_of, field_a, field_c, field_d, padding_of, zeros, units, of_kind}
use Rattle.rules.specs.Grammar.{is_class, text_length}
use Rattle.rules.specs.Layout.{then_read, in_row, while_is, text_end, range_end, plain_end, escaped_end, class_end, element_end, production_end, grammar_end, tail_right, layout_fault, grammar_layout}
use Rattle.stream.specs.Record.{Fetched}
use Rattle.stream.specs.declared.record.Record.{Record}
use Rattle.records.specs.Productions.{ProductionNumber}
use Rattle.layout.specs.Common.{most_records}
use Rattle.layout.specs.Grammar.{end_of, class_head, element_head}
use Rattle.layout.specs.Sorts.{Tells}
use Rattle.laws.specs.Faults.{and_iff}
use Rattle.laws.specs.Rows.{one_less}
use Rattle.laws.specs.Sorts.{class_kinds}
use Rattle.stream.proofs.RecordLaws.{eight_bytes}
use Rattle.records.proofs.ClassLaws.{class_is}
use Rattle.laws.specs.Reads.{in_row_done, few_records}
use Rattle.theorems.specs.Streams.{length_exactly}
use Rattle.theorems.specs.Sizes.{by_less}
use Rattle.theorems.specs.Heads.{byte_past}

-- a record with a kind stands in the stream
pub inside : (s : List ℕ) → stream_length s ≡ none → (p kind : ℕ) → kind_of s p ≡ suc kind → p < record_count s
unfolding kind_of
inside s w p kind e = by_less p (record_count s) (λ l. l) (λ l. absurd (let z = byte_past ((length_exactly s).0 w) p 0 l in omega arith))

-- n things of one record each, of which k are read
pub row_end : (one : ℕ → Option ℕ) (n k p : ℕ) → k ≤ n → n ≤ k → in_row one (n - k) (p + k) ≡ some (p + n)
row_end one n k p a b = in_row_done one n k (p + k) b ∙ ap (λ x. some (p + x)) (let z : k ≡ n = omega arith in z)

-- the things of a sort, of which n of at most m are read and the next begins at p
module _ (is : ℕ → Bool) (one : ℕ → ℕ → Option ℕ) (m n p : ℕ) where
  pub turns_stop : is p ≡ false → while_is is one (m - n) n p ≡ some p
  turns_stop l = go (m - n)
    where
      go : (k : ℕ) → while_is is one k n p ≡ some p
      go zero = unfold while_is in refl
      go (suc k) = unfold while_is in rw (l, while_is)

  pub turns_done : m ≤ n → while_is is one (m - n) n p ≡ some p
  unfolding while_is
  turns_done l = let z : m - n ≡ 0 = omega arith in rw z

  module _ (l : n < m) (e : is p ≡ true) where
    pub turns_go : (q : ℕ) → one n p ≡ some q → while_is is one (m - n) n p ≡ while_is is one (m - (n + 1)) (n + 1) q
    unfolding while_is then_read on_found
    turns_go q o = rw (one_less m n l, while_is, e, o, add-one n)

    pub turns_broken : one n p ≡ none → while_is is one (m - n) n p ≡ none
    unfolding while_is then_read on_found
    turns_broken o = rw (one_less m n l, while_is, e, o)

-- what is left to read is the whole
pub record ThingsLeft (s : List ℕ) (is : ℕ → Bool) (one : ℕ → ℕ → Option ℕ) (whole : Option ℕ) (n p : ℕ) : Type 0 where
  pub fewer : n ≤ p
  pub same : while_is is one (record_count s - n) n p ≡ whole

-- one of the sort stands at p, in the stream
pub record Stands (s : List ℕ) (is : ℕ → Bool) (p : ℕ) : Type 0 where
  pub is_one : is p ≡ true
  pub inside : p < record_count s

module _ {s : List ℕ} {is : ℕ → Bool} {one : ℕ → ℕ → Option ℕ} where
  pub left_start : (p : ℕ) → ThingsLeft s is one (while_is is one (record_count s) 0 p) 0 p
  left_start p = record { fewer = omega arith; same = rw sub-zero }

  pub left_stop : {whole : Option ℕ} {n p : ℕ} → is p ≡ false → ThingsLeft s is one whole n p → some p ≡ whole
  left_stop l h = sym (turns_stop is one _ _ _ l) ∙ h.same

-- a turn
module _ {s : List ℕ} {is : ℕ → Bool} {one : ℕ → ℕ → Option ℕ} {whole : Option ℕ} {n p : ℕ} (e : Stands s is p) (h : ThingsLeft s is one whole n p) where
  more : n < record_count s
  more = let a = e.inside in let b = h.fewer in omega arith

  pub left_go : (q : ℕ) → one n p ≡ some q → p < q → ThingsLeft s is one whole (n + 1) q
  left_go q o l = record { fewer = let b = h.fewer in omega arith; same = sym (turns_go is one _ n p more e.is_one q o) ∙ h.same }

  pub left_broken : one n p ≡ none → none ≡ whole
  left_broken o = sym (turns_broken is one _ n p more e.is_one o) ∙ h.same

pub stands_near : {s : List ℕ} {is : ℕ → Bool} {p : ℕ} → stream_length s ≡ none → Stands s is p → p < most_records
stands_near {s} w e = let a = e.inside in let b = few_records s w in omega arith

-- What the records say, as they were fetched

module _ {g : List ℕ} {p : ℕ} {r : Record} (f : Fetched g p r) where
  pub kind_here : (kind : ℕ) → r.kind ≡ kind → kind_of g p ≡ kind
  kind_here kind e = sym f.kind ∙ e

  pub kind_other : (kind : ℕ) → (r.kind ≡ kind → ⊥) → kind_of g p ≡ kind → ⊥
  kind_other kind l e = l (f.kind ∙ e)

  pub of_kind_lem : (kind : ℕ) → r.kind ≡ kind → of_kind g kind p ≡ true
  of_kind_lem kind e = eq-eqb _ _ (kind_here kind e)

  pub of_another : (kind : ℕ) → (r.kind ≡ kind → ⊥) → of_kind g kind p ≡ false
  of_another kind l = ne_eqb _ _ (kind_other kind l)

  pub kind_stands : stream_length g ≡ none → (kind : ℕ) → r.kind ≡ suc kind → Stands g (of_kind g (suc kind)) p
  kind_stands w kind e = record { is_one = of_kind_lem (suc kind) e; inside = inside g w p kind (kind_here (suc kind) e) }

  pub near : stream_length g ≡ none → (kind : ℕ) → r.kind ≡ suc kind → p < most_records
  near w kind e = stands_near w (kind_stands w kind e)

  -- what is_class answers
  module _ (b : Bool) (e : b ≡ (eqb r.kind 1 || eqb r.kind 5)) where
    pub a_class : b ≡ true → is_class g p ≡ true
    a_class i = sym (class_is g p r f b e) ∙ i

    pub class_stands : stream_length g ≡ none → b ≡ true → Stands g (is_class g) p
    class_stands w i = record {
      is_one = a_class i;
      inside = ⊎_elim (λ k. inside g w p 0 k) (λ k. inside g w p 4 k) (class_kinds g p (a_class i));
    }

  -- byte 7 is the high byte of d
  high_d : byte_of g p 7 ≡ r.d / 256
  high_d = (eight_bytes g p r f).byte7

  pub range_right_lem : (q : ℕ) → q ≡ p + 1 → r.kind ≡ 2 → r.d ≤ 255 → range_end g p ≡ some q
  unfolding range_end only_if
  range_right_lem q z k l = let e : byte_of g p 7 ≡ 0 = omega (arith, high_d) in rw (eq-eqb _ _ (kind_here 2 k), eq-eqb _ _ e, z)

  pub range_wrong : (r.kind ≡ 2 → ⊥) ⊎ ((r.kind ≡ 2) × (255 < r.d)) → range_end g p ≡ none
  unfolding range_end only_if
  range_wrong (inl k) = rw (ne_eqb _ _ (kind_other 2 k))
  range_wrong (inr w) = rw (eq-eqb _ _ (kind_here 2 w.0), ne_eqb (byte_of g p 7) 0 (λ e. let l = w.1 in omega (arith, high_d)))

  -- a class's number, the unused c and d of an escaped one, and then the ranges: an escaped one has none
  pub class_number : (n : ℕ) → (r.a ≡ n → ⊥) → class_end g n p ≡ none
  unfolding class_end escaped_end plain_end then_read on_found only_if
  class_number n l = rw (ne_eqb (field_a g p) n (λ e. l (f.a ∙ e))) (either_way (of_kind g 5 p) none)
    where
      either_way : (b : Bool) (o : Option ℕ) → cond b o o ≡ o
      either_way true o = refl
      either_way false o = refl

  class_head_is : class_head r ≡ cond (of_kind g 5 p) (eqb (field_c g p) 0 && eqb (field_d g p) 0) true
  unfolding class_head
  class_head_is = rw (f.kind, f.c, f.d)

  module _ (n : ℕ) (a : r.a ≡ n) where
    pub class_over : class_head r ≡ false → class_end g n p ≡ none
    unfolding class_end escaped_end only_if
    class_over h = go (of_kind g 5 p) refl (sym class_head_is ∙ h)
      where
        go : (b : Bool) → of_kind g 5 p ≡ b → cond b (eqb (field_c g p) 0 && eqb (field_d g p) 0) true ≡ false → class_end g n p ≡ none
        go true e i = rw (e, eq-eqb _ _ (sym f.a ∙ a), i)
        go false e i = absurd (false≢true (sym i))

    pub class_ranges : class_head r ≡ true → class_end g n p ≡ in_row (range_end g) r.d (p + 1)
    unfolding class_end escaped_end plain_end in_row then_read on_found only_if
    class_ranges h = go (of_kind g 5 p) refl (sym class_head_is ∙ h)
      where
        go : (b : Bool) → of_kind g 5 p ≡ b → cond b (eqb (field_c g p) 0 && eqb (field_d g p) 0) true ≡ true
            → class_end g n p ≡ in_row (range_end g) r.d (p + 1)
        go true e i = let d : r.d ≡ 0 = f.d ∙ eqb-true (field_d g p) 0 ((and_iff (eqb (field_c g p) 0) (eqb (field_d g p) 0)).0 i).1 in rw (e, eq-eqb _ _ (sym f.a ∙ a), i, d)
        go false e i = rw (e, eq-eqb _ _ (sym f.a ∙ a), ← f.d)

  -- a production's number, and then its elements
  module _ {m : ℕ} (e : ProductionNumber r m) where
    pub production_out : (n : ℕ) → (m ≡ n → ⊥) → production_end g n p ≡ none
    unfolding production_end then_read on_found only_if
    production_out n l = rw (ne_eqb _ _ (λ z. l (e.is g p f ∙ z)))

    pub production_elements : (n : ℕ) (o : Option ℕ) → m ≡ n → in_row (element_end g) r.d (p + 1) ≡ o → production_end g n p ≡ o
    unfolding production_end then_read on_found only_if
    production_elements n o l h = rw (eq-eqb _ _ (sym (e.is g p f) ∙ l), ← f.d) h

  -- an element: its head, and then its text
  head_is : element_head r ≡ (eqb (kind_of g p) 4 && (leb (field_a g p) 4 && ((eqb (field_a g p) 4 || eqb (field_c g p) 0) && eqb (field_d g p) 0)))
  unfolding element_head
  head_is = rw (f.kind, f.a, f.c, f.d)

  pub element_broken : element_head r ≡ false → element_end g p ≡ none
  unfolding element_end then_read on_found only_if
  element_broken h = rw (sym head_is ∙ h)

  -- where it ends, by the n bytes of its text
  module _ {n : ℕ} {b : Bool} (t : n ≡ text_length g p) (h : element_head r ≡ true) (z : b ≡ zeros (padding_of g n p)) where
    pub element_unpadded : b ≡ false → element_end g p ≡ none
    unfolding element_end text_end then_read on_found only_if
    element_unpadded e = rw (sym head_is ∙ h, ← t, ← z, e)

    pub element_padded : b ≡ true → (m : ℕ) → m ≡ units n → element_end g p ≡ some (p + 1 + m)
    unfolding element_end text_end then_read on_found only_if
    element_padded e m u = rw (sym head_is ∙ h, ← t, ← z, e, u)

  pub element_near : stream_length g ≡ none → element_head r ≡ true → p < most_records
  unfolding element_head
  element_near w h = near w 3 (eqb-true _ _ ((and_iff _ _).0 h).0)

-- what a test of heads tells
pub tells_kind : (r : Record) (kind : ℕ) → Tells (λ s. of_kind s (suc kind)) r (eqb r.kind (suc kind))
tells_kind r kind = record {
  told = λ s p f. ap (λ k. eqb k (suc kind)) f.kind;
  inside = λ s p w f e. inside s w p kind (kind_here f (suc kind) (eqb-true r.kind (suc kind) e));
}

-- and so of a kind that was tested
module _ {kind : ℕ} {s : List ℕ} {p : ℕ} {r : Record} {b : Bool} (t : Tells (λ s. of_kind s kind) r b) (f : Fetched s p r) where
  pub kind_is : b ≡ true → r.kind ≡ kind
  kind_is e = f.kind ∙ eqb-true (kind_of s p) kind (sym (t.told s p f) ∙ e)

  pub kind_not : b ≡ false → r.kind ≡ kind → ⊥
  kind_not e z = eqb-false (kind_of s p) kind (sym (t.told s p f) ∙ e) (sym f.kind ∙ z)

pub tells_class : (r : Record) (b : Bool) → b ≡ (eqb r.kind 1 || eqb r.kind 5) → Tells is_class r b
tells_class r b e = record { told = λ s p f. class_is s p r f b e; inside = λ s p w f i. (class_stands f b e w i).inside }

-- The whole: classes, productions and the tail
module _ (g : List ℕ) where
  pub no_middle : while_is (is_class g) (class_end g) (record_count g) 0 0 ≡ none → none ≡ grammar_end g
  unfolding grammar_end then_read on_found
  no_middle a = rw a

  pub middle_then : {m : ℕ} {o : Option ℕ} → while_is (is_class g) (class_end g) (record_count g) 0 0 ≡ some m
      → o ≡ while_is (of_kind g 3) (production_end g) (record_count g) 0 m → o ≡ grammar_end g
  unfolding grammar_end then_read on_found
  middle_then a e = rw a e

  pub grammar_right : (o : code.Option ℕ) (r : Bool) → end_of o ≡ grammar_end g → MatchOption o (r ≡ false) (λ e. r ≡ tail_right g e) → need r 0 ≡ grammar_layout g
  unfolding grammar_layout layout_fault on_found
  grammar_right (Some e) r i h = rw (← i, h)
  grammar_right None r i h = rw (← i, h)
