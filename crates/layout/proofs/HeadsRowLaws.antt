-- The rows of a stream that is laid out are its lists of heads, and what a table of them says of a number.
use Prim.Native.Nat.{ℕ, suc, ◌+◌, ◌-◌, ◌<◌, ◌≤◌}
use mathlib.Core.Path.{◌≡◌, refl, sym, ◌∙◌, ap, subst}
use mathlib.Core.List.{List, ◌∷◌, append-nil}
use mathlib.Core.Bool.{Bool, true, false, false≢true}
use mathlib.Core.Option.{none}
use native.Mathlib.Omega.{arith}
use lib.ListN.{length, get_or, take, drop, length-drop, drop_of_length-le}
use lib.Seq.{take_all, drop_at, drop-drop, length-take-le}
use borrow.Rule.Slice.PartMut.{put_mid, take_put}
use Rattle.rules.specs.Blocks.{stream_length}
use Rattle.rules.specs.Records.{base, byte_of, field_a, record_count, field_c, heads, of_kind}
use Rattle.rules.specs.Grammar.{is_class, production_size, grammar_size, classes, productions}
use Rattle.rules.specs.Templates.{templates_size, types, templates}
use Rattle.theorems.specs.Streams.{length_exactly}
use Rattle.theorems.specs.LaidOut.{InRow, no_thing, one_thing, Numbered, no_more, one_more, Tail}
use Rattle.theorems.specs.Heads.{Spans, Sorts, kind_after, not_first, grammar_sorts, templates_sorts, class_spans, production_spans, type_spans, template_spans, classes_are, productions_are, types_are, templates_are}
use Rattle.theorems.specs.Sizes.{each_in_row, each_numbered, row_grows, class_number}
use Rattle.theorems.specs.LayoutExactly.{grammar_laid_exactly, templates_laid_exactly}
use Rattle.layout.specs.Heads.{LaidGrammar, LaidTemplates, most_classes, part, Tables, with_records, SortRow, RowAhead, RowFilled, TwoRows}
use Rattle.layout.specs.declared.heads.RowEnd.{RowEnd}
use Rattle.laws.specs.Reads.{few_records}

module _ {is : ℕ → Bool} {size : ℕ → ℕ} where
  -- there is only one row from a place on
  same_things : {p n q m r : ℕ} → InRow (Spans is size) n p q → is q ≡ false
      → InRow (Spans is size) m p r → is r ≡ false → (n ≡ m) × (q ≡ r)
  same_things (no_thing p) a (no_thing _) b = (refl, refl)
  same_things (no_thing p) a (one_thing m _ q r y ys) b = absurd (false≢true (sym a ∙ y.is_one))
  same_things (one_thing n p q r x xs) a (no_thing _) b = absurd (false≢true (sym b ∙ x.is_one))
  same_things (one_thing n p q r x xs) a (one_thing m _ q' r' y ys) b =
      let z = same_things xs a (subst (λ z. InRow (Spans is size) m z r') (y.end ∙ sym x.end) ys) b in (ap suc z.0, z.1)

  same_row : {p n q m r : ℕ} → SortRow is size p n q → SortRow is size p m r → (n ≡ m) × (q ≡ r)
  same_row a b = same_things a.things a.stops b.things b.stops

  -- two sizes that agree on the sort have the same rows and the same heads
  module _ (other : ℕ → ℕ) (f : (p : ℕ) → is p ≡ true → size p ≡ other p) where
    resized : {n p q : ℕ} → InRow (Spans is size) n p q → InRow (Spans is other) n p q
    resized = each_in_row λ p q x. record { is_one = x.is_one; end = x.end ∙ ap (λ z. p + z) (f p x.is_one); grows = x.grows }

    resized_heads : {n p q : ℕ} → InRow (Spans is size) n p q → heads size n p ≡ heads other n p
    unfolding heads
    resized_heads (no_thing p) = refl
    resized_heads (one_thing n p q r x xs) =
        rw (← f p x.is_one, ← x.end) (ap (λ ys. p ∷ ys) (resized_heads xs))

-- what a table is whose part from a on was lent: the part as it came back, with nothing behind it
module _ (a : ℕ) (xs : List ℕ) (l : a ≤ length xs) where
  lent_from : take (length xs - a) (drop a xs) ≡ drop a xs
  lent_from = take_all (length xs - a) (drop a xs) (simp length-drop (omega arith))

  back_from : (ys : List ℕ) → drop a (put_mid a (length xs - a) xs ys) ≡ ys
  back_from ys =
      drop_at (take a xs) _ a (length-take-le a xs l)
      ∙ rw (drop_of_length-le (drop a xs) {i = length xs - a} (simp length-drop (omega arith)), append-nil)

module _ {s : List ℕ} {is is' : ℕ → Bool} {size other : ℕ → ℕ} {most room : ℕ} {first second : List ℕ} (h : TwoRows s is is' size other most room first second) where
  pub first_ahead : {n : ℕ} → room ≤ n → RowAhead s is size 0 n
  first_ahead l =
      let z = row_grows (λ p q x. x.grows) h.row'.things in let y = h.inside in let x = h.fit in
      record { sized = h.sized; count = h.count; end = h.middle; row = h.row; fits = omega arith; inside = omega arith }

  -- the first row is in the table, which has room for the second behind it
  module _ {before xs : List ℕ} {one : RowEnd} (a : RowFilled is size 0 before xs one) (same : length xs ≡ length before) (l : room ≤ length before) where
    counted : one.count ≡ h.count
    counted = (same_row a.row h.row).0

    after_first : one.next ≡ h.middle
    after_first = (same_row a.row h.row).1

    pub in_table : one.count ≤ length xs
    in_table = let x = h.fit in let y = counted in omega arith

    pub second_ahead : RowAhead s is' other one.next (length (take (length xs - one.count) (drop one.count xs)))
    second_ahead =
        let x = h.fit in
        let y = counted in
        rw (lent_from one.count xs in_table, length-drop, after_first)
        (record { sized = h.sized; count = h.count'; end = h.end; row = h.row'; fits = omega arith; inside = h.inside })

    -- and so is the second
    module _ {ys : List ℕ} {two : RowEnd} (b : RowFilled is' other one.next (take (length xs - one.count) (drop one.count xs)) ys two) where
      counted' : two.count ≡ h.count'
      counted' = (same_row (subst (λ p. SortRow is' other p two.count two.next) after_first b.row) h.row').0

      table : List ℕ
      table = put_mid one.count (length xs - one.count) xs ys

      first_part : part 0 one.count table ≡ first
      unfolding table
      first_part =
          let z : one.count - 0 ≡ one.count = omega arith in
          rw z (take_put one.count (length xs - one.count) xs ys in_table ∙ a.begins ∙ ap (λ n. heads size n 0) counted ∙ sym h.first_are)

      second_part : part one.count (one.count + two.count) table ≡ second
      unfolding table
      second_part =
          let z : one.count + two.count - one.count ≡ two.count = omega arith in
          rw (z, back_from one.count xs in_table ys)
          (b.begins ∙ rw (counted', after_first) (sym h.second_are))

      rest_part : drop (one.count + two.count) table ≡ drop (one.count + two.count) before
      unfolding table
      rest_part =
          sym (drop-drop two.count one.count table)
          ∙ ap (drop two.count) (back_from one.count xs in_table ys)
          ∙ b.rest
          ∙ ap (drop two.count) (lent_from one.count xs in_table ∙ a.rest)
          ∙ drop-drop two.count one.count before

      pub tables : Tables most room first second before (put_mid one.count (length xs - one.count) xs ys) (record { first = one.count; second = two.count })
      unfolding table
      tables =
          let x = counted in
          let y = counted' in
          let i = h.few in
          let k = h.fit in
          record { few = omega arith; fit = omega arith; first_are = first_part; second_are = second_part; rest = rest_part }

-- numbers of 8 bits
few_numbered : {Thing : ℕ → ℕ → ℕ → Type 0} {n m p q : ℕ} → ((n p q : ℕ) → Thing n p q → n < 256) → Numbered Thing n m p q → n ≤ 256 → n + m ≤ 256
few_numbered f (no_more n p) l = omega arith
few_numbered f (one_more n m p q r x xs) l = let a = f n p q x in let b = few_numbered f xs (omega arith) in omega arith

number_small : (g : List ℕ) → ((i : ℕ) → get_or g i 0 < 256) → (p : ℕ) → field_a g p < 256
unfolding field_a byte_of
number_small g h p = h (base p + 1)

-- the sizes by sort
class_size : (g : List ℕ) (p : ℕ) → is_class g p ≡ true → grammar_size g p ≡ with_records g p
unfolding grammar_size with_records
class_size g p e = rw e

production_size_lem : (g : List ℕ) (p : ℕ) → of_kind g 3 p ≡ true → grammar_size g p ≡ production_size g p
unfolding grammar_size
production_size_lem g p e = rw ((grammar_sorts g).apart p e)

type_size : (t : List ℕ) (p : ℕ) → of_kind t 1 p ≡ true → templates_size t p ≡ with_records t p
unfolding templates_size with_records
type_size t p e = rw e

template_size : (t : List ℕ) (p : ℕ) → of_kind t 3 p ≡ true → templates_size t p ≡ field_c t p
unfolding templates_size
template_size t p e = rw ((templates_sorts t).apart p e)

-- a row of one sort and a row of the other fill a stream; `whole` is the size of both
module _ {s : List ℕ} {is is' : ℕ → Bool} {whole : ℕ → ℕ} {m n q e : ℕ} (o : Sorts s is is') (w : stream_length s ≡ none) (t : Tail s e)
    (a : InRow (Spans is whole) m 0 q) (b : InRow (Spans is' whole) n q e) (size other : ℕ → ℕ)
    (f : (p : ℕ) → is p ≡ true → whole p ≡ size p) (g : (p : ℕ) → is' p ≡ true → whole p ≡ other p) where
  two_rows : (most room : ℕ) → m ≤ most → m + n ≤ room → TwoRows s is is' size other most room (heads whole m 0) (heads whole n q)
  two_rows most room i k =
      let z = kind_after ((length_exactly s).0 w) t in
      record {
        sized = w;
        count = m;
        middle = q;
        count' = n;
        end = e;
        row = record { things = resized size f a; stops = not_first o b z };
        row' = record { things = resized other g b; stops = o.zero_second e z };
        first_are = resized_heads size f a;
        second_are = resized_heads other g b;
        few = i;
        fit = k;
        inside = let l = few_records s w in let k = t.inside in omega arith;
      }

pub grammar_rows : {g : List ℕ} → LaidGrammar g → ((i : ℕ) → get_or g i 0 < 256) → TwoRows g (is_class g) (of_kind g 3) (with_records g) (production_size g) most_classes (record_count g) (classes g) (productions g)
grammar_rows {g} l small =
    let w = (length_exactly g).0 l.length_right in
    let h = (grammar_laid_exactly g w).0 l.laid_out in
    let few : 0 + h.class_count ≤ 256 =
    few_numbered (λ n p q x. let z = class_number x in let y = number_small g small p in omega arith) h.classes (omega arith) in
    let a = each_numbered (λ n p q. class_spans) h.classes in
    let b = each_numbered (λ n p q. production_spans) h.productions in
    let x = row_grows (λ p q y. y.grows) a in
    let y = row_grows (λ p q y. y.grows) b in
    let z = h.tail.inside in
    rw (classes_are g w h, productions_are g w h)
    (two_rows (grammar_sorts g) l.length_right h.tail a b (with_records g) (production_size g) (class_size g) (production_size_lem g)
    most_classes (record_count g) (omega arith) (omega arith))

pub templates_rows : {t : List ℕ} → LaidTemplates t → TwoRows t (of_kind t 1) (of_kind t 3) (with_records t) (field_c t) (record_count t) (record_count t) (types t) (templates t)
templates_rows {t} l =
    let w = (length_exactly t).0 l.length_right in
    let h = (templates_laid_exactly t w).0 l.laid_out in
    let a = each_in_row (λ p q. type_spans) h.types in
    let b = each_in_row (λ p q. template_spans) h.templates in
    let x = row_grows (λ p q y. y.grows) a in
    let y = row_grows (λ p q y. y.grows) b in
    let z = h.tail.inside in
    rw (types_are t w h, templates_are t w h)
    (two_rows (templates_sorts t) l.length_right h.tail a b (with_records t) (field_c t) (type_size t) (template_size t)
    (record_count t) (record_count t) (omega arith) (omega arith))
