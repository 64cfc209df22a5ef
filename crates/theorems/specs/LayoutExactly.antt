-- Refusal 3, exactly when: the readers of a layout find an end exactly where the records lay a thing out, and the check finds no fault exactly
-- where a stream is laid out.
use Rattle.std.specs.Prelude.{◌≡◌, ◌↔◌, List, [], ◌∷◌, ◌++◌, Bool, ◌||◌, get_or, take, drop, eqb}
use Rattle.std.proofs.Math.Path.{refl}
use Rattle.std.proofs.Common.{sym, ◌∙◌, ap, subst, inl, inr, append-nil, arith, add-zero, length-take, get_or-take, get_or-drop, eqb-true, eq-eqb, ne_eqb}
use Rattle.std.proofs.Math.Logic.{Iff.rfl as iff-rfl}
use Prim.Native.Nat.{ℕ, zero, suc, ◌+◌, ◌-◌, ◌≤◌, ◌<◌}
use Rattle.std.proofs.Math.Bool.{true, false}
use Rattle.std.proofs.lemmas.Bool.{false≢true, eqb-false}
use Rattle.std.proofs.Math.Option.{Option, none, some, none-ne-some, some-injective}
use Rattle.std.proofs.Math.ListN.{get_or-eq_default}
use Rattle.rules.specs.Faults.{on_found, only_if}
use Rattle.rules.specs.Records.{base, record_count, byte_of, kind_of, field_a, field_b, field_c, field_d, records_from, padding_of, units, zeros, of_kind}
use Rattle.rules.specs.Grammar.{is_class, production_number, text_length}
use Rattle.rules.specs.Templates.{form_numbered, form_of}
use Rattle.rules.specs.Layout.{then_read, in_row, while_is, text_end, range_end, plain_end, escaped_end, class_end, element_end, production_end, grammar_end, naming_end, fields_end, type_form_end, type_end, path_end, form_end, sized, node_end, template_end, templates_end, children_end, case_end, kind_end, value_end, tail_right, layout_fault, grammar_layout, templates_layout, value_layout}
use Rattle.laws.specs.Faults.{need_iff, on_found_true, only_if_iff, and_iff, eqb_iff, leb_iff}
use Rattle.laws.specs.Sorts.{class_kinds}
use Rattle.theorems.specs.Streams.{WellSized}
use Rattle.theorems.specs.LaidOut.{InRow, no_thing, one_thing, Numbered, no_more, one_more, Padded, Tail, RangeAt, ClassAt, ElementHead, ElementAt, ProductionAt, GrammarLaid, NamingAt, TypeAt, PathAt, NodeHead, NodeAt, NodesAt, TemplateAt, TemplatesLaid, ValueAt, ValuesAt, ValueLaid}
use Rattle.theorems.specs.LaidOut.ClassAt.{a_plain, an_escaped}
use Rattle.theorems.specs.LaidOut.ElementAt.{a_keyword, a_name, a_separated}
use Rattle.theorems.specs.Sizes.{by_equal, by_less, each_numbered, row_of_ones, row_grows, keyword_text, name_text, separator_text, naming_size, node_grows, nodes_grow, value_grows, values_grow}
use Rattle.theorems.specs.Heads.{Spans, Sorts, not_first, grammar_sorts, templates_sorts, kind_after, class_spans, production_spans, type_spans, template_spans}

-- What a reader says when it finds an end

then_iff : (o : Option ℕ) (next : ℕ → Option ℕ) (q : ℕ) → (then_read o next ≡ some q) ↔ ((r : ℕ) × (o ≡ some r) × (next r ≡ some q))
unfolding then_read on_found
then_iff none next q = (λ e. absurd (none-ne-some q e), λ h. absurd (none-ne-some h.0 h.1))
then_iff (some r) next q = (λ e. (r, refl, e), λ h. rw (some-injective r h.0 h.1) h.2)

pub only_if_then : (b : Bool) (p : ℕ) (next : ℕ → Option ℕ) (q : ℕ) → (then_read (only_if b p) next ≡ some q) ↔ ((b ≡ true) × (next p ≡ some q))
unfolding only_if then_read on_found
only_if_then true p next q = (λ e. (refl, e), λ h. h.1)
only_if_then false p next q = (λ e. absurd (none-ne-some q e), λ h. absurd (false≢true h.0))

-- Rows: `one` reads one thing

row_from : {Thing : ℕ → ℕ → Type 0} (one : ℕ → Option ℕ) → ((p q : ℕ) → one p ≡ some q → Thing p q)
    → (n p q : ℕ) → in_row one n p ≡ some q → InRow Thing n p q
unfolding in_row
row_from {Thing} one f zero p q e = subst (λ x. InRow Thing 0 p x) (some-injective p q e) (no_thing p)
row_from one f (suc n) p q e =
    let h = (then_iff (one p) (in_row one n) q).0 e in
    one_thing n p h.0 q (f p h.0 h.1) (row_from one f n h.0 q h.2)

row_none : (one : ℕ → Option ℕ) (p : ℕ) → in_row one 0 p ≡ some p
unfolding in_row
row_none one p = refl

row_one : (one : ℕ → Option ℕ) (n p q r : ℕ) → one p ≡ some q → in_row one n q ≡ some r → in_row one (suc n) p ≡ some r
unfolding in_row
row_one one n p q r a b = (then_iff (one p) (in_row one n) r).1 (q, a, b)

row_to : {Thing : ℕ → ℕ → Type 0} (one : ℕ → Option ℕ) {n p q : ℕ} → ((p q : ℕ) → Thing p q → one p ≡ some q)
    → InRow Thing n p q → in_row one n p ≡ some q
row_to one f (no_thing p) = row_none one p
row_to one f (one_thing n p q r x xs) = row_one one n p q r (f p q x) (row_to one f xs)

-- a row of one
row_of_one : (one : ℕ → Option ℕ) (p q : ℕ) → (in_row one 1 p ≡ some q) ↔ (one p ≡ some q)
unfolding in_row then_read on_found
row_of_one one p q = go (one p)
  where
    go : (o : Option ℕ) → (on_found o none (λ r. some r) ≡ some q) ↔ (o ≡ some q)
    go none = iff-rfl
    go (some r) = iff-rfl

row_exactly : {Thing : ℕ → ℕ → Type 0} (one : ℕ → Option ℕ) → ((p q : ℕ) → (one p ≡ some q) ↔ Thing p q)
    → (n p q : ℕ) → (in_row one n p ≡ some q) ↔ InRow Thing n p q
row_exactly one f n p q = (row_from one (λ p q. (f p q).0) n p q, row_to one (λ p q. (f p q).1))

-- Things as long as one of their sort comes: `one` reads a thing that is known to be of it

module _ (is : ℕ → Bool) (one : ℕ → ℕ → Option ℕ) where
  while_more : (k n p : ℕ) → is p ≡ true → while_is is one (suc k) n p ≡ then_read (one n p) (while_is is one k (suc n))
  unfolding while_is
  while_more k n p e = rw (e, while_is)

  while_stop : (k n p : ℕ) → is p ≡ false → while_is is one k n p ≡ some p
  unfolding while_is
  while_stop zero n p e = refl
  while_stop (suc k) n p e = rw (e, while_is)

  module _ {Thing : ℕ → ℕ → ℕ → Type 0} where
    none_read : (n p q : ℕ) → ◌≡◌ {A = Option ℕ} (some p) (some q) → (m : ℕ) × Numbered Thing n m p q
    none_read n p q e = (0, subst (λ x. Numbered Thing n 0 p x) (some-injective p q e) (no_more n p))

    while_from : ((n p q : ℕ) → is p ≡ true → one n p ≡ some q → Thing n p q)
        → (k n p q : ℕ) → while_is is one k n p ≡ some q → (m : ℕ) × Numbered Thing n m p q
    while_from f zero n p q e = none_read n p q (unfold while_is in e)
    while_from f (suc k) n p q e = go (is p) refl (while_from f k (suc n))
      where
        go : (b : Bool) → is p ≡ b → ((p q : ℕ) → while_is is one k (suc n) p ≡ some q → (m : ℕ) × Numbered Thing (suc n) m p q)
            → (m : ℕ) × Numbered Thing n m p q
        go true i rest =
            let h = (then_iff (one n p) (while_is is one k (suc n)) q).0 (sym (while_more k n p i) ∙ e) in
            let r = rest h.0 q h.2 in
            (suc r.0, one_more n r.0 p h.0 q (f n p h.0 i h.1) r.1)
        go false i rest = none_read n p q (sym (while_stop (suc k) n p i) ∙ e)

    -- back: every thing ends within the stream, and what comes after the last is not of this sort
    while_to : {most : ℕ} {size : ℕ → ℕ} → ((n p q : ℕ) → Thing n p q → Spans is size p q)
        → ((n p q : ℕ) → Thing n p q → q ≤ most → one n p ≡ some q)
        → {n m p q : ℕ} → Numbered Thing n m p q → q ≤ most → is q ≡ false
        → (k : ℕ) → m ≤ k → while_is is one k n p ≡ some q
    while_to a f (no_more n p) l o k j = while_stop k n p o
    while_to a f (one_more n m p q r x xs) l o zero j = absurd (omega arith)
    while_to a f (one_more n m p q r x xs) l o (suc k) j =
        let i = row_grows (λ p q h. h.grows) (each_numbered a xs) in
        while_more k n p (a n p q x).is_one
        ∙ (then_iff (one n p) (while_is is one k (suc n)) r).1 (q, f n p q x (omega arith), while_to a f xs l o k (omega arith))

-- Zero bytes

zeros_at : (xs : List ℕ) → zeros xs ≡ true → (i : ℕ) → get_or xs i 0 ≡ 0
unfolding zeros
zeros_at [] e i = refl
zeros_at (x ∷ xs) e zero = eqb-true x 0 ((and_iff (eqb x 0) (zeros xs)).0 e).0
zeros_at (x ∷ xs) e (suc i) = zeros_at xs ((and_iff (eqb x 0) (zeros xs)).0 e).1 i

at_zeros : (xs : List ℕ) → ((i : ℕ) → get_or xs i 0 ≡ 0) → zeros xs ≡ true
unfolding zeros
at_zeros [] h = refl
at_zeros (x ∷ xs) h = (and_iff _ _).1 (eq-eqb x 0 (h 0), at_zeros xs (λ i. h (suc i)))

zeros_append : (xs ys : List ℕ) → (zeros (xs ++ ys) ≡ true) ↔ ((zeros xs ≡ true) × (zeros ys ≡ true))
unfolding zeros
zeros_append [] ys = (λ e. (refl, e), λ h. h.1)
zeros_append (x ∷ xs) ys = (
  λ e. let h = (and_iff (eqb x 0) (zeros (xs ++ ys))).0 e in let r = (zeros_append xs ys).0 h.1 in ((and_iff _ _).1 (h.0, r.0), r.1),
  λ h. let r = (and_iff (eqb x 0) (zeros xs)).0 h.0 in (and_iff _ _).1 (r.0, (zeros_append xs ys).1 (r.1, h.1)),
)

-- the bytes of a record, as a list and one by one
record_byte : (s : List ℕ) (i j : ℕ) → j < 8 → get_or (take 8 (drop (base i) s)) j 0 ≡ byte_of s i j
unfolding byte_of
record_byte s i j l = get_or-take 8 (drop (base i) s) j 0 l ∙ get_or-drop (base i) s j 0

record_past : (s : List ℕ) (i j : ℕ) → 8 ≤ j → get_or (take 8 (drop (base i) s)) j 0 ≡ 0
record_past s i j l = get_or-eq_default (take 8 (drop (base i) s)) 0 (simp length-take (omega arith))

zero_bytes_iff : (s : List ℕ) (k i : ℕ) → (zeros (drop k (take 8 (drop (base i) s))) ≡ true) ↔ ((j : ℕ) → k ≤ j → j < 8 → byte_of s i j ≡ 0)
zero_bytes_iff s k i =
    let x = take 8 (drop (base i) s) in (
      λ e j l m. let z : k + (j - k) ≡ j = omega arith in
          sym (record_byte s i j m) ∙ subst (λ n. get_or x n 0 ≡ 0) z (sym (get_or-drop k x (j - k) 0) ∙ zeros_at _ e (j - k)),
      λ h. at_zeros _ λ n. get_or-drop k x n 0 ∙
          by_less (k + n) 8 (λ l. record_byte s i (k + n) l ∙ h (k + n) (omega arith) l) (λ l. record_past s i (k + n) l),
    )

zero_records_iff : (s : List ℕ) (n p : ℕ) → (zeros (records_from s n p) ≡ true) ↔ ((i j : ℕ) → p ≤ i → i < p + n → j < 8 → byte_of s i j ≡ 0)
unfolding records_from zeros
zero_records_iff s zero p = (λ e i j l m o. absurd (omega arith), λ h. refl)
zero_records_iff s (suc n) p = (
  λ e i j l m o. let h = (zeros_append (take 8 (drop (base p) s)) (records_from s n (suc p))).0 e in
      by_equal i p (λ z. subst (λ x. byte_of s x j ≡ 0) (sym z) ((zero_bytes_iff s 0 p).0 h.0 j (omega arith) o))
      (λ z. (zero_records_iff s n (suc p)).0 h.1 i j (omega arith) (omega arith) o),
  λ h. (zeros_append (take 8 (drop (base p) s)) (records_from s n (suc p))).1 (
    (zero_bytes_iff s 0 p).1 (λ j l o. h p j (omega arith) (omega arith) o),
    (zero_records_iff s n (suc p)).1 (λ i j l m o. h i j (omega arith) (omega arith) o),
  ),
)

-- "After the last thing come zero records only, fewer than 63."
tail_exactly : (s : List ℕ) (p : ℕ) → (tail_right s p ≡ true) ↔ Tail s p
unfolding tail_right
tail_exactly s p = (
  λ e. let h = simp (and_iff, leb_iff, zero_records_iff) at e in
      record { a_thing = h.0; inside = h.1.0; few = h.1.1.0; zero_records = λ i j l m o. h.1.1.1 i j l (let z = h.1.0 in omega arith) o },
  λ t. simp (and_iff, leb_iff, zero_records_iff)
      (t.a_thing, (t.inside, (t.few, λ i j l m o. t.zero_records i j l (let z = t.inside in omega arith) o))),
)

-- Grammar

range_exactly : (g : List ℕ) (p q : ℕ) → (range_end g p ≡ some q) ↔ RangeAt g p q
unfolding range_end
range_exactly g p q = (
  λ e. let h = simp (only_if_iff, and_iff, eqb_iff) at e in record { kind = h.0.0; unused = h.0.1; end = sym h.1 },
  λ r. simp (only_if_iff, and_iff, eqb_iff) ((r.kind, r.unused), sym r.end),
)

ranges_exactly : (g : List ℕ) (n p q : ℕ) → (in_row (range_end g) n p ≡ some q) ↔ InRow (RangeAt g) n p q
ranges_exactly g = row_exactly (range_end g) (range_exactly g)

plain_exactly : (g : List ℕ) (n p q : ℕ) → (plain_end g n p ≡ some q) ↔ ((field_a g p ≡ n) × InRow (RangeAt g) (field_d g p) (p + 1) q)
unfolding plain_end
plain_exactly g n p q = simp (only_if_then, eqb_iff, ranges_exactly) iff-rfl

escaped_exactly : (g : List ℕ) (n p q : ℕ)
    → (escaped_end g n p ≡ some q) ↔ (((field_a g p ≡ n) × ((field_c g p ≡ 0) × (field_d g p ≡ 0))) × (p + 1 ≡ q))
unfolding escaped_end
escaped_exactly g n p q = simp (only_if_iff, and_iff, eqb_iff) iff-rfl

pub class_from : (g : List ℕ) (n p q : ℕ) → is_class g p ≡ true → class_end g n p ≡ some q → ClassAt g n p q
unfolding class_end
class_from g n p q i e = elim (class_kinds g p i) [
  | inl k ↦ let h = (plain_exactly g n p q).0 (rw (ne_eqb (kind_of g p) 5 (λ z. omega arith)) at e) in a_plain k h.0 h.1
  | inr k ↦ let h = (escaped_exactly g n p q).0 (rw (eq-eqb (kind_of g p) 5 k) at e) in an_escaped k h.0.0 h.0.1.0 h.0.1.1 (sym h.1)
]

pub class_to : {g : List ℕ} {n p q : ℕ} → ClassAt g n p q → class_end g n p ≡ some q
unfolding class_end
class_to {g} {n} {p} {q} (a_plain k a rs) = rw (ne_eqb (kind_of g p) 5 (λ z. omega arith)) ((plain_exactly g n p q).1 (a, rs))
class_to {g} {n} {p} {q} (an_escaped k a c d e) = rw (eq-eqb (kind_of g p) 5 k) ((escaped_exactly g n p q).1 ((a, (c, d)), sym e))

-- the end of a text of n bytes; that of none is where it begins
text_exactly : (s : List ℕ) (n p q : ℕ) → (text_end s n p ≡ some q) ↔ (Padded s n p × (p + 1 + units n ≡ q))
unfolding text_end
text_exactly s n p q = (
  λ e. let h = (only_if_iff (zeros (padding_of s n p)) _ q).0 e in (zeros_at _ h.0, h.1),
  λ h. (only_if_iff _ _ q).1 (at_zeros _ h.0, h.1),
)

no_text_end : (s : List ℕ) (p : ℕ) → text_end s 0 p ≡ some (p + 1)
unfolding padding_of records_from units
no_text_end s p = (text_exactly s 0 p (p + 1)).1 (λ i. refl, omega arith)

-- a field that only one form uses
unless_iff : (a b c d : ℕ) → ((eqb a b || eqb c d) ≡ true) ↔ ((a ≡ b → ⊥) → c ≡ d)
unless_iff a b c d = go (eqb a b) refl
  where
    go : (t : Bool) → eqb a b ≡ t → ((t || eqb c d) ≡ true) ↔ ((a ≡ b → ⊥) → c ≡ d)
    go true e = (λ h n. absurd (n (eqb-true a b e)), λ h. refl)
    go false e = (λ h n. eqb-true c d h, λ h. eq-eqb c d (h (eqb-false a b e)))

-- a thing that ends with its text of n bytes
with_text_lem : (Thing : ℕ → Type 0) (s : List ℕ) (p q : ℕ) {m n : ℕ} → text_end s m p ≡ some q → m ≡ n → (Padded s n p → Thing (p + 1 + units n)) → Thing q
with_text_lem Thing s p q {n = n} e i f = let r = (text_exactly s n p q).0 (rw i at e) in subst Thing r.1 (f r.0)

element_from : (g : List ℕ) (p q : ℕ) → element_end g p ≡ some q → ElementAt g p q
unfolding element_end units
element_from g p q e =
    let h = simp (only_if_then, and_iff, unless_iff, eqb_iff, leb_iff) at e in
    let head : ElementHead g p = record { kind = h.0.0; unused_d = h.0.1.1.1 } in
    by_equal (field_a g p) 4 (λ a. with_text_lem (ElementAt g p) g p q h.1 (separator_text g p a) (a_separated p head a))
    λ n. let c = h.0.1.1.0 n in
    by_equal (field_a g p) 0 (λ a. with_text_lem (ElementAt g p) g p q h.1 (keyword_text g p a) (a_keyword p head a c))
    λ m. let l : 1 ≤ field_a g p = omega arith in
    let k : field_a g p ≤ 3 = let z = h.0.1.0 in omega arith in
    with_text_lem (ElementAt g p) g p q h.1 (name_text g p l k) (λ z. rw add-zero (a_name p head l k c))

element_read : {g : List ℕ} {p q n : ℕ} → ElementHead g p → field_a g p ≤ 4 → ((field_a g p ≡ 4 → ⊥) → field_c g p ≡ 0)
    → text_length g p ≡ n → text_end g n p ≡ some q → element_end g p ≡ some q
unfolding element_end
element_read h l u e r = simp (only_if_then, and_iff, unless_iff, eqb_iff, leb_iff) ((h.kind, (l, (u, h.unused_d))), rw e r)

element_to : {g : List ℕ} {p q : ℕ} → ElementAt g p q → element_end g p ≡ some q
element_to {g} (a_keyword p h a c z) = element_read h (omega arith) (λ n. c) (keyword_text g p a) ((text_exactly g _ p _).1 (z, refl))
element_to {g} (a_name p h l m c) = element_read h (omega arith) (λ n. c) (name_text g p l m) (no_text_end g p)
element_to {g} (a_separated p h a z) = element_read h (omega arith) (λ n. absurd (n a)) (separator_text g p a) ((text_exactly g _ p _).1 (z, refl))

element_exactly : (g : List ℕ) (p q : ℕ) → (element_end g p ≡ some q) ↔ ElementAt g p q
element_exactly g p q = (element_from g p q, element_to)

pub elements_exactly : (g : List ℕ) (n p q : ℕ) → (in_row (element_end g) n p ≡ some q) ↔ InRow (ElementAt g) n p q
elements_exactly g = row_exactly (element_end g) (element_exactly g)

pub production_exactly : (g : List ℕ) (n p q : ℕ) → ((kind_of g p ≡ 3) × (production_end g n p ≡ some q)) ↔ ProductionAt g n p q
unfolding production_end production_number
production_exactly g n p q = (
  λ e. let h = simp (only_if_then, eqb_iff, elements_exactly) at e.1 in record { kind = e.0; number = h.0; elements = h.1 },
  λ r. (r.kind, simp (only_if_then, eqb_iff, elements_exactly) (r.number, r.elements)),
)

-- Templates

naming_exactly : (t : List ℕ) (kind p q : ℕ) → (naming_end t kind p ≡ some q) ↔ NamingAt t kind p q
unfolding naming_end
naming_exactly t kind p q = (
  λ e. let h = simp (only_if_iff, and_iff, eqb_iff) at e in
      record { kind_is = h.0.0; unused_a = h.0.1.0; unused_c = h.0.1.1.0; unused_d = h.0.1.1.1; end = sym h.1 },
  λ r. simp (only_if_iff, and_iff, eqb_iff) ((r.kind_is, (r.unused_a, (r.unused_c, r.unused_d))), sym r.end),
)

namings_exactly : (t : List ℕ) (kind n p q : ℕ) → (in_row (naming_end t kind) n p ≡ some q) ↔ InRow (NamingAt t kind) n p q
namings_exactly t kind = row_exactly (naming_end t kind) (naming_exactly t kind)

path_exactly : (t : List ℕ) (p q : ℕ) → (path_end t p ≡ some q) ↔ PathAt t p q
unfolding path_end records_from
path_exactly t p q = (
  λ e. let h = simp (only_if_iff, and_iff, eqb_iff, leb_iff, append-nil, zero_bytes_iff) at e in
      record { kind = h.0.0; steps = h.0.1.0; unused = h.0.1.1; end = sym h.1 },
  λ r. simp (only_if_iff, and_iff, eqb_iff, leb_iff, append-nil, zero_bytes_iff) ((r.kind, (r.steps, r.unused)), sym r.end),
)

paths_exactly : (t : List ℕ) (n p q : ℕ) → (in_row (path_end t) n p ≡ some q) ↔ InRow (PathAt t) n p q
paths_exactly t = row_exactly (path_end t) (path_exactly t)

-- the fields of a record or a variant
fields_exactly : (t : List ℕ) (p q : ℕ) → (fields_end t p ≡ some q) ↔ (((field_b t p ≡ 0) × (field_c t p ≡ 0)) × InRow (NamingAt t 2) (field_d t p) (p + 1) q)
unfolding fields_end
fields_exactly t p q = simp (only_if_then, and_iff, eqb_iff, namings_exactly) iff-rfl

-- a type by its form; the kind is known where a type is read
type_form : (t : List ℕ) (form p q : ℕ) → kind_of t p ≡ 1 → field_a t p ≡ form → type_form_end t form p ≡ some q → TypeAt t p q
unfolding type_form_end
type_form t zero p q k a e =
    let h = simp (only_if_iff, and_iff, eqb_iff) at e in
    subst (TypeAt t p) h.1 (TypeAt.a_text p k a h.0.0 h.0.1)
type_form t (suc zero) p q k a e =
    let h = simp (only_if_iff, and_iff, eqb_iff) at e in
    subst (TypeAt t p) h.1 (TypeAt.a_yes_no p k a h.0.0 h.0.1.0 h.0.1.1)
type_form t (suc (suc zero)) p q k a e =
    let h = simp (only_if_iff, and_iff, eqb_iff) at e in
    subst (TypeAt t p) h.1 (TypeAt.a_list p k a h.0.0 h.0.1)
type_form t (suc (suc (suc zero))) p q k a e =
    let h = (fields_exactly t p q).0 e in
    TypeAt.a_record p q k a h.0.0 h.0.1 h.1
type_form t (suc (suc (suc (suc zero)))) p q k a e =
    let h = simp (only_if_then, and_iff, leb_iff, fields_exactly) at e in
    TypeAt.a_variant p q k a h.1.0.0 h.1.0.1 h.0.0 h.0.1 h.1.1
type_form t (suc (suc (suc (suc (suc form))))) p q k a e = absurd (none-ne-some q e)

type_from : (t : List ℕ) (p q : ℕ) → kind_of t p ≡ 1 → type_end t p ≡ some q → TypeAt t p q
unfolding type_end
type_from t p q k e = type_form t (field_a t p) p q k refl e

type_to : {t : List ℕ} {p q : ℕ} → TypeAt t p q → type_end t p ≡ some q
unfolding type_end type_form_end
type_to (TypeAt.a_text p k a c d) = rw a (simp (only_if_iff, and_iff, eqb_iff) ((c, d), refl))
type_to (TypeAt.a_yes_no p k a b c d) = rw a (simp (only_if_iff, and_iff, eqb_iff) ((b, (c, d)), refl))
type_to (TypeAt.a_list p k a c d) = rw a (simp (only_if_iff, and_iff, eqb_iff) ((c, d), refl))
type_to {t} (TypeAt.a_record p q k a b c fs) = rw a ((fields_exactly t p q).1 ((b, c), fs))
type_to {t} (TypeAt.a_variant p q k a b c l m fs) = rw a (simp (only_if_then, and_iff, leb_iff, fields_exactly) ((l, m), ((b, c), fs)))

-- "c size"
sized_iff : (s : List ℕ) (p : ℕ) (o : Option ℕ) (q : ℕ) → (sized s p o ≡ some q) ↔ ((o ≡ some q) × (p + field_c s p ≡ q))
unfolding sized then_read on_found
sized_iff s p none q = (λ e. absurd (none-ne-some q e), λ h. absurd (none-ne-some q h.0))
sized_iff s p (some r) q = (
  λ e. let h = simp (only_if_iff, eqb_iff) at e in (ap some h.1, h.0 ∙ h.1),
  λ h. let z : r ≡ q = some-injective r q h.0 in simp (only_if_iff, eqb_iff) (h.1 ∙ sym z, z),
)

-- Nodes, one level
node_step : (t : List ℕ) (k p q : ℕ)
    → (node_end t (suc k) p ≡ some q) ↔ ((kind_of t p ≡ 5) × ((form_end t (form_of t p) (node_end t k) p ≡ some q) × (p + field_c t p ≡ q)))
unfolding node_end
node_step t k p q = simp (only_if_then, eqb_iff, sized_iff) iff-rfl

as_nodes : {t : List ℕ} {n p q : ℕ} → InRow (NodeAt t) n p q → NodesAt t n p q
as_nodes (no_thing p) = NodesAt.no_node p
as_nodes (one_thing n p q r x xs) = NodesAt.one_node n p q r x (as_nodes xs)

-- from a reader of nodes that is right, to what stands below a head by its form
module _ (t : List ℕ) (node : ℕ → Option ℕ) (right : (p q : ℕ) → node p ≡ some q → NodeAt t p q) where
  nodes_from : (n p q : ℕ) → in_row node n p ≡ some q → NodesAt t n p q
  nodes_from n p q e = as_nodes (row_from node right n p q e)

  form_from : (a p q : ℕ) → NodeHead t a p q → form_end t (form_numbered a) node p ≡ some q → NodeAt t p q
  unfolding form_end form_numbered
  form_from zero p q h e = NodeAt.a_build p q h (nodes_from _ _ q e)
  form_from (suc zero) p q h e =
      let r = simp (only_if_then, eqb_iff, text_exactly) at e in NodeAt.a_literal p q h r.0 r.1.0 (sym r.1.1)
  form_from (suc (suc zero)) p q h e =
      let r = simp (only_if_then, and_iff, eqb_iff, path_exactly) at e in NodeAt.a_place p q h r.0.0 r.0.1 r.1
  form_from (suc (suc (suc zero))) p q h e = NodeAt.an_expand p q h ((paths_exactly t _ _ q).0 e)
  form_from (suc (suc (suc (suc zero)))) p q h e =
      let r = simp (only_if_then, and_iff, eqb_iff, then_iff) at e in
      NodeAt.an_if p q r.1.0 h r.0.0 r.0.1 ((path_exactly t _ _).0 r.1.1) (nodes_from 2 _ q r.1.2)
  form_from (suc (suc (suc (suc (suc zero))))) p q h e =
      let r = simp (only_if_then, and_iff, eqb_iff, then_iff) at e in
      NodeAt.a_for p q r.1.0 h r.0.0 r.0.1 ((path_exactly t _ _).0 r.1.1) (nodes_from 1 _ q r.1.2)
  form_from (suc (suc (suc (suc (suc (suc zero)))))) p q h e =
      let r = simp (only_if_then, eqb_iff) at e in NodeAt.a_sequence p q h r.0 (nodes_from _ _ q r.1)
  form_from (suc (suc (suc (suc (suc (suc (suc zero))))))) p q h e =
      let r = simp (only_if_then, eqb_iff, then_iff) at e in
      NodeAt.a_match p q r.1.0 h r.0 ((path_exactly t _ _).0 r.1.1) (nodes_from _ _ q r.1.2)
  form_from (suc (suc (suc (suc (suc (suc (suc (suc a)))))))) p q h e = absurd (none-ne-some q e)

node_from : (t : List ℕ) (k p q : ℕ) → node_end t k p ≡ some q → NodeAt t p q
node_from t zero p q e = absurd (none-ne-some q (unfold node_end in e))
node_from t (suc k) p q e =
    let h = (node_step t k p q).0 e in
    form_from t (node_end t k) (node_from t k) (field_a t p) p q (record { kind = h.0; form_is = refl; size = h.1.1 }) (unfold form_of in h.1.0)

-- and back, with k levels for q ≤ p + k
head_to : {t : List ℕ} {a p q : ℕ} (k : ℕ) → NodeHead t a p q → form_end t (form_numbered a) (node_end t k) p ≡ some q → node_end t (suc k) p ≡ some q
unfolding form_of
head_to {t} {a} {p} {q} k h e = (node_step t k p q).1 (h.kind, (rw h.form_is e, h.size))

mutual
  unfolding form_end form_numbered

  node_to : {t : List ℕ} {p q : ℕ} → NodeAt t p q → (k : ℕ) → q ≤ p + suc k → node_end t (suc k) p ≡ some q
  node_to (NodeAt.a_build p q h ns) k l = head_to k h (nodes_to ns k (omega arith))
  node_to (NodeAt.a_literal p q h d z e) k l = head_to k h (simp (only_if_then, eqb_iff, text_exactly) (d, (z, sym e)))
  node_to (NodeAt.a_place p q h b d s) k l = head_to k h (simp (only_if_then, and_iff, eqb_iff, path_exactly) ((b, d), s))
  node_to (NodeAt.an_expand p q h ps) k l = head_to k h (simp paths_exactly ps)
  node_to {t} (NodeAt.an_if p q r h b d s ns) k l =
      head_to k h (simp (only_if_then, and_iff, eqb_iff, then_iff) ((b, d), (r, (path_exactly t _ _).1 s, nodes_to ns k (let e = s.end in omega arith))))
  node_to {t} (NodeAt.a_for p q r h b d s ns) k l =
      head_to k h (simp (only_if_then, and_iff, eqb_iff, then_iff) ((b, d), (r, (path_exactly t _ _).1 s, nodes_to ns k (let e = s.end in omega arith))))
  node_to (NodeAt.a_sequence p q h b ns) k l = head_to k h (simp (only_if_then, eqb_iff) (b, nodes_to ns k (omega arith)))
  node_to {t} (NodeAt.a_match p q r h b s ns) k l =
      head_to k h (simp (only_if_then, eqb_iff, then_iff) (b, (r, (path_exactly t _ _).1 s, nodes_to ns k (let e = s.end in omega arith))))

  nodes_to : {t : List ℕ} {n p q : ℕ} → NodesAt t n p q → (k : ℕ) → q ≤ p + k → in_row (node_end t k) n p ≡ some q
  nodes_to {t} (NodesAt.no_node p) k l = row_none (node_end t k) p
  nodes_to (NodesAt.one_node n p q r x xs) zero l = absurd (let a = node_grows x in let b = nodes_grow xs in omega arith)
  nodes_to {t} (NodesAt.one_node n p q r x xs) (suc k) l =
      let a = node_grows x in let b = nodes_grow xs in
      row_one (node_end t (suc k)) n p q r (node_to x k (omega arith)) (nodes_to xs (suc k) (omega arith))

-- the kind is known where a template is read
template_from : (t : List ℕ) (p q : ℕ) → kind_of t p ≡ 3 → template_end t p ≡ some q → TemplateAt t p q
unfolding template_end
template_from t p q k e =
    let h = simp (only_if_then, eqb_iff, sized_iff, then_iff) at e in
    let r = (namings_exactly t 4 _ _ h.1.0.0).0 h.1.0.1 in
    let z : h.1.0.0 ≡ p + 1 + field_a t p = row_of_ones (λ p q. naming_size) r in
    record {
      kind = k;
      unused_d = h.0;
      size = h.1.1;
      parameters = subst (λ x. InRow (NamingAt t 4) (field_a t p) (p + 1) x) z r;
      body = subst (λ x. NodeAt t x q) z (node_from t (record_count t) h.1.0.0 q h.1.0.2);
    }

node_read : {t : List ℕ} {p q : ℕ} → NodeAt t p q → (k : ℕ) → q ≤ k → node_end t k p ≡ some q
node_read h zero l = absurd (let z = node_grows h in omega arith)
node_read h (suc k) l = node_to h k (omega arith)

template_to : {t : List ℕ} {p q : ℕ} → TemplateAt t p q → q ≤ record_count t → template_end t p ≡ some q
unfolding template_end
template_to {t} {p} {q} h l =
    simp (only_if_then, eqb_iff, sized_iff, then_iff)
    (h.unused_d, ((p + 1 + field_a t p, (namings_exactly t 4 _ _ _).1 h.parameters, node_read h.body (record_count t) l), h.size))

-- Values

as_values : {v : List ℕ} {n p q : ℕ} → InRow (ValueAt v) n p q → ValuesAt v n p q
as_values (no_thing p) = ValuesAt.no_value p
as_values (one_thing n p q r x xs) = ValuesAt.one_value n p q r x (as_values xs)

-- a list's or a record's head and children
children_iff : (v : List ℕ) (value : ℕ → Option ℕ) (p q : ℕ)
    → (children_end v value p ≡ some q) ↔ (((field_a v p ≡ 0) × (field_b v p ≡ 0)) × ((in_row value (field_d v p) (p + 1) ≡ some q) × (p + field_c v p ≡ q)))
unfolding children_end
children_iff v value p q = simp (only_if_then, and_iff, eqb_iff, sized_iff) iff-rfl

-- a case's head and its one child
case_iff : (v : List ℕ) (value : ℕ → Option ℕ) (p q : ℕ)
    → (case_end v value p ≡ some q) ↔ (((field_b v p ≡ 0) × (field_d v p ≡ 0)) × ((value (p + 1) ≡ some q) × (p + field_c v p ≡ q)))
unfolding case_end
case_iff v value p q = simp (only_if_then, and_iff, eqb_iff, sized_iff, row_of_one) iff-rfl

-- from a reader of values that is right, to a value by its kind
module _ (v : List ℕ) (value : ℕ → Option ℕ) (right : (p q : ℕ) → value p ≡ some q → ValueAt v p q) where
  values_from : (n p q : ℕ) → in_row value n p ≡ some q → ValuesAt v n p q
  values_from n p q e = as_values (row_from value right n p q e)

  kind_from : (kind p q : ℕ) → kind_of v p ≡ kind → kind_end v kind value p ≡ some q → ValueAt v p q
  unfolding kind_end
  kind_from zero p q k e = absurd (none-ne-some q e)
  kind_from (suc zero) p q k e =
      let h = simp (only_if_then, and_iff, eqb_iff, sized_iff, text_exactly) at e in
      ValueAt.a_text p q k h.0.0 h.0.1 h.1.1 h.1.0.0 (sym h.1.0.1)
  kind_from (suc (suc zero)) p q k e =
      let h = simp (only_if_iff, and_iff, eqb_iff, leb_iff) at e in
      ValueAt.a_yes_no p q k h.0.0 h.0.1.0 h.0.1.1.0 h.0.1.1.1 (sym h.1)
  kind_from (suc (suc (suc zero))) p q k e =
      let h = (children_iff v value p q).0 e in
      ValueAt.a_list p q k h.0.0 h.0.1 h.1.1 (values_from _ _ q h.1.0)
  kind_from (suc (suc (suc (suc zero)))) p q k e =
      let h = (children_iff v value p q).0 e in
      ValueAt.a_record p q k h.0.0 h.0.1 h.1.1 (values_from _ _ q h.1.0)
  kind_from (suc (suc (suc (suc (suc zero))))) p q k e =
      let h = (case_iff v value p q).0 e in
      ValueAt.a_case p q k h.0.0 h.0.1 h.1.1 (right _ q h.1.0)
  kind_from (suc (suc (suc (suc (suc (suc kind)))))) p q k e = absurd (none-ne-some q e)

value_from : (v : List ℕ) (k p q : ℕ) → value_end v k p ≡ some q → ValueAt v p q
unfolding value_end
value_from v zero p q e = absurd (none-ne-some q e)
value_from v (suc k) p q e = kind_from v (value_end v k) (value_from v k) (kind_of v p) p q refl e

-- and back, with k levels for q ≤ p + k
kind_to : (v : List ℕ) (kind k p q : ℕ) → kind_of v p ≡ kind → kind_end v kind (value_end v k) p ≡ some q → value_end v (suc k) p ≡ some q
unfolding value_end
kind_to v kind k p q e h = rw e h

mutual
  unfolding kind_end

  value_to : {v : List ℕ} {p q : ℕ} → ValueAt v p q → (k : ℕ) → q ≤ p + suc k → value_end v (suc k) p ≡ some q
  value_to {v} (ValueAt.a_text p q i a d s z e) k l =
      kind_to v 1 k p q i (simp (only_if_then, and_iff, eqb_iff, sized_iff, text_exactly) ((a, d), ((z, sym e), s)))
  value_to {v} (ValueAt.a_yes_no p q i a b c d e) k l =
      kind_to v 2 k p q i (simp (only_if_iff, and_iff, eqb_iff, leb_iff) ((a, (b, (c, d))), sym e))
  value_to {v} (ValueAt.a_list p q i a b s vs) k l =
      kind_to v 3 k p q i ((children_iff v (value_end v k) p q).1 ((a, b), (values_to vs k (omega arith), s)))
  value_to {v} (ValueAt.a_record p q i a b s vs) k l =
      kind_to v 4 k p q i ((children_iff v (value_end v k) p q).1 ((a, b), (values_to vs k (omega arith), s)))
  value_to (ValueAt.a_case p q i b d s x) zero l = absurd (let z = value_grows x in omega arith)
  value_to {v} (ValueAt.a_case p q i b d s x) (suc k) l =
      kind_to v 5 (suc k) p q i ((case_iff v (value_end v (suc k)) p q).1 ((b, d), (value_to x k (omega arith), s)))

  values_to : {v : List ℕ} {n p q : ℕ} → ValuesAt v n p q → (k : ℕ) → q ≤ p + k → in_row (value_end v k) n p ≡ some q
  values_to {v} (ValuesAt.no_value p) k l = row_none (value_end v k) p
  values_to (ValuesAt.one_value n p q r x xs) zero l = absurd (let a = value_grows x in let b = values_grow xs in omega arith)
  values_to {v} (ValuesAt.one_value n p q r x xs) (suc k) l =
      let a = value_grows x in let b = values_grow xs in
      row_one (value_end v (suc k)) n p q r (value_to x k (omega arith)) (values_to xs (suc k) (omega arith))

value_read : {v : List ℕ} {p q : ℕ} → ValueAt v p q → (k : ℕ) → q ≤ k → value_end v k p ≡ some q
value_read h zero l = absurd (let z = value_grows h in omega arith)
value_read h (suc k) l = value_to h k (omega arith)

-- Whole streams

-- no fault exactly if there is an end, and after it zero records only
pub fault_iff : (s : List ℕ) (end : Option ℕ) → (layout_fault s end ≡ none) ↔ ((e : ℕ) × (end ≡ some e) × Tail s e)
unfolding layout_fault
fault_iff s end = simp (need_iff, on_found_true, tail_exactly) iff-rfl

-- a row of one sort, then a row of another
pub two_rows_from : {A B : ℕ → ℕ → ℕ → Type 0} (s : List ℕ) (is are : ℕ → Bool) (one other : ℕ → ℕ → Option ℕ)
    → ((n p q : ℕ) → is p ≡ true → one n p ≡ some q → A n p q) → ((n p q : ℕ) → are p ≡ true → other n p ≡ some q → B n p q)
    → (e : ℕ) → then_read (while_is is one (record_count s) 0 0) (while_is are other (record_count s) 0) ≡ some e
    → (m : ℕ) × (n : ℕ) × (q : ℕ) × Numbered A 0 m 0 q × Numbered B 0 n q e
two_rows_from s is are one other f g e i =
    let h = (then_iff _ (while_is are other (record_count s) 0) e).0 i in
    let a = while_from is one f (record_count s) 0 0 h.0 h.1 in
    let b = while_from are other g (record_count s) 0 h.0 e h.2 in
    (a.0, b.0, h.0, a.1, b.1)

pub two_rows_to : {A B : ℕ → ℕ → ℕ → Type 0} {s : List ℕ} {is are : ℕ → Bool} {size : ℕ → ℕ} {m n q e : ℕ} (one other : ℕ → ℕ → Option ℕ) → Sorts s is are
    → ((n p q : ℕ) → A n p q → Spans is size p q) → ((n p q : ℕ) → B n p q → Spans are size p q)
    → ((n p q : ℕ) → A n p q → q ≤ record_count s → one n p ≡ some q) → ((n p q : ℕ) → B n p q → q ≤ record_count s → other n p ≡ some q)
    → WellSized s → Tail s e → Numbered A 0 m 0 q → Numbered B 0 n q e
    → then_read (while_is is one (record_count s) 0 0) (while_is are other (record_count s) 0) ≡ some e
two_rows_to {s = s} {is} {are} {size} {m} {n} {q} {e} one other o a b f g w t x y =
    let i = row_grows (λ p q h. h.grows) (each_numbered a x) in
    let j = row_grows (λ p q h. h.grows) (each_numbered b y) in
    let l = t.inside in
    let z = kind_after w t in
    (then_iff _ (while_is are other (record_count s) 0) e).1 (
      q,
      while_to is one a f x (omega arith) (not_first o (each_numbered b y) z) (record_count s) (omega arith),
      while_to are other b g y l (o.zero_second e z) (record_count s) (omega arith),
    )

-- 3: "The records break a layout above (place 0)." The check finds no fault exactly if they don't:
pub grammar_laid_exactly : (g : List ℕ) → WellSized g → (grammar_layout g ≡ none) ↔ GrammarLaid g
unfolding grammar_layout grammar_end
grammar_laid_exactly g w = (
  λ e. let h = (fault_iff g _).0 e in
      let r = two_rows_from g (is_class g) (of_kind g 3) (class_end g) (production_end g)
      (class_from g) (λ n p q k e. (production_exactly g n p q).0 (eqb-true _ 3 k, e)) h.0 h.1 in
      record { class_count = r.0; production_count = r.1; middle = r.2; end = h.0; classes = r.3; productions = r.4; tail = h.2 },
  λ h. (fault_iff g _).1 (
    h.end,
    two_rows_to (class_end g) (production_end g) (grammar_sorts g) (λ n p q. class_spans) (λ n p q. production_spans)
        (λ n p q x l. class_to x) (λ n p q x l. ((production_exactly g n p q).1 x).1) w h.tail h.classes h.productions,
    h.tail,
  ),
)

-- types and templates have no numbers of their own
with_numbers : {A : ℕ → ℕ → Type 0} {m p q : ℕ} (n : ℕ) → InRow A m p q → Numbered (λ n. A) n m p q
with_numbers n (no_thing p) = no_more n p
with_numbers n (one_thing m p q r x xs) = one_more n m p q r x (with_numbers (suc n) xs)

pub templates_laid_exactly : (t : List ℕ) → WellSized t → (templates_layout t ≡ none) ↔ TemplatesLaid t
unfolding templates_layout templates_end
templates_laid_exactly t w = (
  λ e. let h = (fault_iff t _).0 e in
      let r = two_rows_from {A = λ n. TypeAt t} {B = λ n. TemplateAt t} t (of_kind t 1) (of_kind t 3) (λ n. type_end t) (λ n. template_end t)
      (λ n p q k. type_from t p q (eqb-true _ 1 k)) (λ n p q k. template_from t p q (eqb-true _ 3 k)) h.0 h.1 in
      record {
        type_count = r.0;
        template_count = r.1;
        middle = r.2;
        end = h.0;
        types = each_numbered (λ n p q x. x) r.3;
        templates = each_numbered (λ n p q x. x) r.4;
        tail = h.2;
      },
  λ h. (fault_iff t _).1 (
    h.end,
    two_rows_to {A = λ n. TypeAt t} {B = λ n. TemplateAt t} (λ n. type_end t) (λ n. template_end t) (templates_sorts t) (λ n p q. type_spans) (λ n p q. template_spans)
        (λ n p q x l. type_to x) (λ n p q. template_to) w h.tail (with_numbers 0 h.types) (with_numbers 0 h.templates),
    h.tail,
  ),
)

pub value_laid_exactly : (v : List ℕ) → WellSized v → (value_layout v ≡ none) ↔ ValueLaid v
unfolding value_layout
value_laid_exactly v w = (
  λ e. let h = (fault_iff v (value_end v (record_count v) 0)).0 e in record { end = h.0; value = value_from v (record_count v) 0 h.0 h.1; tail = h.2 },
  λ h. (fault_iff v (value_end v (record_count v) 0)).1 (h.end, value_read h.value (record_count v) h.tail.inside, h.tail),
)
