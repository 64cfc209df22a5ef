-- What the lists of heads are in a stream that is laid out.
use Rattle.std.specs.Prelude.{◌≡◌, refl, ℕ, zero, suc, ◌+◌, ◌-◌, ◌≤◌, ◌<◌, List, [], ◌∷◌, ◌++◌, Bool, true, false}
use Rattle.std.proofs.Common.{sym, ◌∙◌, ap, append-nil, arith, eqb-true, eq-eqb, ne_eqb}
use Rattle.std.proofs.lemmas.Bool.{false≢true}
use Rattle.std.proofs.Math.ListN.{get_or-eq_default}
use Rattle.rules.specs.Records.{base, record_count, byte_of, kind_of, heads, things, those, of_kind}
use Rattle.rules.specs.Grammar.{is_class, grammar_size, grammar_things, classes, productions}
use Rattle.rules.specs.Templates.{templates_size, templates_things, types, templates}
use Rattle.laws.specs.Sorts.{no_class}
use Rattle.theorems.specs.Streams.{WellSized}
use Rattle.theorems.specs.LaidOut.{InRow, no_thing, one_thing, Tail, ClassAt, ProductionAt, GrammarLaid, TypeAt, TemplateAt, TemplatesLaid}
use Rattle.theorems.specs.Sizes.{by_less, each_in_row, each_numbered, row_of_ones, row_grows, range_size, is_class_lem, ranges_row, class_size, element_grows, production_size_lem, type_kind, type_fields, type_size, template_size, node_grows}

-- After the last thing

-- what lies past the end of a stream of whole blocks is 0
pub byte_past : {s : List ℕ} → WellSized s → (i j : ℕ) → record_count s ≤ i → byte_of s i j ≡ 0
unfolding record_count byte_of base
byte_past {s} w i j l = get_or-eq_default s 0 (let z = w.whole_blocks in omega arith)

-- so after the last thing every byte is 0, within the stream and past it
pub byte_after : {s : List ℕ} {e : ℕ} → WellSized s → Tail s e → (i j : ℕ) → e ≤ i → j < 8 → byte_of s i j ≡ 0
byte_after {s} w h i j l m = by_less i (record_count s) (λ o. h.zero_records i j l o m) (byte_past w i j)

pub kind_after : {s : List ℕ} {e : ℕ} → WellSized s → Tail s e → kind_of s e ≡ 0
unfolding kind_of
kind_after {s} {e} w h = byte_after w h e 0 (omega arith) (omega arith)

-- The walk from head to head

-- a thing of a sort, with its size: what the walk goes by
pub record Spans (is : ℕ → Bool) (size : ℕ → ℕ) (p q : ℕ) : Type 0 where
  pub is_one : is p ≡ true
  pub end : q ≡ p + size p
  pub grows : p < q

-- the two sorts of things of a stream: no zero record is of either, and nothing is of both
pub record Sorts (s : List ℕ) (one other : ℕ → Bool) : Type 0 where
  pub zero_first : (p : ℕ) → kind_of s p ≡ 0 → one p ≡ false
  pub zero_second : (p : ℕ) → kind_of s p ≡ 0 → other p ≡ false
  pub apart : (p : ℕ) → other p ≡ true → one p ≡ false

-- one step of the walk, and of the choice by sort
things_step : (s : List ℕ) (size : ℕ → ℕ) (k p : ℕ) → (kind_of s p ≡ 0 → ⊥) → things s size (suc k) p ≡ p ∷ things s size k (p + size p)
unfolding things
things_step s size k p l = rw (ne_eqb (kind_of s p) 0 l, things)

things_end : (s : List ℕ) (size : ℕ → ℕ) (k p : ℕ) → kind_of s p ≡ 0 → things s size k p ≡ []
unfolding things
things_end s size zero p e = refl
things_end s size (suc k) p e = rw (eq-eqb _ 0 e, things)

kept : (is : ℕ → Bool) (p : ℕ) (ps : List ℕ) → is p ≡ true → those is (p ∷ ps) ≡ p ∷ those is ps
unfolding those
kept is p ps e = rw (e, those)

left_out : (is : ℕ → Bool) (p : ℕ) (ps : List ℕ) → is p ≡ false → those is (p ∷ ps) ≡ those is ps
unfolding those
left_out is p ps e = rw (e, those)

not_both : {b : Bool} → b ≡ true → b ≡ false → ⊥
not_both a b = false≢true (sym b ∙ a)

-- where a row of n things begins, the walk takes them and goes on after them
things_row : (s : List ℕ) {is : ℕ → Bool} {size : ℕ → ℕ} {n p q : ℕ} → ((p : ℕ) → kind_of s p ≡ 0 → is p ≡ false) → InRow (Spans is size) n p q
    → (k j : ℕ) → k ≡ n + j → things s size k p ≡ heads size n p ++ things s size j q
unfolding heads
things_row s l (no_thing p) k j e = let z : k ≡ j = omega arith in rw z
things_row s l (one_thing n p q r x xs) zero j e = absurd (omega arith)
things_row s {is} {size} l (one_thing n p q r x xs) (suc k) j e =
    things_step s size k p (λ z. not_both x.is_one (l p z)) ∙ rw (← x.end) (ap (λ ys. p ∷ ys) (things_row s l xs k j (omega arith)))

-- the choice by sort takes all of a row of that sort, and none of a row of another
row_kept : {is : ℕ → Bool} {size : ℕ → ℕ} {n p q : ℕ} → InRow (Spans is size) n p q
    → (xs : List ℕ) → those is (heads size n p ++ xs) ≡ heads size n p ++ those is xs
unfolding heads
row_kept (no_thing p) xs = refl
row_kept {is} (one_thing n p q r y ys) xs = kept is p _ y.is_one ∙ rw (← y.end) (ap (λ ys. p ∷ ys) (row_kept ys xs))

row_left_out : {is : ℕ → Bool} {size : ℕ → ℕ} {n p q : ℕ} (other : ℕ → Bool) → ((p : ℕ) → is p ≡ true → other p ≡ false) → InRow (Spans is size) n p q
    → (xs : List ℕ) → those other (heads size n p ++ xs) ≡ those other xs
unfolding heads
row_left_out other l (no_thing p) xs = refl
row_left_out other l (one_thing n p q r y ys) xs =
    left_out other p _ (l p y.is_one) ∙ rw (← y.end) (row_left_out other l ys xs)

-- in both streams a row of one sort, a row of another and then zero records only: the walk takes both rows, and each sort is its row
module _ {s : List ℕ} {one other : ℕ → Bool} {size : ℕ → ℕ} {m n q e : ℕ} (o : Sorts s one other) (w : WellSized s) (h : Tail s e)
    (a : InRow (Spans one size) m 0 q) (b : InRow (Spans other size) n q e) where
  both_rows : things s size (record_count s) 0 ≡ heads size m 0 ++ (heads size n q ++ [])
  both_rows =
      let x = row_grows (λ p q r. r.grows) a in
      let y = row_grows (λ p q r. r.grows) b in
      let z = h.inside in
      things_row s o.zero_first a (record_count s) (record_count s - m) (omega arith)
      ∙ ap (λ ys. heads size m 0 ++ ys)
      (things_row s o.zero_second b (record_count s - m) (record_count s - m - n) (omega arith)
      ∙ ap (λ ys. heads size n q ++ ys) (things_end s size (record_count s - m - n) e (kind_after w h)))

  apart_back : (p : ℕ) → one p ≡ true → other p ≡ false
  apart_back p i = go (other p) refl
    where
      go : (b : Bool) → other p ≡ b → b ≡ false
      go true e = absurd (not_both i (o.apart p e))
      go false e = refl

  first_row : those one (things s size (record_count s) 0) ≡ heads size m 0
  unfolding those
  first_row = rw (both_rows, row_kept a, row_left_out one o.apart b) (append-nil _)

  second_row : those other (things s size (record_count s) 0) ≡ heads size n q
  unfolding those
  second_row = rw (both_rows, row_left_out other apart_back a, row_kept b) (append-nil _)

-- after the first row comes a thing of the second sort or a zero record, so nothing of the first
pub not_first : {s : List ℕ} {one other : ℕ → Bool} {size : ℕ → ℕ} {n p q : ℕ} → Sorts s one other → InRow (Spans other size) n p q → kind_of s q ≡ 0 → one p ≡ false
not_first o (no_thing p) z = o.zero_first p z
not_first o (one_thing n p q r x xs) z = o.apart p x.is_one

-- The things of both streams, and the lists of heads

pub grammar_sorts : (g : List ℕ) → Sorts g (is_class g) (of_kind g 3)
grammar_sorts g = record {
  zero_first = λ p z. no_class g p (λ k. omega arith) (λ k. omega arith);
  zero_second = λ p z. ne_eqb (kind_of g p) 3 (λ k. omega arith);
  apart = λ p e. let z = eqb-true (kind_of g p) 3 e in no_class g p (λ k. omega arith) (λ k. omega arith);
}

pub templates_sorts : (t : List ℕ) → Sorts t (of_kind t 1) (of_kind t 3)
templates_sorts t = record {
  zero_first = λ p z. ne_eqb (kind_of t p) 1 (λ k. omega arith);
  zero_second = λ p z. ne_eqb (kind_of t p) 3 (λ k. omega arith);
  apart = λ p e. let z = eqb-true (kind_of t p) 3 e in ne_eqb (kind_of t p) 1 (λ k. omega arith);
}

pub class_spans : {g : List ℕ} {n p q : ℕ} → ClassAt g n p q → Spans (is_class g) (grammar_size g) p q
class_spans h = record { is_one = is_class_lem h; end = class_size h; grows = let e = row_of_ones (λ p q. range_size) (ranges_row h) in omega arith }

pub production_spans : {g : List ℕ} {n p q : ℕ} → ProductionAt g n p q → Spans (of_kind g 3) (grammar_size g) p q
production_spans h = record { is_one = eq-eqb _ 3 h.kind; end = production_size_lem h; grows = let e = row_grows (λ p q. element_grows) h.elements in omega arith }

pub type_spans : {t : List ℕ} {p q : ℕ} → TypeAt t p q → Spans (of_kind t 1) (templates_size t) p q
type_spans h = record { is_one = eq-eqb _ 1 (type_kind h); end = type_size h; grows = let e = type_fields h in omega arith }

pub template_spans : {t : List ℕ} {p q : ℕ} → TemplateAt t p q → Spans (of_kind t 3) (templates_size t) p q
template_spans h = record { is_one = eq-eqb _ 3 h.kind; end = template_size h; grows = let e = node_grows h.body in omega arith }

pub classes_are : (g : List ℕ) → WellSized g → (h : GrammarLaid g) → classes g ≡ heads (grammar_size g) h.class_count 0
unfolding classes grammar_things
classes_are g w h =
    first_row (grammar_sorts g) w h.tail (each_numbered (λ n p q. class_spans) h.classes) (each_numbered (λ n p q. production_spans) h.productions)

pub productions_are : (g : List ℕ) → WellSized g → (h : GrammarLaid g) → productions g ≡ heads (grammar_size g) h.production_count h.middle
unfolding productions grammar_things
productions_are g w h =
    second_row (grammar_sorts g) w h.tail (each_numbered (λ n p q. class_spans) h.classes) (each_numbered (λ n p q. production_spans) h.productions)

pub types_are : (t : List ℕ) → WellSized t → (h : TemplatesLaid t) → types t ≡ heads (templates_size t) h.type_count 0
unfolding types templates_things
types_are t w h =
    first_row (templates_sorts t) w h.tail (each_in_row (λ p q. type_spans) h.types) (each_in_row (λ p q. template_spans) h.templates)

pub templates_are : (t : List ℕ) → WellSized t → (h : TemplatesLaid t) → templates t ≡ heads (templates_size t) h.template_count h.middle
unfolding templates templates_things
templates_are t w h =
    second_row (templates_sorts t) w h.tail (each_in_row (λ p q. type_spans) h.types) (each_in_row (λ p q. template_spans) h.templates)
