-- That each thing of a row, as it is laid out, spans its size.
use Rattle.std.specs.Prelude.{◌≡◌, refl, ℕ, ◌+◌, ◌≤◌, ◌<◌, List, Bool, true, false, eqb, ltb}
use Rattle.std.proofs.Common.{sym, arith}
use borrow.Author.Tests.{eqb-true, eqb-false, eq-eqb, ne_eqb, ltb-true, ltb-false}
use Rattle.rules.specs.Records.{kind_of, field_a, field_b, field_c, field_d, units, after}
use Rattle.rules.specs.Grammar.{is_class, text_length, element_size, production_size, grammar_size}
use Rattle.rules.specs.Templates.{templates_size}
use Rattle.rules.specs.Value.{value_size}
use Rattle.laws.specs.Sorts.{plain_is_class, escaped_is_class, no_class}
use Rattle.theorems.specs.LaidOut.{InRow, no_thing, one_thing, Numbered, no_more, one_more, RangeAt, ClassAt, ElementAt, ProductionAt, NamingAt, TypeAt, PathAt, NodeAt, NodesAt, TemplateAt, ValueAt, ValuesAt}
use Rattle.theorems.specs.LaidOut.ClassAt.{a_plain, an_escaped}
use Rattle.theorems.specs.LaidOut.ElementAt.{a_keyword, a_name, a_separated}

-- Two ways to go on, by a comparison

pub by_equal : {P : Type 0} (a b : ℕ) → (a ≡ b → P) → ((a ≡ b → ⊥) → P) → P
by_equal {P} a b f g = go (eqb a b) refl
  where
    go : (t : Bool) → eqb a b ≡ t → P
    go true e = f (eqb-true a b e)
    go false e = g (eqb-false a b e)

pub by_less : {P : Type 0} (a b : ℕ) → (a < b → P) → (b ≤ a → P) → P
by_less {P} a b f g = go (ltb a b) refl
  where
    go : (t : Bool) → ltb a b ≡ t → P
    go true e = f (ltb-true a b e)
    go false e = g (ltb-false a b e)

-- Rows

-- what holds of each thing of a row
pub each_in_row : {A B : ℕ → ℕ → Type 0} {n p q : ℕ} → ((p q : ℕ) → A p q → B p q) → InRow A n p q → InRow B n p q
each_in_row f (no_thing p) = no_thing p
each_in_row f (one_thing n p q r x xs) = one_thing n p q r (f p q x) (each_in_row f xs)

-- the same where the things are numbered
pub each_numbered : {A : ℕ → ℕ → ℕ → Type 0} {B : ℕ → ℕ → Type 0} {n m p q : ℕ} → ((n p q : ℕ) → A n p q → B p q)
    → Numbered A n m p q → InRow B m p q
each_numbered f (no_more n p) = no_thing p
each_numbered f (one_more n m p q r x xs) = one_thing m p q r (f n p q x) (each_numbered f xs)

-- a row of things ends where their sizes lead
pub row_after : {A : ℕ → ℕ → Type 0} (size : ℕ → ℕ) {n p q : ℕ} → ((p q : ℕ) → A p q → q ≡ p + size p) → InRow A n p q → q ≡ after size n p
unfolding after
row_after size f (no_thing p) = refl
row_after size f (one_thing n p q r x xs) = rw (← f p q x) (row_after size f xs)

-- things of one record each
pub row_of_ones : {A : ℕ → ℕ → Type 0} {n p q : ℕ} → ((p q : ℕ) → A p q → q ≡ p + 1) → InRow A n p q → q ≡ p + n
row_of_ones f (no_thing p) = omega arith
row_of_ones f (one_thing n p q r x xs) = let e = f p q x in let h = row_of_ones f xs in omega arith

-- n things of at least one record each take at least n records
pub row_grows : {A : ℕ → ℕ → Type 0} {n p q : ℕ} → ((p q : ℕ) → A p q → p < q) → InRow A n p q → p + n ≤ q
row_grows f (no_thing p) = omega arith
row_grows f (one_thing n p q r x xs) = let e = f p q x in let h = row_grows f xs in omega arith

-- Each thing spans its size: "Size is the number of records of a thing, head and all below it"

pub range_size : {g : List ℕ} {p q : ℕ} → RangeAt g p q → q ≡ p + 1
range_size r = r.end

pub is_class_lem : {g : List ℕ} {n p q : ℕ} → ClassAt g n p q → is_class g p ≡ true
is_class_lem {g} {p = p} (a_plain k a rs) = plain_is_class g p k
is_class_lem {g} {p = p} (an_escaped k a c d e) = escaped_is_class g p k

pub class_number : {g : List ℕ} {n p q : ℕ} → ClassAt g n p q → field_a g p ≡ n
class_number (a_plain k a rs) = a
class_number (an_escaped k a c d e) = a

-- an escaped class has no ranges
pub ranges_row : {g : List ℕ} {n p q : ℕ} → ClassAt g n p q → InRow (RangeAt g) (field_d g p) (p + 1) q
ranges_row (a_plain k a rs) = rs
ranges_row {p = p} (an_escaped k a c d e) = rw (d, e) (no_thing (p + 1))

pub class_size : {g : List ℕ} {n p q : ℕ} → ClassAt g n p q → q ≡ p + grammar_size g p
unfolding grammar_size
class_size h = let e = row_of_ones (λ p q. range_size) (ranges_row h) in rw (is_class_lem h) (omega arith)

-- the bytes of text after an element, by its form
module _ (g : List ℕ) (p : ℕ) where
  pub keyword_text : field_a g p ≡ 0 → text_length g p ≡ field_b g p
  unfolding text_length
  keyword_text a = rw (eq-eqb _ 0 a)

  pub name_text : 1 ≤ field_a g p → field_a g p ≤ 3 → text_length g p ≡ 0
  unfolding text_length
  name_text l m = rw (ne_eqb (field_a g p) 0 (λ e. omega arith), ne_eqb (field_a g p) 4 (λ e. omega arith))

  pub separator_text : field_a g p ≡ 4 → text_length g p ≡ field_c g p
  unfolding text_length
  separator_text a = rw (ne_eqb (field_a g p) 0 (λ e. omega arith), eq-eqb _ 4 a)

pub element_size_lem : {g : List ℕ} {p q : ℕ} → ElementAt g p q → q ≡ p + element_size g p
unfolding element_size units
element_size_lem {g} (a_keyword p h a c z) = rw (keyword_text g p a) (omega arith)
element_size_lem {g} (a_name p h l m c) = rw (name_text g p l m) (omega arith)
element_size_lem {g} (a_separated p h a z) = rw (separator_text g p a) (omega arith)

pub element_grows : {g : List ℕ} {p q : ℕ} → ElementAt g p q → p < q
element_grows (a_keyword p h a c z) = omega arith
element_grows (a_name p h l m c) = omega arith
element_grows (a_separated p h a z) = omega arith

pub production_size_lem : {g : List ℕ} {n p q : ℕ} → ProductionAt g n p q → q ≡ p + grammar_size g p
unfolding grammar_size production_size
production_size_lem {g} {n} {p} {q} h =
    let e = row_after (element_size g) (λ p q. element_size_lem) h.elements in
    let l = row_grows (λ p q. element_grows) h.elements in
    let z = h.kind in
    rw (no_class g p (λ k. omega arith) (λ k. omega arith)) (omega arith)

pub naming_size : {t : List ℕ} {kind : ℕ} {p q : ℕ} → NamingAt t kind p q → q ≡ p + 1
naming_size h = h.end

pub type_kind : {t : List ℕ} {p q : ℕ} → TypeAt t p q → kind_of t p ≡ 1
type_kind (TypeAt.a_text p k a c d) = k
type_kind (TypeAt.a_yes_no p k a b c d) = k
type_kind (TypeAt.a_list p k a c d) = k
type_kind (TypeAt.a_record p q k a b c fs) = k
type_kind (TypeAt.a_variant p q k a b c l m fs) = k

pub type_fields : {t : List ℕ} {p q : ℕ} → TypeAt t p q → q ≡ p + (1 + field_d t p)
type_fields (TypeAt.a_text p k a c d) = omega arith
type_fields (TypeAt.a_yes_no p k a b c d) = omega arith
type_fields (TypeAt.a_list p k a c d) = omega arith
type_fields (TypeAt.a_record p q k a b c fs) = let e = row_of_ones (λ p q. naming_size) fs in omega arith
type_fields (TypeAt.a_variant p q k a b c l m fs) = let e = row_of_ones (λ p q. naming_size) fs in omega arith

pub type_size : {t : List ℕ} {p q : ℕ} → TypeAt t p q → q ≡ p + templates_size t p
unfolding templates_size
type_size h = rw (eq-eqb _ 1 (type_kind h)) (type_fields h)

pub template_size : {t : List ℕ} {p q : ℕ} → TemplateAt t p q → q ≡ p + templates_size t p
unfolding templates_size
template_size {t} {p} h = rw (ne_eqb (kind_of t p) 1 (λ k. let z = h.kind in omega arith)) (sym h.size)

pub path_size : {t : List ℕ} {p q : ℕ} → PathAt t p q → q ≡ p + 1
path_size h = h.end

pub node_size : {t : List ℕ} {p q : ℕ} → NodeAt t p q → q ≡ p + field_c t p
node_size (NodeAt.a_build p q h ns) = sym h.size
node_size (NodeAt.a_literal p q h d z e) = sym h.size
node_size (NodeAt.a_place p q h b d s) = sym h.size
node_size (NodeAt.an_expand p q h ps) = sym h.size
node_size (NodeAt.an_if p q r h b d s ns) = sym h.size
node_size (NodeAt.a_for p q r h b d s ns) = sym h.size
node_size (NodeAt.a_sequence p q h b ns) = sym h.size
node_size (NodeAt.a_match p q r h b s ns) = sym h.size

-- a node takes a record at least, and so does a value
mutual
  pub node_grows : {t : List ℕ} {p q : ℕ} → NodeAt t p q → p < q
  node_grows (NodeAt.a_build p q h ns) = let l = nodes_grow ns in omega arith
  node_grows (NodeAt.a_literal p q h d z e) = omega arith
  node_grows (NodeAt.a_place p q h b d s) = let e = s.end in omega arith
  node_grows (NodeAt.an_expand p q h ps) = let e = row_of_ones (λ p q. path_size) ps in omega arith
  node_grows (NodeAt.an_if p q r h b d s ns) = let l = nodes_grow ns in let e = s.end in omega arith
  node_grows (NodeAt.a_for p q r h b d s ns) = let l = nodes_grow ns in let e = s.end in omega arith
  node_grows (NodeAt.a_sequence p q h b ns) = let l = nodes_grow ns in omega arith
  node_grows (NodeAt.a_match p q r h b s ns) = let l = nodes_grow ns in let e = s.end in omega arith

  pub nodes_grow : {t : List ℕ} {n p q : ℕ} → NodesAt t n p q → p + n ≤ q
  nodes_grow (NodesAt.no_node p) = omega arith
  nodes_grow (NodesAt.one_node n p q r x xs) = let l = node_grows x in let m = nodes_grow xs in omega arith

pub value_size_lem : {v : List ℕ} {p q : ℕ} → ValueAt v p q → q ≡ p + value_size v p
unfolding value_size
value_size_lem {v} (ValueAt.a_text p q k a d s z e) = rw (ne_eqb (kind_of v p) 2 (λ i. omega arith)) (sym s)
value_size_lem {v} (ValueAt.a_yes_no p q k a b c d e) = rw (eq-eqb (kind_of v p) 2 k) e
value_size_lem {v} (ValueAt.a_list p q k a b s vs) = rw (ne_eqb (kind_of v p) 2 (λ i. omega arith)) (sym s)
value_size_lem {v} (ValueAt.a_record p q k a b s vs) = rw (ne_eqb (kind_of v p) 2 (λ i. omega arith)) (sym s)
value_size_lem {v} (ValueAt.a_case p q k b d s x) = rw (ne_eqb (kind_of v p) 2 (λ i. omega arith)) (sym s)

mutual
  pub value_grows : {v : List ℕ} {p q : ℕ} → ValueAt v p q → p < q
  value_grows (ValueAt.a_text p q k a d s z e) = omega arith
  value_grows (ValueAt.a_yes_no p q k a b c d e) = omega arith
  value_grows (ValueAt.a_list p q k a b s vs) = let l = values_grow vs in omega arith
  value_grows (ValueAt.a_record p q k a b s vs) = let l = values_grow vs in omega arith
  value_grows (ValueAt.a_case p q k b d s x) = let l = value_grows x in omega arith

  pub values_grow : {v : List ℕ} {n p q : ℕ} → ValuesAt v n p q → p + n ≤ q
  values_grow (ValuesAt.no_value p) = omega arith
  values_grow (ValuesAt.one_value n p q r x xs) = let l = value_grows x in let m = values_grow xs in omega arith
