-- What follows a head, by the layout: each list of heads that the rules go by is a whole row of what is laid out there, with nothing left out and
-- nothing between; and a class, a production, a type, a template is the one of its number.
use Rattle.std.specs.Prelude.{◌≡◌, refl, ℕ, zero, suc, ◌+◌, ◌*◌, ◌≤◌, List, [], ◌∷◌, map}
use Rattle.std.proofs.Common.{sym, ◌∙◌, ap, subst, arith}
use Rattle.std.proofs.Math.Option.{some, some-injective, none-ne-some}
use Rattle.rules.specs.Faults.{on_found}
use Rattle.rules.specs.Records.{kind_of, field_a, field_b, field_c, field_d, heads, row, nth}
use Rattle.rules.specs.Lexeme.{ranges}
use Rattle.rules.specs.Grammar.{grammar_size, element_size, classes, productions, class, production, Element, element_at, element_heads, elements}
use Rattle.rules.specs.Templates.{templates_size, types, templates, type, template, type_at, type_of, field_heads, parameter_heads, parameters, body, form_of, form_numbered, nodes, paths, path, first, second, nodes_of, nodes_below, arms}
use Rattle.rules.specs.Value.{value_size, children, values_below, content}
use Rattle.theorems.specs.Streams.{WellSized}
use Rattle.theorems.specs.Readings.{ElementIs, element_is}
use Rattle.theorems.specs.LaidOut.{InRow, no_thing, one_thing, Numbered, no_more, one_more, RangeAt, ClassAt, ElementAt, ProductionAt, GrammarLaid, NamingAt, TypeAt, PathAt, NodeAt, NodesAt, no_node, one_node, TemplateAt, TemplatesLaid, ValueAt}
use Rattle.theorems.specs.Sizes.{each_numbered, range_size, class_number, ranges_row, class_size, element_size_lem, production_size_lem, naming_size, type_size, template_size, path_size, node_size, value_size_lem}
use Rattle.theorems.specs.Heads.{classes_are, productions_are, types_are, templates_are}
use Rattle.theorems.specs.Ranges.{AnyClass, AnyProduction, nodes_row, values_row}

-- the things from p up to q by their heads: the first begins at p, each other where the one before it ends, and the last ends at q
pub data HeadsOf (Thing : ℕ → ℕ → Type 0) : List ℕ → ℕ → ℕ → Type 0 where
  no_head : (p : ℕ) → HeadsOf Thing [] p p
  one_head : (p q r : ℕ) (ps : List ℕ) → Thing p q → HeadsOf Thing ps q r → HeadsOf Thing (p ∷ ps) p r

-- the elements whose heads are listed, one for each, in order
pub data Elements (g : List ℕ) : List ℕ → List Element → Type 0 where
  no_element : Elements g [] []
  one_element : (e : ℕ) (es : List ℕ) (x : Element) (xs : List Element) → ElementIs g e x → Elements g es xs → Elements g (e ∷ es) (x ∷ xs)

-- the types that the records listed name, one for each, in order
pub data Named (t : List ℕ) : List ℕ → List ℕ → Type 0 where
  no_name : Named t [] []
  one_name : (p : ℕ) (ps ns : List ℕ) → Named t ps ns → Named t (p ∷ ps) (field_b t p ∷ ns)

pub record GrammarFollows (g : List ℕ) (h : GrammarLaid g) : Type 0 where
  -- "Grammar, classes first."
  pub all_classes : HeadsOf (AnyClass g) (classes g) 0 h.middle
  pub all_productions : HeadsOf (AnyProduction g) (productions g) h.middle h.end
  -- "a number (from 0, consecutive)"
  pub class_by_order : (n : ℕ) → class g n ≡ nth (classes g) n
  pub production_by_order : (n : ℕ) → production g n ≡ nth (productions g) n
  pub class_numbered : (n p : ℕ) → class g n ≡ some p → field_a g p ≡ n
  -- 02 f: "a holds its low byte and c its high byte"
  pub production_numbered : (n p : ℕ) → production g n ≡ some p → field_a g p + 256 * field_c g p ≡ n
  -- "d count of ranges", "d count of elements"
  pub all_ranges : (n p q : ℕ) → ClassAt g n p q → HeadsOf (RangeAt g) (ranges g p) (p + 1) q
  pub all_elements : (n p q : ℕ) → ProductionAt g n p q → HeadsOf (ElementAt g) (element_heads g p) (p + 1) q
  pub elements_are : (n p q : ℕ) → ProductionAt g n p q → Elements g (element_heads g p) (elements g p)

heads_of : {Thing : ℕ → ℕ → Type 0} (size : ℕ → ℕ) → ((p q : ℕ) → Thing p q → q ≡ p + size p)
    → {n p r : ℕ} → InRow Thing n p r → HeadsOf Thing (heads size n p) p r
unfolding heads
heads_of size h (no_thing p) = no_head p
heads_of {Thing} size h (one_thing n p q r a as') =
    one_head p q r _ a (subst (λ (m : ℕ). HeadsOf Thing (heads size n m) q r) (h p q a) (heads_of size h as'))

row_of : {Thing : ℕ → ℕ → Type 0} → ((p q : ℕ) → Thing p q → q ≡ p + 1) → {n p r : ℕ} → InRow Thing n p r → HeadsOf Thing (row n p) p r
unfolding row
row_of h r = heads_of (λ q. 1) h r

-- entry n of the heads of things numbered from m on has the number m + n
numbered_nth : {Thing : ℕ → ℕ → ℕ → Type 0} (number size : ℕ → ℕ) → ((n p q : ℕ) → Thing n p q → number p ≡ n) → ((n p q : ℕ) → Thing n p q → q ≡ p + size p)
    → {m c p r : ℕ} → Numbered Thing m c p r → (n x : ℕ) → nth (heads size c p) n ≡ some x → number x ≡ m + n
unfolding heads nth
numbered_nth number size f h (no_more m p) n x e = absurd (none-ne-some x e)
numbered_nth number size f h (one_more m c p q r a as') zero x e =
    let i : p ≡ x = some-injective p x e in let k = f m p q a in ap number (sym i) ∙ omega arith
numbered_nth number size f h (one_more m c p q r a as') (suc n) x e =
    let z = h m p q a in
    let k = numbered_nth number size f h as' n x (subst (λ (y : ℕ). nth (heads size c y) n ≡ some x) (sym z) e) in omega arith

elements_of : {g : List ℕ} {ps : List ℕ} {p r : ℕ} → HeadsOf (ElementAt g) ps p r → Elements g ps (map (element_at g) ps)
elements_of (no_head p) = no_element
elements_of {g} (one_head p q r ps a as') = one_element p ps _ _ (element_is g p) (elements_of as')

pub grammar_follows : (g : List ℕ) → WellSized g → (h : GrammarLaid g) → GrammarFollows g h
unfolding class production ranges element_heads elements
grammar_follows g w h = record {
  all_classes = rw (classes_are g w h) (heads_of (grammar_size g) (λ p q a. class_size a.1) (each_numbered (λ n p q a. (n, a)) h.classes));
  all_productions = rw (productions_are g w h) (heads_of (grammar_size g) (λ p q a. production_size_lem a.1) (each_numbered (λ n p q a. (n, a)) h.productions));
  class_by_order = λ n. refl;
  production_by_order = λ n. refl;
  class_numbered = λ n p e.
      numbered_nth (field_a g) (grammar_size g) (λ n p q. class_number) (λ n p q. class_size) h.classes n p
      (subst (λ (l : List ℕ). nth l n ≡ some p) (classes_are g w h) e) ∙ omega arith;
  production_numbered = λ n p e.
      numbered_nth (λ p. field_a g p + 256 * field_c g p) (grammar_size g) (λ n p q a. a.number) (λ n p q. production_size_lem) h.productions n p
      (subst (λ (l : List ℕ). nth l n ≡ some p) (productions_are g w h) e) ∙ omega arith;
  all_ranges = λ n p q a. row_of (λ p q. range_size) (ranges_row a);
  all_elements = λ n p q a. heads_of (element_size g) (λ p q. element_size_lem) a.elements;
  elements_are = λ n p q a. elements_of (heads_of (element_size g) (λ p q. element_size_lem) a.elements);
}

-- "5 node: a form, c size; children follow in order": what follows the head of a node from p up to q, and the nodes below it
pub data NodeFollows (t : List ℕ) (p q : ℕ) : List ℕ → Type 0 where
  -- "0 build (b production, d children ..)", "6 sequence (d nodes)"
  of_build : field_a t p ≡ 0 → HeadsOf (NodeAt t) (nodes t p) (p + 1) q → NodeFollows t p q (nodes t p)
  of_sequence : field_a t p ≡ 6 → HeadsOf (NodeAt t) (nodes t p) (p + 1) q → NodeFollows t p q (nodes t p)
  of_literal : field_a t p ≡ 1 → NodeFollows t p q []
  -- "2 place (a path)", "3 expand (b template, d paths)"
  of_place : field_a t p ≡ 2 → path p ≡ p + 1 → PathAt t (path p) q → NodeFollows t p q []
  of_expand : field_a t p ≡ 3 → HeadsOf (PathAt t) (paths t p) (p + 1) q → NodeFollows t p q []
  -- "4 if (path, two nodes)", "5 for (path, one node)"
  of_if : field_a t p ≡ 4 → path p ≡ p + 1 → PathAt t (path p) (first p) → NodeAt t (first p) (second t p) → NodeAt t (second t p) q
      → NodeFollows t p q (first p ∷ second t p ∷ [])
  of_for : field_a t p ≡ 5 → path p ≡ p + 1 → PathAt t (path p) (first p) → NodeAt t (first p) q → NodeFollows t p q (first p ∷ [])
  -- 02 g: "7 is match: a path, then d nodes"
  of_match : field_a t p ≡ 7 → path p ≡ p + 1 → PathAt t (path p) (first p) → HeadsOf (NodeAt t) (arms t p) (first p) q → NodeFollows t p q (arms t p)

pub record TemplatesFollow (t : List ℕ) (h : TemplatesLaid t) : Type 0 where
  -- "Templates, types first", each "numbered by order"
  pub all_types : HeadsOf (TypeAt t) (types t) 0 h.middle
  pub all_templates : HeadsOf (TemplateAt t) (templates t) h.middle h.end
  pub type_by_order : (n : ℕ) → type t n ≡ nth (types t) n
  pub template_by_order : (n : ℕ) → template t n ≡ nth (templates t) n
  pub type_is_there : (n p : ℕ) → type t n ≡ some p → type_of t n ≡ type_at t p
  -- "3 record of d fields"; 02 g: "a variant with d cases .., one field record each"
  pub all_fields : (p q : ℕ) → TypeAt t p q → HeadsOf (NamingAt t 2) (field_heads t p) (p + 1) q
  -- "then 4 parameter: type b; then one body node"
  pub all_parameters : (p q : ℕ) → TemplateAt t p q → HeadsOf (NamingAt t 4) (parameter_heads t p) (p + 1) (body t p)
  pub parameters_name : (p : ℕ) → Named t (parameter_heads t p) (parameters t p)
  pub one_body : (p q : ℕ) → TemplateAt t p q → NodeAt t (body t p) q
  pub nodes_follow : (p q : ℕ) → NodeAt t p q → NodeFollows t p q (nodes_below t p)

-- "3 list and 4 record: c size, d children."; 02 g: "5 is a case: .. one child": what follows the head of a value from p up to q, and the values below it
pub data ValueFollows (v : List ℕ) (p q : ℕ) : List ℕ → Type 0 where
  of_leaf : kind_of v p ≤ 2 → ValueFollows v p q []
  of_children : 3 ≤ kind_of v p → kind_of v p ≤ 4 → HeadsOf (ValueAt v) (children v p) (p + 1) q → ValueFollows v p q (children v p)
  of_case : kind_of v p ≡ 5 → content p ≡ p + 1 → ValueAt v (content p) q → ValueFollows v p q (content p ∷ [])

pub values_follow : (v : List ℕ) (p q : ℕ) → ValueAt v p q → ValueFollows v p q (values_below v p)
unfolding values_below children content
values_follow v _ _ (ValueAt.a_text p q k a d s z e) = rw k (of_leaf (omega arith))
values_follow v _ _ (ValueAt.a_yes_no p q k a b c d e) = rw k (of_leaf (omega arith))
values_follow v _ _ (ValueAt.a_list p q k a b s vs) = rw k (of_children (omega arith) (omega arith) (heads_of (value_size v) (λ p q. value_size_lem) (values_row vs)))
values_follow v _ _ (ValueAt.a_record p q k a b s vs) = rw k (of_children (omega arith) (omega arith) (heads_of (value_size v) (λ p q. value_size_lem) (values_row vs)))
values_follow v _ _ (ValueAt.a_case p q k b d s x) = rw k (of_case k refl x)

pub fields_row : {t : List ℕ} {p q : ℕ} → TypeAt t p q → InRow (NamingAt t 2) (field_d t p) (p + 1) q
fields_row (TypeAt.a_text p k a c d) = rw d (no_thing (p + 1))
fields_row (TypeAt.a_yes_no p k a b c d) = rw d (no_thing (p + 1))
fields_row (TypeAt.a_list p k a c d) = rw d (no_thing (p + 1))
fields_row (TypeAt.a_record p q k a b c fs) = fs
fields_row (TypeAt.a_variant p q k a b c l m fs) = fs

named_all : (t ps : List ℕ) → Named t ps (map (field_b t) ps)
named_all t [] = no_name
named_all t (p ∷ ps) = one_name p ps _ (named_all t ps)

two_nodes : {t : List ℕ} {p q : ℕ} → NodesAt t 2 p q → NodeAt t p (p + field_c t p) × NodeAt t (p + field_c t p) q
two_nodes {t} (one_node _ p _ _ a (one_node _ _ r _ b (no_node _))) =
    let e = node_size a in (subst (NodeAt t p) e a, subst (λ (x : ℕ). NodeAt t x r) e b)

one_only : {t : List ℕ} {p q : ℕ} → NodesAt t 1 p q → NodeAt t p q
one_only (one_node _ p _ _ a (no_node _)) = a

node_follows : {t : List ℕ} {p q : ℕ} → NodeAt t p q → NodeFollows t p q (nodes_below t p)
unfolding nodes_below form_of form_numbered nodes_of nodes paths path first second arms
node_follows {t} (NodeAt.a_build p q h ns) = rw h.form_is (of_build h.form_is (heads_of (field_c t) (λ p q. node_size) (nodes_row ns)))
node_follows (NodeAt.a_literal p q h d z e) = rw h.form_is (of_literal h.form_is)
node_follows (NodeAt.a_place p q h b d s) = rw h.form_is (of_place h.form_is refl s)
node_follows (NodeAt.an_expand p q h ps) = rw h.form_is (of_expand h.form_is (row_of (λ p q. path_size) ps))
node_follows {t} (NodeAt.an_if p q r h b d s ns) =
    let e : r ≡ p + 2 = s.end ∙ omega arith in
    let (x, y) = two_nodes (subst (λ (m : ℕ). NodesAt t 2 m q) e ns) in
    rw h.form_is (of_if h.form_is refl (subst (PathAt t (p + 1)) e s) x y)
node_follows {t} (NodeAt.a_for p q r h b d s ns) =
    let e : r ≡ p + 2 = s.end ∙ omega arith in
    rw h.form_is (of_for h.form_is refl (subst (PathAt t (p + 1)) e s) (one_only (subst (λ (m : ℕ). NodesAt t 1 m q) e ns)))
node_follows {t} (NodeAt.a_sequence p q h b ns) = rw h.form_is (of_sequence h.form_is (heads_of (field_c t) (λ p q. node_size) (nodes_row ns)))
node_follows {t} (NodeAt.a_match p q r h b s ns) =
    let e : r ≡ p + 2 = s.end ∙ omega arith in
    rw h.form_is (of_match h.form_is refl (subst (PathAt t (p + 1)) e s)
    (heads_of (field_c t) (λ p q. node_size) (nodes_row (subst (λ (m : ℕ). NodesAt t (field_d t p) m q) e ns))))

pub templates_follow : (t : List ℕ) → WellSized t → (h : TemplatesLaid t) → TemplatesFollow t h
unfolding type template type_of on_found field_heads parameter_heads parameters body
templates_follow t w h = record {
  all_types = rw (types_are t w h) (heads_of (templates_size t) (λ p q. type_size) h.types);
  all_templates = rw (templates_are t w h) (heads_of (templates_size t) (λ p q. template_size) h.templates);
  type_by_order = λ n. refl;
  template_by_order = λ n. refl;
  type_is_there = λ n p e. rw e;
  all_fields = λ p q a. row_of (λ p q. naming_size) (fields_row a);
  all_parameters = λ p q a. row_of (λ p q. naming_size) a.parameters;
  parameters_name = λ p. named_all t _;
  one_body = λ p q a. a.body;
  nodes_follow = λ p q a. node_follows a;
}
