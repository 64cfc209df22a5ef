-- Where the things of streams that are laid out stand: one after the other, and nodes below nodes and values below values, each from its head up to its end.
use Rattle.std.specs.Prelude.{◌≡◌, refl, ℕ, ◌+◌, ◌≤◌, List, [], ◌∷◌, map, Bool, true, false, eqb}
use Rattle.std.proofs.Common.{sym, ◌∙◌, subst, arith, eqb-true, ne_eqb, le-leb}
use Rattle.std.proofs.Math.Option.{Option, none, some}
use Rattle.rules.specs.Faults.{on_found, only_if}
use Rattle.rules.specs.Records.{kind_of, field_c, heads, nth}
use Rattle.rules.specs.Templates.{templates_size, types, templates, TypeForm, text, yes_no, list, fields, cases, no_type, type_of, form_numbered, form_of, nodes, first, second, arms, nodes_of, nodes_below}
use Rattle.rules.specs.Value.{value_size, children, content, values_below, as_list, as_record, as_case}
use Rattle.rules.specs.Limits.{Looped, looped, looped_below}
use Rattle.rules.specs.Grammar.{grammar_size, classes, production, productions}
use Rattle.rules.specs.Typing.{asks_nonterminal, asks_repetition, asks_item, item_type, case_types, path_type, Site, site, sites, arm_sites, sites_of, sites_below, Typed, typed, paired, typed_of, typed_below}
use Rattle.rules.specs.declared.Form.{Form}
use Rattle.rules.specs.declared.Form.TheVariants.{Build, Literal, Place, Expand, If, For, Sequence, Match, Unknown}
use Rattle.rules.specs.declared.Position.{Position}
use Rattle.rules.specs.declared.Position.TheVariants.{Nonterminal, Item}
use Rattle.laws.specs.Faults.{In, here, later, Below, itself, under}
use Rattle.theorems.specs.Streams.{WellSized}
use Rattle.theorems.specs.LaidOut.{InRow, no_thing, one_thing, ClassAt, ProductionAt, GrammarLaid, TypeAt, TemplateAt, TemplatesLaid, PathAt, NodeAt, a_build, a_literal, a_place, an_expand, an_if, a_for, a_sequence, a_match, NodesAt, no_node, one_node, ValueAt, a_text, a_yes_no, a_list, a_record, a_case, ValuesAt, no_value, one_value}
use Rattle.theorems.specs.Sizes.{row_grows, each_numbered, class_size, production_size_lem, type_size, template_size, path_size, node_size, node_grows, value_size_lem, value_grows}
use Rattle.theorems.specs.Heads.{classes_are, productions_are, types_are, templates_are}
use Rattle.theorems.specs.Least.{Rows, no_row, one_row, rows_ordered, rows_wide, From, rows_heads, Standing}

-- the places of xs are the first of ps, in order
pub data Leading {A : Type 0} (place : A → ℕ) : List A → List ℕ → Type 0 where
  stops : (ps : List ℕ) → Leading place [] ps
  goes_on : (x : A) (xs : List A) (p : ℕ) (ps : List ℕ) → place x ≡ p → Leading place xs ps → Leading place (x ∷ xs) (p ∷ ps)

pub leading_map : {A : Type 0} (place : A → ℕ) (f : ℕ → A) → ((p : ℕ) → place (f p) ≡ p) → (ps : List ℕ) → Leading place (map f ps) ps
leading_map place f e [] = stops []
leading_map place f e (p ∷ ps) = goes_on (f p) (map f ps) p ps (e p) (leading_map place f e ps)

in_leading : {A : Type 0} {place : A → ℕ} {x : A} {xs : List A} {ps : List ℕ} → In x xs → Leading place xs ps → In (place x) ps
in_leading {place = place} (here ys) (goes_on x xs p ps e a) = subst (λ (q : ℕ). In (place x) (q ∷ ps)) e (here ps)
in_leading (later y ys i) (goes_on x xs p ps e a) = later p ps (in_leading i a)

-- A tree over another: what is directly below a head has the first places directly below the head's place. Then all below it has places below its place.
pub below_leading : {A : Type 0} (place : A → ℕ) (below : A → List A) (beneath : ℕ → List ℕ) → ((x : A) → Leading place (below x) (beneath (place x)))
    → {x y : A} {d : ℕ} → Below below x d y → Below beneath (place x) d (place y)
below_leading place below beneath h (itself x) = itself (place x)
below_leading place below beneath h (under x c y d i b) = under (place x) (place c) (place y) d (in_leading i (h x)) (below_leading place below beneath h b)

-- things stand where their places do
pub rows_leading : {A : Type 0} {place : A → ℕ} {Stands : ℕ → ℕ → ℕ → Type 0} → ((p lo hi : ℕ) → Stands p lo hi → lo ≤ hi)
    → {xs : List A} {ps : List ℕ} {lo hi : ℕ} → Leading place xs ps → Rows Stands ps lo hi → Rows (λ x. Stands (place x)) xs lo hi
rows_leading o {lo = lo} {hi = hi} (stops ps) r = no_row lo hi (rows_ordered o r)
rows_leading {Stands = Stands} o (goes_on x xs p ps e as') (one_row y ys lo b c hi l a r) =
    one_row x xs lo b c hi l (subst (λ (z : ℕ). Stands z b c) (sym e) a) (rows_leading o as' r)

-- a tree over another stands where that one does
pub standing_leading : {A : Type 0} (place : A → ℕ) (below : A → List A) (beneath : ℕ → List ℕ) → ((x : A) → Leading place (below x) (beneath (place x)))
    → {Stands : ℕ → ℕ → ℕ → Type 0} → Standing beneath (λ p. p) Stands → Standing below place (λ x. Stands (place x))
standing_leading place below beneath h s = record {
  head = λ a. s.head a;
  size = λ a. s.size a;
  rest = λ {x} a. rows_leading (λ p lo hi b. let z = s.size b in omega arith) (h x) (s.rest a);
}

-- the classes, productions, types and templates of streams that are laid out
abbrev pub AnyClass : List ℕ → ℕ → ℕ → Type 0
AnyClass g p q = (n : ℕ) × ClassAt g n p q

abbrev pub AnyProduction : List ℕ → ℕ → ℕ → Type 0
AnyProduction g p q = (n : ℕ) × ProductionAt g n p q

pub class_rows : {g : List ℕ} → WellSized g → (h : GrammarLaid g) → Rows (From (AnyClass g)) (classes g) 0 h.middle
class_rows {g} w h = rw (classes_are g w h) (rows_heads (grammar_size g) (λ p q a. class_size a.1) (each_numbered (λ n p q a. (n, a)) h.classes))

pub production_rows : {g : List ℕ} → WellSized g → (h : GrammarLaid g) → Rows (From (AnyProduction g)) (productions g) h.middle h.end
production_rows {g} w h =
    rw (productions_are g w h) (rows_heads (grammar_size g) (λ p q a. production_size_lem a.1) (each_numbered (λ n p q a. (n, a)) h.productions))

pub type_rows : {t : List ℕ} → WellSized t → (h : TemplatesLaid t) → Rows (From (TypeAt t)) (types t) 0 h.middle
type_rows {t} w h = rw (types_are t w h) (rows_heads (templates_size t) (λ p q. type_size) h.types)

pub template_rows : {t : List ℕ} → WellSized t → (h : TemplatesLaid t) → Rows (From (TemplateAt t)) (templates t) h.middle h.end
template_rows {t} w h = rw (templates_are t w h) (rows_heads (templates_size t) (λ p q. template_size) h.templates)

-- Nodes
pub nodes_row : {t : List ℕ} {n p q : ℕ} → NodesAt t n p q → InRow (NodeAt t) n p q
nodes_row (no_node p) = no_thing p
nodes_row (one_node n p q r a as') = one_thing n p q r a (nodes_row as')

nodes_rows : {t : List ℕ} {n p q : ℕ} → NodesAt t n p q → Rows (From (NodeAt t)) (heads (field_c t) n p) p q
nodes_rows {t} ns = rows_heads (field_c t) (λ p q. node_size) (nodes_row ns)

after_path : {t : List ℕ} {n q r : ℕ} (p : ℕ) → PathAt t (p + 1) r → NodesAt t n r q → Rows (From (NodeAt t)) (heads (field_c t) n (p + 2)) (p + 1) q
after_path {t} {n} {q} {r} p a ns =
    let e : r ≡ p + 2 = a.end ∙ omega arith in
    rows_wide (p + 1) (omega arith) (subst (λ (m : ℕ). Rows (From (NodeAt t)) (heads (field_c t) n m) r q) e (nodes_rows ns))

-- what stands directly below a node
node_rest : {t : List ℕ} {p q : ℕ} → NodeAt t p q → Rows (From (NodeAt t)) (nodes_below t p) (p + 1) q
unfolding nodes_below form_of form_numbered nodes_of nodes first second arms heads
node_rest (a_build p q h ns) = rw h.form_is (nodes_rows ns)
node_rest (a_literal p q h d z e) = rw h.form_is (no_row (p + 1) q (omega arith))
node_rest (a_place p q h b d r) = rw h.form_is (no_row (p + 1) q (let e = r.end in omega arith))
node_rest (an_expand p q h rs) = rw h.form_is (no_row (p + 1) q (let l = row_grows (λ p q a. let e = path_size a in omega arith) rs in omega arith))
node_rest (an_if p q r h b d a ns) = rw h.form_is (after_path p a ns)
node_rest (a_for p q r h b d a ns) = rw h.form_is (after_path p a ns)
node_rest (a_sequence p q h b ns) = rw h.form_is (nodes_rows ns)
node_rest (a_match p q r h b a ns) = rw h.form_is (after_path p a ns)

pub nodes_standing : (t : List ℕ) → Standing (nodes_below t) (λ p. p) (From (NodeAt t))
nodes_standing t = record {
  head = λ a. a.0;
  size = λ a. node_grows a.1;
  rest = λ {x} {lo} {hi} a. subst (λ (p : ℕ). Rows (From (NodeAt t)) (nodes_below t p) (lo + 1) hi) (sym a.0) (node_rest a.1);
}

-- Values
pub values_row : {v : List ℕ} {n p q : ℕ} → ValuesAt v n p q → InRow (ValueAt v) n p q
values_row (no_value p) = no_thing p
values_row (one_value n p q r a as') = one_thing n p q r a (values_row as')

values_rows : {v : List ℕ} {n p q : ℕ} → ValuesAt v n p q → Rows (From (ValueAt v)) (heads (value_size v) n p) p q
values_rows {v} ws = rows_heads (value_size v) (λ p q. value_size_lem) (values_row ws)

-- what stands directly below a value
value_rest : {v : List ℕ} {p q : ℕ} → ValueAt v p q → Rows (From (ValueAt v)) (values_below v p) (p + 1) q
unfolding values_below children content heads
value_rest (a_text p q k a d c z e) = rw k (no_row (p + 1) q (omega arith))
value_rest (a_yes_no p q k a b c d e) = rw k (no_row (p + 1) q (omega arith))
value_rest (a_list p q k a b c ws) = rw k (values_rows ws)
value_rest (a_record p q k a b c ws) = rw k (values_rows ws)
value_rest {v} (a_case p q k b d c x) = rw k (values_rows (one_value 0 (p + 1) q q x (no_value q)))

pub values_standing : (v : List ℕ) → Standing (values_below v) (λ p. p) (From (ValueAt v))
values_standing v = record {
  head = λ a. a.0;
  size = λ a. value_grows a.1;
  rest = λ {x} {lo} {hi} a. subst (λ (p : ℕ). Rows (From (ValueAt v)) (values_below v p) (lo + 1) hi) (sym a.0) (value_rest a.1);
}

-- Trees over the nodes: the nodes with the loops around them, and the nodes with their positions and variables
pub looped_leading : (t : List ℕ) (x : Looped) → Leading (λ x. x.node) (looped_below t x) (nodes_below t x.node)
unfolding looped_below looped
looped_leading t x = leading_map (λ x. x.node) _ (λ p. refl) _

leading_found : {A B : Type 0} {place : A → ℕ} (o : Option B) (f : B → List A) {ps : List ℕ} → ((b : B) → Leading place (f b) ps)
    → Leading place (on_found o [] f) ps
unfolding on_found
leading_found none f h = stops _
leading_found (some b) f h = h b

leading_sites : (vars : List ℕ) (as' : List Position) (ps : List ℕ) → Leading (λ x. x.node) (sites vars as' ps) ps
unfolding sites site
leading_sites vars [] ps = stops ps
leading_sites vars (a ∷ as') [] = stops []
leading_sites vars (a ∷ as') (p ∷ ps) = goes_on _ _ p ps refl (leading_sites vars as' ps)

leading_arms : (vars : List ℕ) (at : Position) (tys ps : List ℕ) → Leading (λ x. x.node) (arm_sites vars at tys ps) ps
unfolding arm_sites site
leading_arms vars at [] ps = stops ps
leading_arms vars at (ty ∷ tys) [] = stops []
leading_arms vars at (ty ∷ tys) (p ∷ ps) = goes_on _ _ p ps refl (leading_arms vars at tys ps)

sites_of_lem : (g t : List ℕ) (f : Form) (x : Site) → Leading (λ x. x.node) (sites_of g t f x) (nodes_of t f x.node)
unfolding sites_of nodes_of site
sites_of_lem g t Build x = leading_found (production g _) _ (λ q. leading_sites x.vars _ _)
sites_of_lem g t Literal x = stops []
sites_of_lem g t Place x = stops []
sites_of_lem g t Expand x = stops []
sites_of_lem g t If x = leading_found (asks_nonterminal _) _ (λ n. leading_map (λ x. x.node) (site x.vars (Nonterminal n)) (λ p. refl) _)
sites_of_lem g t For x =
    leading_found (asks_item _) _ λ n. leading_found (path_type t _ _) _ λ ty. leading_found (item_type _) _ λ item.
    goes_on _ [] _ [] refl (stops [])
sites_of_lem g t Sequence x = leading_found (asks_repetition _) _ (λ n. leading_map (λ x. x.node) (site x.vars (Item n)) (λ p. refl) _)
sites_of_lem g t Match x =
    leading_found (asks_nonterminal _) _ λ n. leading_found (path_type t _ _) _ λ ty. leading_found (case_types _) _ λ tys.
    leading_arms x.vars (Nonterminal n) tys _
sites_of_lem g t Unknown x = stops []

pub sites_leading : (g t : List ℕ) (x : Site) → Leading (λ x. x.node) (sites_below g t x) (nodes_below t x.node)
unfolding sites_below nodes_below
sites_leading g t x = sites_of_lem g t (form_of t x.node) x

-- Of the values: the values with the types that they should have
leading_paired : (tys ws : List ℕ) → Leading (λ x. x.value) (paired tys ws) ws
unfolding paired typed
leading_paired [] ws = stops ws
leading_paired (ty ∷ tys) [] = stops []
leading_paired (ty ∷ tys) (w ∷ ws) = goes_on _ _ w ws refl (leading_paired tys ws)

leading_if : {A B : Type 0} {place : A → ℕ} (b : Bool) (ws : B) (f : B → List A) {ps : List ℕ} → (b ≡ true → Leading place (f ws) ps)
    → Leading place (on_found (only_if b ws) [] f) ps
unfolding on_found only_if
leading_if true ws f h = h refl
leading_if false ws f h = stops _

has_children : (v : List ℕ) (w kind : ℕ) → 3 ≤ kind → kind ≤ 4 → eqb (kind_of v w) kind ≡ true → values_below v w ≡ children v w
unfolding values_below
has_children v w kind l m e =
    let k = eqb-true (kind_of v w) kind e in rw (ne_eqb (kind_of v w) 5 (λ z. omega arith), le-leb 3 (kind_of v w) (omega arith))

has_content : (v : List ℕ) (w : ℕ) → eqb (kind_of v w) 5 ≡ true → values_below v w ≡ content w ∷ []
unfolding values_below
has_content v w e = rw e

typed_of_lem : (v : List ℕ) (f : TypeForm) (w : ℕ) → Leading (λ x. x.value) (typed_of v f w) (values_below v w)
unfolding typed_of typed as_list as_record as_case
typed_of_lem v (text c) w = stops _
typed_of_lem v yes_no w = stops _
typed_of_lem v (list ty) w =
    leading_if (eqb (kind_of v w) 3) _ _ λ e. rw (has_children v w 3 (omega arith) (omega arith) e) (leading_map (λ x. x.value) (typed ty) (λ p. refl) _)
typed_of_lem v (fields tys) w = leading_if (eqb (kind_of v w) 4) _ _ λ e. rw (has_children v w 4 (omega arith) (omega arith) e) (leading_paired tys _)
typed_of_lem v (cases tys) w =
    leading_if (eqb (kind_of v w) 5) _ _ λ e. rw (has_content v w e) (leading_found (nth tys _) _ λ ty. goes_on _ [] _ [] refl (stops []))
typed_of_lem v no_type w = stops _

pub typed_leading : (t v : List ℕ) (x : Typed) → Leading (λ x. x.value) (typed_below t v x) (values_below v x.value)
unfolding typed_below
typed_leading t v x = typed_of_lem v (type_of t x.type) x.value
