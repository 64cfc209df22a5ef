-- The first place of refusal 5: each check of names answers the first record that names what isn't there.
-- (In proofs/, as it rests on definitions that a must-fail edit changes.)
use Rattle.std.specs.Prelude.{◌≡◌, refl, ◌⊎◌, ℕ, suc, ◌+◌, List, [], ◌∷◌, false, ltb}
use Rattle.std.proofs.Common.{sym, subst, inl, inr, arith, ltb-false, le-ltb}
use Rattle.std.proofs.Math.Option.{none, some}
use Rattle.rules.specs.Faults.{need, every, tree, exists}
use Rattle.rules.specs.Records.{field_a, field_b, nth, numbered}
use Rattle.rules.specs.Grammar.{element_size, classes, class, productions, element_at, element_heads, nonterminal_exists}
use Rattle.rules.specs.Templates.{type, types, type_at, field_heads, templates, form_of, parameter_heads, body, nodes_below}
use Rattle.rules.specs.Limits.{deepest, templates_limits}
use Rattle.rules.specs.Names.{element_named, class_named, grammar_names, type_named, type_names, node_named, template_names, templates_names}
use Rattle.laws.specs.Faults.{In, here, later, exists_iff}
use Rattle.theorems.specs.Streams.{WellSized}
use Rattle.theorems.specs.LaidOut.{GrammarLaid, TypeAt, TemplateAt, TemplatesLaid}
use Rattle.theorems.specs.Sizes.{element_size_lem, element_grows}
use Rattle.theorems.specs.Heads.{class_spans}
use Rattle.theorems.specs.Follows.{fields_row}
use Rattle.theorems.specs.LimitsExactly.{nonterminal_iff, element_names, class_names, type_names_lem, node_names, numbered_in}
use Rattle.theorems.specs.Least.{First, Least, first_same, least_same, least_wide, least_need, rows_heads, Some, Fails, failing}
use Rattle.theorems.proofs.Least.{least_both, least_every, least_heads, least_tests, least_shallow}
use Rattle.theorems.specs.Ranges.{AnyProduction, class_rows, production_rows, type_rows, template_rows, Leading, stops, goes_on, rows_leading, nodes_standing}
use Rattle.theorems.specs.Offences.{GrammarUnnamed, by_class, by_element, TypeUnnamed, by_type, by_field, TemplateUnnamed, by_template, by_parameter, by_node, TemplatesUnnamed, in_type, in_template}
use Rattle.theorems.specs.FirstOffending.{fails_iff, at_itself}
use Rattle.theorems.proofs.FirstOffending.{least_row, node_shallow}

-- Of a class: its own test
abbrev ClassIn : List ℕ → ℕ × ℕ → ℕ → Type 0
ClassIn g x q = (q ≡ x.1) × (class_named g x ≡ false)

numbered_leading : (n : ℕ) (ps : List ℕ) → Leading {A = ℕ × ℕ} (λ x. x.1) (numbered n ps) ps
unfolding numbered
numbered_leading n [] = stops []
numbered_leading n (p ∷ ps) = goes_on (n, p) (numbered (suc n) ps) p ps refl (numbered_leading (suc n) ps)

in_numbered : (m : ℕ) (ps : List ℕ) {x : ℕ × ℕ} → In x (numbered m ps) → (j : ℕ) × (x.0 ≡ m + j) × (nth ps j ≡ some x.1)
unfolding numbered nth
in_numbered m [] x3 = elim x3 [ ]
in_numbered m (p ∷ ps) (here xs) = (0, omega arith, refl)
in_numbered m (p ∷ ps) (later y xs i) = let r = in_numbered (suc m) ps i in (suc r.0, omega arith, r.2)

numbered_from_0 : (ps : List ℕ) {n p : ℕ} → In (n, p) (numbered 0 ps) → nth ps n ≡ some p
numbered_from_0 ps {n} i = let r = in_numbered 0 ps i in rw (let z : n ≡ r.0 = omega arith in z) r.2

from_0_numbered : (ps : List ℕ) (n p : ℕ) → nth ps n ≡ some p → In (n, p) (numbered 0 ps)
from_0_numbered ps n p e = subst (λ (m : ℕ). In (m, p) (numbered 0 ps)) (let z : 0 + n ≡ n = omega arith in z) (numbered_in 0 ps n p e)

least_classes : (g : List ℕ) → WellSized g → (h : GrammarLaid g)
    → Least (Some (numbered 0 (classes g)) (ClassIn g)) 0 h.middle (every (λ c. need (class_named g c) c.1) (numbered 0 (classes g)))
least_classes g w h =
    least_every (ClassIn g) (λ c. need (class_named g c) c.1)
    (λ x lo hi i a. let e = a.0 in let l = (class_spans a.1.1).grows in least_wide (omega arith) (omega arith) (least_need (class_named g x) x.1))
    (rows_leading (λ p lo hi a. let l = (class_spans a.1.1).grows in omega arith) (numbered_leading 0 (classes g)) (class_rows w h))

-- of a production: its elements' tests
abbrev ElementIn : List ℕ → ℕ → ℕ → Type 0
ElementIn g p q = In q (element_heads g p) × (element_named g (element_at g q) ≡ false)

least_elements : (g : List ℕ) (p q : ℕ) → AnyProduction g p q
    → Least (ElementIn g p) p q (every (λ e. need (element_named g (element_at g e)) e) (element_heads g p))
unfolding element_heads
least_elements g p q (n, a) =
    least_wide (omega arith) (omega arith)
    (least_tests (λ p q. element_grows) (λ e. element_named g (element_at g e)) (rows_heads (element_size g) (λ p q. element_size_lem) a.elements))

abbrev GrammarIn : List ℕ → ℕ → Type 0
GrammarIn g q = Some (numbered 0 (classes g)) (ClassIn g) q ⊎ Some (productions g) (ElementIn g) q

grammar_unnamed : (g : List ℕ) (q : ℕ) → GrammarIn g q → GrammarUnnamed g q
unfolding class
grammar_unnamed g q (inl ((n, p), i, (e, b))) =
    subst (GrammarUnnamed g) (sym e) (by_class n p (numbered_from_0 (classes g) i) ((fails_iff _ (class_names g n p)).0 b))
grammar_unnamed g q (inr (p, i, (j, b))) = by_element p q i j ((fails_iff _ (element_names g (element_at g q))).0 b)

unnamed_grammar : (g : List ℕ) (q : ℕ) → GrammarUnnamed g q → GrammarIn g q
unfolding class
unnamed_grammar g q (by_class n p e m) = inl ((n, p), from_0_numbered (classes g) n p e, (refl, (fails_iff _ (class_names g n p)).1 m))
unnamed_grammar g q (by_element p e i j n) = inr (p, i, (j, (fails_iff _ (element_names g (element_at g e))).1 n))

pub first_grammar_unnamed : (g : List ℕ) → WellSized g → GrammarLaid g → First (GrammarUnnamed g) (grammar_names g)
unfolding grammar_names
first_grammar_unnamed g w h =
    first_same (λ q. (grammar_unnamed g q, unnamed_grammar g q))
    (least_both (least_classes g w h) (least_heads (ElementIn g) _ (λ p q i. least_elements g p q) (production_rows w h))).first

-- of a type: its own test, and then its fields'
abbrev TypeIn : List ℕ → List ℕ → ℕ → ℕ → ℕ → Type 0
TypeIn g t n p q = ((q ≡ p) × (type_named g t (type_at t p) ≡ false)) ⊎ (In q (field_heads t p) × (ltb (field_b t q) n ≡ false))

type_unnamed : (g t : List ℕ) (n p q : ℕ) → TypeIn g t n p q → TypeUnnamed g t n p q
type_unnamed g t n p q (inl (e, b)) = subst (TypeUnnamed g t n p) (sym e) (by_type ((fails_iff _ (type_names_lem g t (type_at t p))).0 b))
type_unnamed g t n p q (inr (i, b)) = by_field q i (ltb-false _ _ b)

unnamed_type : (g t : List ℕ) (n p q : ℕ) → TypeUnnamed g t n p q → TypeIn g t n p q
unnamed_type g t n p q (by_type b) = inl (refl, (fails_iff _ (type_names_lem g t (type_at t p))).1 b)
unnamed_type g t n p q (by_field f i l) = inr (i, le-ltb _ _ l)

least_type : (g t : List ℕ) (n p q : ℕ) → TypeAt t p q → Least (TypeUnnamed g t n p) p q (type_names g t (n, p))
unfolding type_names field_heads
least_type g t n p q a =
    least_same (λ q. (type_unnamed g t n p q, unnamed_type g t n p q))
    (least_both (least_need _ p) (least_row (λ p q f. f.end) (λ f. ltb (field_b t f) n) (fields_row a)))

least_types : (g t : List ℕ) → WellSized t → (h : TemplatesLaid t)
    → Least (Some (numbered 0 (types t)) (λ x. TypeUnnamed g t x.0 x.1)) 0 h.middle (every (type_names g t) (numbered 0 (types t)))
least_types g t w h =
    least_every (λ x. TypeUnnamed g t x.0 x.1) (type_names g t)
    (λ x lo hi i a. subst (λ (p : ℕ). Least (TypeUnnamed g t x.0 p) lo hi (type_names g t (x.0, p))) (sym a.0) (least_type g t x.0 lo hi a.1))
    (rows_leading (λ p lo hi a. (least_type g t 0 lo hi a.1).ordered) (numbered_leading 0 (types t)) (type_rows w h))

-- of a template: its own test, its parameters' and its nodes'
abbrev TemplateIn : List ℕ → List ℕ → ℕ → ℕ → Type 0
TemplateIn g t p q =
    ((q ≡ p) × (nonterminal_exists g (field_b t p) ≡ false))
    ⊎ ((In q (parameter_heads t p) × (exists (type t (field_b t q)) ≡ false)) ⊎ Fails (node_named g t) (nodes_below t) (λ w. w) (body t p) q)

template_unnamed : (g t : List ℕ) (p q : ℕ) → TemplateIn g t p q → TemplateUnnamed g t p q
unfolding node_named
template_unnamed g t p q (inl (e, b)) = subst (TemplateUnnamed g t p) (sym e) (by_template ((fails_iff _ (nonterminal_iff g _)).0 b))
template_unnamed g t p q (inr (inl (i, b))) = by_parameter q i ((fails_iff _ (exists_iff _)).0 b)
template_unnamed g t p q (inr (inr (failing d y b e))) = by_node d y b ((fails_iff _ (node_names g t (form_of t y) (field_b t y))).0 e)

unnamed_template : (g t : List ℕ) (p q : ℕ) → TemplateUnnamed g t p q → TemplateIn g t p q
unfolding node_named
unnamed_template g t p q (by_template b) = inl (refl, (fails_iff _ (nonterminal_iff g _)).1 b)
unnamed_template g t p q (by_parameter a i b) = inr (inl (i, (fails_iff _ (exists_iff _)).1 b))
unnamed_template g t p q (by_node d y b n) = inr (inr (failing d y b ((fails_iff _ (node_names g t (form_of t y) (field_b t y))).1 n)))

least_template : (g t : List ℕ) → templates_limits t ≡ none → (p q : ℕ) → In p (templates t) → TemplateAt t p q
    → Least (TemplateUnnamed g t p) p q (template_names g t p)
unfolding template_names parameter_heads body
least_template g t l p q i a =
    least_same (λ q. (template_unnamed g t p q, unnamed_template g t p q))
    (least_both (least_need _ p)
    (least_both (least_row (λ p q f. f.end) (λ a. exists (type t (field_b t a))) a.parameters)
    (rw (← at_itself (tree (node_named g t) (nodes_below t) deepest (body t p)))
    (least_shallow (nodes_standing t) (node_named g t) deepest (body t p) (p + 1 + field_a t p) q (refl, a.body) (node_shallow t l p i)))))

abbrev UnnamedIn : List ℕ → List ℕ → ℕ → Type 0
UnnamedIn g t q = Some (numbered 0 (types t)) (λ x. TypeUnnamed g t x.0 x.1) q ⊎ Some (templates t) (TemplateUnnamed g t) q

templates_unnamed : (g t : List ℕ) (q : ℕ) → UnnamedIn g t q → TemplatesUnnamed g t q
unfolding type
templates_unnamed g t q (inl ((n, p), i, o)) = in_type n p q (numbered_from_0 (types t) i) o
templates_unnamed g t q (inr (p, i, o)) = in_template p q i o

unnamed_templates : (g t : List ℕ) (q : ℕ) → TemplatesUnnamed g t q → UnnamedIn g t q
unfolding type
unnamed_templates g t q (in_type n p r e o) = inl ((n, p), from_0_numbered (types t) n p e, o)
unnamed_templates g t q (in_template p r i o) = inr (p, i, o)

pub first_templates_unnamed : (g t : List ℕ) → WellSized t → TemplatesLaid t → templates_limits t ≡ none → First (TemplatesUnnamed g t) (templates_names g t)
unfolding templates_names
first_templates_unnamed g t w h l =
    first_same (λ q. (templates_unnamed g t q, unnamed_templates g t q))
    (least_both (least_types g t w h) (least_heads (TemplateUnnamed g t) (template_names g t) (least_template g t l) (template_rows w h))).first
