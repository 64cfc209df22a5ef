-- Refusals 4 and 5 as statements, and that the checks find no fault exactly where they hold.
-- (Goes on in proofs/LimitsExactly.antt.)
use Rattle.std.specs.Prelude.{◌≡◌, refl, ◌↔◌, ℕ, zero, suc, ◌+◌, ◌<◌, ◌≤◌, List, [], ◌∷◌, Bool, true, false, cond, ◌&&◌, ◌||◌, eqb, ltb}
use Rattle.std.proofs.Common.{sym, ◌∙◌, subst, arith}
use Rattle.std.proofs.lemmas.Bool.{false≢true}
use Rattle.std.proofs.Math.Option.{Option, none, some, none-ne-some, some-injective}
use Rattle.rules.specs.Faults.{need, every, exists}
use Rattle.rules.specs.Records.{kind_of, field_a, field_b, nth, numbered}
use Rattle.rules.specs.Grammar.{class, plain_class, classes, production, productions, Element, keyword, lexeme, nonterminal, repetition, unknown, element_at, element_heads, has_production, nonterminal_exists}
use Rattle.rules.specs.Templates.{TypeForm, text, yes_no, list, fields, cases, no_type, type, types, type_at, field_heads, template, templates, parameter_heads, body, form_of, nodes_below}
use Rattle.rules.specs.Value.{values_below}
use Rattle.rules.specs.Limits.{deepest, Looped, looped, loops_below, looped_below, value_limits}
use Rattle.rules.specs.Names.{element_named, class_named, grammar_names, type_named, type_names, form_named, node_named, template_names, templates_names}
use Rattle.rules.specs.declared.Form.{Form}
use Rattle.rules.specs.declared.Form.TheVariants.{Build, Literal, Place, Expand, If, For, Sequence, Match, Unknown}
use Rattle.theorems.specs.Readings.{Plain, plain_is}
use Rattle.theorems.specs.Around.{Around}
use Rattle.theorems.specs.Ranges.{below_leading, looped_leading}
use Rattle.laws.specs.Faults.{need_none, need_iff, both_none, both_iff, In, here, later, in_map, every_in, in_every, every_nil, every_cons, exists_iff, and_iff, eqb_iff, ltb_iff, Below, itself, under, tree_in, in_tree}

-- 4, of a template: the body counts 1, what stands d levels below it d + 1
pub record TemplateWithin (t : List ℕ) (p : ℕ) : Type 0 where
  pub parameters_few : field_a t p ≤ 8
  pub at_most_200_deep : (d q : ℕ) → Below (nodes_below t) (body t p) d q → d + 1 ≤ 200
  pub at_most_16_loops : (n q : ℕ) → Around t (body t p) n q → n ≤ 16

-- a node of the tree, with the loops around it
pub looped_below_lem : (t : List ℕ) {p q d : ℕ} (l : ℕ) → Below (nodes_below t) p d q → (m : ℕ) × Below (looped_below t) (looped l p) d (looped m q)
unfolding looped_below looped
looped_below_lem t l (itself p) = (l, itself _)
looped_below_lem t l (under p c q d i b) =
    let r = looped_below_lem t (loops_below (form_of t p) l) b in
    (r.0, under _ _ _ d (in_map (looped (loops_below (form_of t p) l)) i) r.1)

-- and without them
pub below_looped : (t : List ℕ) {d : ℕ} {x y : Looped} → Below (looped_below t) x d y → Below (nodes_below t) x.node d y.node
unfolding looped_below looped
below_looped t b = below_leading (λ x. x.node) (looped_below t) (nodes_below t) (looped_leading t) b

pub value_limits_exactly : (v : List ℕ) → (value_limits v ≡ none) ↔ ((d w : ℕ) → Below (values_below v) 0 d w → d + 1 ≤ 200)
unfolding value_limits deepest
value_limits_exactly v = (
  λ e d w b. let l = (tree_in _ _ 200 e b).0 in omega arith,
  λ h. in_tree _ _ 200 0 λ d w b. let l = h d w b in (omega arith, refl),
)

-- no node of a template within the limits is over 200 deep
pub not_deep : (t : List ℕ) (p : ℕ) → TemplateWithin t p → (d q : ℕ) → Below (nodes_below t) (body t p) d q → d < deepest
unfolding deepest
not_deep t p w d q b = let l = w.at_most_200_deep d q b in omega arith

-- 5: what is named exists
abbrev pub Exists : Option ℕ → Type 0
Exists o = (p : ℕ) × (o ≡ some p)

or_true : (a : Bool) {b : Bool} → b ≡ true → (a || b) ≡ true
or_true true e = refl
or_true false e = e

-- a plain class of that number
abbrev pub PlainExists : List ℕ → ℕ → Type 0
PlainExists g c = (p : ℕ) × Plain g c p

-- 02 c: "An escaped class naming no earlier plain class .. is refused as 5.": class n, at p, if it is an escaped one, names an earlier plain class
abbrev pub ClassNames : List ℕ → ℕ → ℕ → Type 0
ClassNames g n p = kind_of g p ≡ 5 → (field_b g p < n) × PlainExists g (field_b g p)

-- "A nonterminal exists if it has a production"
abbrev pub HasProduction : List ℕ → ℕ → Type 0
HasProduction g n = (p : ℕ) × In p (productions g) × (field_b g p ≡ n)

-- a production that is there makes its nonterminal exist, and nothing else does
pub has_in : (g : List ℕ) (n : ℕ) {q : ℕ} {ps : List ℕ} → In q ps → field_b g q ≡ n → has_production g n ps ≡ true
unfolding has_production
has_in g n {q} (here ps) e = rw ((eqb_iff (field_b g q) n).1 e)
has_in g n (later p ps i) e = or_true (eqb (field_b g p) n) (has_in g n i e)

in_has : (g : List ℕ) (n : ℕ) (ps : List ℕ) → has_production g n ps ≡ true → (p : ℕ) × In p ps × (field_b g p ≡ n)
unfolding has_production
in_has g n [] e = absurd (false≢true e)
in_has g n (p ∷ ps) e = go (eqb (field_b g p) n) refl e (in_has g n ps)
  where
    go : (b : Bool) → eqb (field_b g p) n ≡ b → (b || has_production g n ps) ≡ true → (has_production g n ps ≡ true → (q : ℕ) × In q ps × (field_b g q ≡ n))
        → (q : ℕ) × In q (p ∷ ps) × (field_b g q ≡ n)
    go true b h ih = (p, here ps, (eqb_iff _ _).0 b)
    go false b h ih = let r = ih h in (r.0, later p ps r.1, r.2)

pub nonterminal_iff : (g : List ℕ) (n : ℕ) → (nonterminal_exists g n ≡ true) ↔ HasProduction g n
unfolding nonterminal_exists
nonterminal_iff g n = (in_has g n (productions g), λ h. has_in g n h.1 h.2)

abbrev pub ElementNames : List ℕ → Element → Type 0
ElementNames g (keyword x) = Unit {0}
ElementNames g (lexeme c) = Exists (class g c)
ElementNames g (nonterminal n) = HasProduction g n
ElementNames g (repetition n x) = HasProduction g n
ElementNames g unknown = Unit {0}

-- 02 c: "a text type naming an escaped class, is refused as 5"
abbrev pub TypeNames : List ℕ → List ℕ → TypeForm → Type 0
TypeNames g t (text c) = PlainExists g c
TypeNames g t yes_no = Unit {0}
TypeNames g t (list n) = Exists (type t n)
TypeNames g t (fields ns) = Unit {0}
TypeNames g t (cases ns) = Unit {0}
TypeNames g t no_type = Unit {0}

abbrev pub NodeNames : List ℕ → List ℕ → Form → ℕ → Type 0
NodeNames g t Build n = Exists (production g n)
NodeNames g t Literal n = Unit {0}
NodeNames g t Place n = Unit {0}
NodeNames g t Expand n = Exists (template t n)
NodeNames g t If n = Unit {0}
NodeNames g t For n = Unit {0}
NodeNames g t Sequence n = Unit {0}
NodeNames g t Match n = Unit {0}
NodeNames g t Unknown n = Unit {0}

pub record GrammarNamed (g : List ℕ) : Type 0 where
  pub classes_name : (n p : ℕ) → nth (classes g) n ≡ some p → ClassNames g n p
  pub elements_name : (p e : ℕ) → In p (productions g) → In e (element_heads g p) → ElementNames g (element_at g e)

pub record TemplatesNamed (g t : List ℕ) : Type 0 where
  pub types_name : (n p : ℕ) → nth (types t) n ≡ some p → TypeNames g t (type_at t p)
  -- of a record; 02 g, of a variant: "every case an earlier type"
  pub fields_name_earlier : (n p f : ℕ) → nth (types t) n ≡ some p → In f (field_heads t p) → field_b t f < n
  pub templates_name : (p : ℕ) → In p (templates t) → HasProduction g (field_b t p)
  pub parameters_name : (p a : ℕ) → In p (templates t) → In a (parameter_heads t p) → Exists (type t (field_b t a))
  pub nodes_name : (p d q : ℕ) → In p (templates t) → Below (nodes_below t) (body t p) d q → NodeNames g t (form_of t q) (field_b t q)

pub element_names : (g : List ℕ) (x : Element) → (element_named g x ≡ true) ↔ ElementNames g x
unfolding element_named
element_names g (keyword x) = (λ e. tt, λ h. refl)
element_names g (lexeme c) = exists_iff (class g c)
element_names g (nonterminal n) = nonterminal_iff g n
element_names g (repetition n x) = nonterminal_iff g n
element_names g unknown = (λ e. tt, λ h. refl)

plain_exists : (g : List ℕ) (c : ℕ) → (exists (plain_class g c) ≡ true) ↔ PlainExists g c
plain_exists g c = (
  λ e. let a = (exists_iff (plain_class g c)).0 e in (a.0, (plain_is g c a.0).0 a.1),
  λ h. (exists_iff (plain_class g c)).1 (h.0, (plain_is g c h.0).1 h.1),
)

pub class_names : (g : List ℕ) (n p : ℕ) → (class_named g (n, p) ≡ true) ↔ ClassNames g n p
unfolding class_named
class_names g n p = go (eqb (kind_of g p) 5) refl
  where
    go : (b : Bool) → eqb (kind_of g p) 5 ≡ b → (cond b (ltb (field_b g p) n && exists (plain_class g (field_b g p))) true ≡ true) ↔ ClassNames g n p
    go true k = (
      λ e z. let a = (and_iff _ _).0 e in ((ltb_iff _ _).0 a.0, (plain_exists g (field_b g p)).0 a.1),
      λ h. let a = h ((eqb_iff _ _).0 k) in (and_iff _ _).1 ((ltb_iff _ _).1 a.0, (plain_exists g (field_b g p)).1 a.1),
    )
    go false k = (λ e z. absurd (false≢true (sym k ∙ (eqb_iff _ _).1 z)), λ h. refl)

pub type_names_lem : (g t : List ℕ) (x : TypeForm) → (type_named g t x ≡ true) ↔ TypeNames g t x
unfolding type_named
type_names_lem g t (text c) = plain_exists g c
type_names_lem g t yes_no = (λ e. tt, λ h. refl)
type_names_lem g t (list n) = exists_iff (type t n)
type_names_lem g t (fields ns) = (λ e. tt, λ h. refl)
type_names_lem g t (cases ns) = (λ e. tt, λ h. refl)
type_names_lem g t no_type = (λ e. tt, λ h. refl)

pub node_names : (g t : List ℕ) (f : Form) (n : ℕ) → (form_named g t f n ≡ true) ↔ NodeNames g t f n
unfolding form_named
node_names g t Build n = exists_iff (production g n)
node_names g t Literal n = (λ e. tt, λ h. refl)
node_names g t Place n = (λ e. tt, λ h. refl)
node_names g t Expand n = exists_iff (template t n)
node_names g t If n = (λ e. tt, λ h. refl)
node_names g t For n = (λ e. tt, λ h. refl)
node_names g t Sequence n = (λ e. tt, λ h. refl)
node_names g t Match n = (λ e. tt, λ h. refl)
node_names g t Unknown n = (λ e. tt, λ h. refl)

-- the entries of a numbered list
pub numbered_in : (m : ℕ) (ps : List ℕ) (j p : ℕ) → nth ps j ≡ some p → In (m + j, p) (numbered m ps)
unfolding numbered nth
numbered_in m [] j p e = absurd (none-ne-some p e)
numbered_in m (q ∷ ps) zero p e = let z : m + 0 ≡ m = omega arith in rw (z, ← some-injective q p e) (here _)
numbered_in m (q ∷ ps) (suc j) p e = let z : m + suc j ≡ suc m + j = omega arith in rw z (later _ _ (numbered_in (suc m) ps j p e))

in_numbered : (f : ℕ × ℕ → Option ℕ) (m : ℕ) (ps : List ℕ) → ((j p : ℕ) → nth ps j ≡ some p → f (m + j, p) ≡ none) → every f (numbered m ps) ≡ none
unfolding numbered nth
in_numbered f m [] h = every_nil f
in_numbered f m (p ∷ ps) h =
    let z : m + 0 ≡ m = omega arith in
    every_cons f (m, p) (numbered (suc m) ps) (subst (λ (x : ℕ). f (x, p) ≡ none) z (h 0 p refl))
    (in_numbered f (suc m) ps (λ j q e. let y : m + suc j ≡ suc m + j = omega arith in subst (λ (x : ℕ). f (x, q) ≡ none) y (h (suc j) q e)))

numbered_none : (f : ℕ × ℕ → Option ℕ) (ps : List ℕ) → every f (numbered 0 ps) ≡ none → (j p : ℕ) → nth ps j ≡ some p → f (j, p) ≡ none
numbered_none f ps e j p h = let z : 0 + j ≡ j = omega arith in subst (λ (x : ℕ). f (x, p) ≡ none) z (every_in f e (numbered_in 0 ps j p h))

pub grammar_names_exactly : (g : List ℕ) → (grammar_names g ≡ none) ↔ GrammarNamed g
unfolding grammar_names
grammar_names_exactly g = (
  λ e. let a = both_none _ _ e in
      record {
        classes_name = λ n p h. (class_names g n p).0 (need_none _ p (numbered_none (λ c. need (class_named g c) c.1) (classes g) a.0 n p h));
        elements_name = λ p x i j. (element_names g (element_at g x)).0 (need_none _ x (every_in _ (every_in _ a.1 i) j));
      },
  λ h. (both_iff _ _).1 (
    in_numbered _ 0 (classes g) (λ n p e. let z : 0 + n ≡ n = omega arith in rw z ((need_iff _ p).1 ((class_names g n p).1 (h.classes_name n p e)))),
    in_every _ _ λ p i. in_every _ _ λ x j. (need_iff _ x).1 ((element_names g (element_at g x)).1 (h.elements_name p x i j)),
  ),
)

type_fault : (g t : List ℕ) (n p : ℕ) → (type_names g t (n, p) ≡ none) ↔ (TypeNames g t (type_at t p) × ((f : ℕ) → In f (field_heads t p) → field_b t f < n))
unfolding type_names
type_fault g t n p = (
  λ e. let a = both_none _ _ e in ((type_names_lem g t _).0 (need_none _ p a.0), λ f i. (ltb_iff _ _).0 (need_none _ f (every_in _ a.1 i))),
  λ h. (both_iff _ _).1 ((need_iff _ p).1 ((type_names_lem g t _).1 h.0), in_every _ _ λ f i. (need_iff _ f).1 ((ltb_iff _ _).1 (h.1 f i))),
)

template_fault : (g t : List ℕ) (p : ℕ) → TemplateWithin t p
    → (template_names g t p ≡ none) ↔ (HasProduction g (field_b t p) × ((a : ℕ) → In a (parameter_heads t p) → Exists (type t (field_b t a)))
    × ((d q : ℕ) → Below (nodes_below t) (body t p) d q → NodeNames g t (form_of t q) (field_b t q)))
unfolding template_names node_named
template_fault g t p w = (
  λ e. let a = both_none _ _ e in let b = both_none _ _ a.1 in (
    (nonterminal_iff g _).0 (need_none _ p a.0),
    λ x i. (exists_iff _).0 (need_none _ x (every_in _ b.0 i)),
    λ d q h. (node_names g t (form_of t q) (field_b t q)).0 (tree_in _ _ deepest b.1 h).1,
  ),
  λ h. (both_iff _ _).1 (
    (need_iff _ p).1 ((nonterminal_iff g _).1 h.0),
    (both_iff _ _).1 (
      in_every _ _ (λ x i. (need_iff _ x).1 ((exists_iff _).1 (h.1 x i))),
      in_tree _ _ deepest _ (λ d q b. (not_deep t p w d q b, (node_names g t (form_of t q) (field_b t q)).1 (h.2 d q b))),
    ),
  ),
)

pub templates_names_exactly : (g t : List ℕ) → ((p : ℕ) → In p (templates t) → TemplateWithin t p) → (templates_names g t ≡ none) ↔ TemplatesNamed g t
unfolding templates_names
templates_names_exactly g t within = (
  λ e. let a = both_none _ _ e in
      record {
        types_name = λ n p h. ((type_fault g t n p).0 (numbered_none _ (types t) a.0 n p h)).0;
        fields_name_earlier = λ n p f h i. ((type_fault g t n p).0 (numbered_none _ (types t) a.0 n p h)).1 f i;
        templates_name = λ p i. ((template_fault g t p (within p i)).0 (every_in _ a.1 i)).0;
        parameters_name = λ p x i. ((template_fault g t p (within p i)).0 (every_in _ a.1 i)).1 x;
        nodes_name = λ p d q i. ((template_fault g t p (within p i)).0 (every_in _ a.1 i)).2 d q;
      },
  λ h. (both_iff _ _).1 (
    in_numbered _ 0 (types t) (λ n p e. let z : 0 + n ≡ n = omega arith in
        rw z ((type_fault g t n p).1 (h.types_name n p e, λ f i. h.fields_name_earlier n p f e i))),
    in_every _ _ λ p i. (template_fault g t p (within p i)).1 (h.templates_name p i, λ x. h.parameters_name p x i, λ d q. h.nodes_name p d q i),
  ),
)
