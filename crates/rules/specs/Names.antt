-- Refusal 5: "A class, nonterminal, production, template or type named doesn't exist, or a field names no earlier type."; 02 c: "An escaped class
-- naming no earlier plain class, or a text type naming an escaped class, is refused as 5."
use Rattle.std.specs.Prelude.{ℕ, List, Bool, true, cond, ◌&&◌, ltb}
use Rattle.std.proofs.Math.Option.{Option}
use Rattle.rules.specs.Faults.{need, both, every, tree, exists}
use Rattle.rules.specs.Records.{field_b, of_kind, numbered}
use Rattle.rules.specs.Grammar.{classes, class, plain_class, production, productions, Element, keyword, lexeme, nonterminal, repetition, unknown, element_at, element_heads, nonterminal_exists}
use Rattle.rules.specs.Templates.{TypeForm, text, yes_no, list, fields, cases, no_type, type, types, type_at, field_heads, template, templates, parameter_heads, body, form_of, nodes_below}
use Rattle.rules.specs.Limits.{deepest}
use Rattle.rules.specs.declared.Form.{Form}
use Rattle.rules.specs.declared.Form.TheVariants.{Build, Literal, Place, Expand, If, For, Sequence, Match, Unknown}

-- an element names a class or a nonterminal
unfoldable pub element_named : List ℕ → Element → Bool
element_named g (keyword x) = true
element_named g (lexeme c) = exists (class g c)
element_named g (nonterminal n) = nonterminal_exists g n
element_named g (repetition n x) = nonterminal_exists g n
element_named g unknown = true

-- class n, if it is an escaped one, names "an earlier plain class"
unfoldable pub class_named : List ℕ → ℕ × ℕ → Bool
class_named g (n, p) = cond (of_kind g 5 p) (ltb (field_b g p) n && exists (plain_class g (field_b g p))) true

-- classes come before productions
unfoldable pub grammar_names : List ℕ → Option ℕ
grammar_names g =
    both (every (λ c. need (class_named g c) c.1) (numbered 0 (classes g)))
    (every (λ p. every (λ e. need (element_named g (element_at g e)) e) (element_heads g p)) (productions g))

-- a text type names a plain class, a list type a type; type n, a record, names earlier types in its fields; 02 g, of a variant: "every case an earlier type"
unfoldable pub type_named : List ℕ → List ℕ → TypeForm → Bool
type_named g t (text c) = exists (plain_class g c)
type_named g t yes_no = true
type_named g t (list n) = exists (type t n)
type_named g t (fields ns) = true
type_named g t (cases ns) = true
type_named g t no_type = true

unfoldable pub type_names : List ℕ → List ℕ → ℕ × ℕ → Option ℕ
type_names g t (n, p) =
    both (need (type_named g t (type_at t p)) p) (every (λ f. need (ltb (field_b t f) n) f) (field_heads t p))

-- a build names a production, an expand a template
unfoldable pub form_named : List ℕ → List ℕ → Form → ℕ → Bool
form_named g t Build n = exists (production g n)
form_named g t Literal n = true
form_named g t Place n = true
form_named g t Expand n = exists (template t n)
form_named g t If n = true
form_named g t For n = true
form_named g t Sequence n = true
form_named g t Match n = true
form_named g t Unknown n = true

unfoldable pub node_named : List ℕ → List ℕ → ℕ → Bool
node_named g t p = form_named g t (form_of t p) (field_b t p)

-- a template names a nonterminal, its parameters types
unfoldable pub template_names : List ℕ → List ℕ → ℕ → Option ℕ
template_names g t p =
    both (need (nonterminal_exists g (field_b t p)) p)
    (both (every (λ a. need (exists (type t (field_b t a))) a) (parameter_heads t p))
    (tree (node_named g t) (nodes_below t) deepest (body t p)))

unfoldable pub templates_names : List ℕ → List ℕ → Option ℕ
templates_names g t = both (every (type_names g t) (numbered 0 (types t))) (every (template_names g t) (templates t))
