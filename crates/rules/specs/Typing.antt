-- Typing, section "Typing", refusals 7 and 8. A node suits its position by a test of its own; what stands below it has a position and variables of its own.
use Rattle.std.specs.Prelude.{ℕ, List, [], ◌∷◌, ◌++◌, map, Bool, true, false, ◌&&◌, length, eqb}
use Rattle.std.proofs.Math.Option.{Option, none, some}
use Rattle.rules.specs.Faults.{need, both, every, tree, on_found, exists, at}
use Rattle.rules.specs.Records.{field_b, field_d, text_of, nth}
use Rattle.rules.specs.Lexeme.{is_plain_lexeme, is_lexeme}
use Rattle.rules.specs.Grammar.{plain_of, production, Element, keyword, lexeme, nonterminal, repetition, unknown, elements}
use Rattle.rules.specs.Templates.{TypeForm, text, yes_no, list, fields, cases, no_type, type_of, template, templates, parameters, body, form_of, nodes, paths, path, first, second, arms, variable, field_numbers}
use Rattle.rules.specs.Value.{as_text, as_yes_no, as_list, as_record, as_case}
use Rattle.rules.specs.Limits.{deepest}
use Rattle.rules.specs.declared.Form.{Form}
use Rattle.rules.specs.declared.Form.TheVariants.{Build, Literal, Place, Expand, If, For, Sequence, Match, Unknown}
use Rattle.rules.specs.declared.Position.{Position}
use Rattle.rules.specs.declared.Position.TheVariants.{Class, Nonterminal, Repetition, Item, Nothing}

-- "Every position asks for a class, a nonterminal or a repetition": which one, if it does. An item of a sequence may be what its nonterminal asks for, or a for
unfoldable pub asks_class : Position → Option ℕ
asks_class (Class c) = some c
asks_class (Nonterminal n) = none
asks_class (Repetition n) = none
asks_class (Item n) = none
asks_class Nothing = none

unfoldable pub asks_nonterminal : Position → Option ℕ
asks_nonterminal (Class c) = none
asks_nonterminal (Nonterminal n) = some n
asks_nonterminal (Repetition n) = none
asks_nonterminal (Item n) = some n
asks_nonterminal Nothing = none

unfoldable pub asks_repetition : Position → Option ℕ
asks_repetition (Class c) = none
asks_repetition (Nonterminal n) = none
asks_repetition (Repetition n) = some n
asks_repetition (Item n) = none
asks_repetition Nothing = none

unfoldable pub asks_item : Position → Option ℕ
asks_item (Class c) = none
asks_item (Nonterminal n) = none
asks_item (Repetition n) = none
asks_item (Item n) = some n
asks_item Nothing = none

-- the positions of a production: "one per element that is no keyword"
unfoldable pub positions : List Element → List Position
positions [] = []
positions (keyword x ∷ es) = positions es
positions (lexeme c ∷ es) = Class c ∷ positions es
positions (nonterminal n ∷ es) = Nonterminal n ∷ positions es
positions (repetition n x ∷ es) = Repetition n ∷ positions es
positions (unknown ∷ es) = Nothing ∷ positions es

-- a type's class if it is a text, its item type if a list, its fields' types if a record, its cases' types if a variant
unfoldable pub text_class : TypeForm → Option ℕ
text_class (text c) = some c
text_class yes_no = none
text_class (list n) = none
text_class (fields ns) = none
text_class (cases ns) = none
text_class no_type = none

unfoldable pub is_yes_no : TypeForm → Bool
is_yes_no (text c) = false
is_yes_no yes_no = true
is_yes_no (list n) = false
is_yes_no (fields ns) = false
is_yes_no (cases ns) = false
is_yes_no no_type = false

unfoldable pub item_type : TypeForm → Option ℕ
item_type (text c) = none
item_type yes_no = none
item_type (list n) = some n
item_type (fields ns) = none
item_type (cases ns) = none
item_type no_type = none

unfoldable pub field_types : TypeForm → Option (List ℕ)
field_types (text c) = none
field_types yes_no = none
field_types (list n) = none
field_types (fields ns) = some ns
field_types (cases ns) = none
field_types no_type = none

unfoldable pub case_types : TypeForm → Option (List ℕ)
case_types (text c) = none
case_types yes_no = none
case_types (list n) = none
case_types (fields ns) = none
case_types (cases ns) = some ns
case_types no_type = none

-- the type that a path finds: "the variable, then field by field"
unfoldable pub type_along : List ℕ → List ℕ → ℕ → Option ℕ
type_along t [] ty = some ty
type_along t (j ∷ js) ty = on_found (field_types (type_of t ty)) none λ tys. on_found (nth tys j) none (type_along t js)

unfoldable pub path_type : List ℕ → List ℕ → ℕ → Option ℕ
path_type t vars p = on_found (nth vars (variable t p)) none (type_along t (field_numbers t p))

-- "argument types equal by number", one for each parameter
unfoldable pub arguments_fit : List ℕ → List ℕ → List ℕ → List ℕ → Bool
arguments_fit t vars [] [] = true
arguments_fit t vars [] (ty ∷ tys) = false
arguments_fit t vars (p ∷ ps) [] = false
arguments_fit t vars (p ∷ ps) (ty ∷ tys) = on_found (path_type t vars p) false (eqb ty) && arguments_fit t vars ps tys

-- a node, its position, and the types of its variables: "the parameters, then the loops from outside in"
pub record Site : Type 0 where
  pub node : ℕ
  pub position : Position
  pub vars : List ℕ

unfoldable pub site : List ℕ → Position → ℕ → Site
site vars position p = record { node = p; position = position; vars = vars }

-- The node's own rule, by its form.
-- Nonterminal: "a build of one of its productions"; "A build with another number of children .. breaks the typing."
-- Class: "a literal that is a lexeme, or a place whose path has type text of that very class"; 02 c, of an escaped class: "A place there takes text
-- of the plain class".
-- Nonterminal: "an expand of a template with that nonterminal and argument types equal by number, or an if on yes/no ..".
-- Repetition: "a sequence, whose items are nodes in the position of its nonterminal or a for over a list ..".
-- 02 g: "A match stands where an if may stand", and has "d nodes, one for each case"; "A missing or extra arm fails typing."
unfoldable pub suits_form : List ℕ → List ℕ → Form → Site → Bool
suits_form g t Build x =
    on_found (asks_nonterminal x.position) false λ n.
    on_found (production g (field_b t x.node)) false λ q.
    eqb (field_b g q) n && eqb (length (positions (elements g q))) (field_d t x.node)
suits_form g t Literal x = on_found (asks_class x.position) false λ c. is_lexeme g c (text_of t (field_b t x.node) x.node)
suits_form g t Place x =
    on_found (asks_class x.position) false λ c.
    on_found (path_type t x.vars (path x.node)) false λ ty.
    on_found (text_class (type_of t ty)) false (eqb (plain_of g c))
suits_form g t Expand x =
    on_found (asks_nonterminal x.position) false λ n.
    on_found (template t (field_b t x.node)) false λ q.
    eqb (field_b t q) n && arguments_fit t x.vars (paths t x.node) (parameters t q)
suits_form g t If x =
    on_found (asks_nonterminal x.position) false λ n.
    on_found (path_type t x.vars (path x.node)) false λ ty.
    is_yes_no (type_of t ty)
suits_form g t For x =
    on_found (asks_item x.position) false λ n.
    on_found (path_type t x.vars (path x.node)) false λ ty.
    exists (item_type (type_of t ty))
suits_form g t Sequence x = exists (asks_repetition x.position)
suits_form g t Match x =
    on_found (asks_nonterminal x.position) false λ n.
    on_found (path_type t x.vars (path x.node)) false λ ty.
    on_found (case_types (type_of t ty)) false λ tys.
    eqb (length tys) (field_d t x.node)
suits_form g t Unknown x = false

unfoldable pub suits : List ℕ → List ℕ → Site → Bool
suits g t x = suits_form g t (form_of t x.node) x

-- each child of a build in the position of its element
unfoldable pub sites : List ℕ → List Position → List ℕ → List Site
sites vars [] ps = []
sites vars (a ∷ as') [] = []
sites vars (a ∷ as') (p ∷ ps) = site vars a p ∷ sites vars as' ps

-- 02 g: "one for each case in order, each seeing one more variable, the case's content"
unfoldable pub arm_sites : List ℕ → Position → List ℕ → List ℕ → List Site
arm_sites vars position [] ps = []
arm_sites vars position (ty ∷ tys) [] = []
arm_sites vars position (ty ∷ tys) (p ∷ ps) = site (vars ++ ty ∷ []) position p ∷ arm_sites vars position tys ps

-- What stands below a node, by its form: a child in the position of its element; an if's "both branches in the same position"; a for's body,
-- "one such node", with "the loops from outside in"; a sequence's items; a match's arms
unfoldable pub sites_of : List ℕ → List ℕ → Form → Site → List Site
sites_of g t Build x = on_found (production g (field_b t x.node)) [] λ q. sites x.vars (positions (elements g q)) (nodes t x.node)
sites_of g t Literal x = []
sites_of g t Place x = []
sites_of g t Expand x = []
sites_of g t If x =
    on_found (asks_nonterminal x.position) [] λ n.
    map (site x.vars (Nonterminal n)) (first x.node ∷ second t x.node ∷ [])
sites_of g t For x =
    on_found (asks_item x.position) [] λ n.
    on_found (path_type t x.vars (path x.node)) [] λ ty.
    on_found (item_type (type_of t ty)) [] λ item.
    site (x.vars ++ item ∷ []) (Nonterminal n) (first x.node) ∷ []
sites_of g t Sequence x = on_found (asks_repetition x.position) [] λ n. map (site x.vars (Item n)) (nodes t x.node)
sites_of g t Match x =
    on_found (asks_nonterminal x.position) [] λ n.
    on_found (path_type t x.vars (path x.node)) [] λ ty.
    on_found (case_types (type_of t ty)) [] λ tys.
    arm_sites x.vars (Nonterminal n) tys (arms t x.node)
sites_of g t Unknown x = []

unfoldable pub sites_below : List ℕ → List ℕ → Site → List Site
sites_below g t x = sites_of g t (form_of t x.node) x

-- a node and all below it: the first that does not suit its position
unfoldable pub misfit : List ℕ → List ℕ → ℕ → Site → Option Site
misfit g t k x = tree (suits g t) (sites_below g t) k x

-- "A body's position is its template's nonterminal"
unfoldable pub body_site : List ℕ → ℕ → Site
body_site t p = site (parameters t p) (Nonterminal (field_b t p)) (body t p)

-- "Template 0 exists with one parameter, the value's type. That is the declared type."
unfoldable pub only : List ℕ → Option ℕ
only [] = none
only (x ∷ []) = some x
only (x ∷ y ∷ ys) = none

unfoldable pub declared_type : List ℕ → Option ℕ
declared_type t = on_found (template t 0) none λ p. only (parameters t p)

-- refusal 7: place "0, and tried first, if template 0 is missing or has not one parameter"
unfoldable pub templates_typing : List ℕ → List ℕ → Option ℕ
templates_typing g t =
    both (need (exists (declared_type t)) 0)
    (every (λ p. at (λ x. x.node) (misfit g t deepest (body_site t p))) (templates t))

-- Of values: a value, and the type that it should have
pub record Typed : Type 0 where
  pub value : ℕ
  pub type : ℕ

unfoldable pub typed : ℕ → ℕ → Typed
typed ty w = record { value = w; type = ty }

-- "of type text if it is a 1 whose text is a lexeme of the class; of yes/no if a 2; of a list if a 3 ..; of a record if a 4 with one child for each field"
-- 02 g: a case "is of the variant if there is such a case .."
unfoldable pub has_form : List ℕ → List ℕ → TypeForm → ℕ → Bool
has_form g v (text c) w = on_found (as_text v w) false (is_plain_lexeme g c)
has_form g v yes_no w = exists (as_yes_no v w)
has_form g v (list ty) w = exists (as_list v w)
has_form g v (fields tys) w = on_found (as_record v w) false (λ ws. eqb (length ws) (length tys))
has_form g v (cases tys) w = on_found (as_case v w) false (λ c. exists (nth tys c.number))
has_form g v no_type w = false

unfoldable pub has_type : List ℕ → List ℕ → List ℕ → Typed → Bool
has_type g t v x = has_form g v (type_of t x.type) x.value

-- "whose children are all of its item type"; "in order, of that field's type"; 02 g: "and the child is of that case's type"
unfoldable pub paired : List ℕ → List ℕ → List Typed
paired [] ws = []
paired (ty ∷ tys) [] = []
paired (ty ∷ tys) (w ∷ ws) = typed ty w ∷ paired tys ws

unfoldable pub typed_of : List ℕ → TypeForm → ℕ → List Typed
typed_of v (text c) w = []
typed_of v yes_no w = []
typed_of v (list ty) w = on_found (as_list v w) [] (map (typed ty))
typed_of v (fields tys) w = on_found (as_record v w) [] (paired tys)
typed_of v (cases tys) w = on_found (as_case v w) [] λ c. on_found (nth tys c.number) [] λ ty. typed ty c.inside ∷ []
typed_of v no_type w = []

unfoldable pub typed_below : List ℕ → List ℕ → Typed → List Typed
typed_below t v x = typed_of v (type_of t x.type) x.value

-- refusal 8: "The value isn't of its declared type"
unfoldable pub mistyped : List ℕ → List ℕ → List ℕ → ℕ → Typed → Option Typed
mistyped g t v k x = tree (has_type g t v) (typed_below t v) k x

unfoldable pub value_typing : List ℕ → List ℕ → List ℕ → Option ℕ
value_typing g t v = on_found (declared_type t) (some 0) λ ty. at (λ x. x.value) (mistyped g t v deepest (typed ty 0))
