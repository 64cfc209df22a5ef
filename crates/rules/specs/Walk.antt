-- The walk, section "Walk".
use Rattle.std.specs.Prelude.{ℕ, zero, suc, ◌+◌, List, [], ◌∷◌, ◌++◌, Bool, true, false, cond, length, leb, ltb}
use Rattle.std.proofs.Math.Option.{Option, none, some}
use Rattle.rules.specs.Faults.{on_found, exists}
use Rattle.rules.specs.Records.{field_b, text_of, nth}
use Rattle.rules.specs.Grammar.{escaped_class, production, Element, keyword, lexeme, nonterminal, repetition, unknown, elements}
use Rattle.rules.specs.Escape.{escape}
use Rattle.rules.specs.Templates.{template, body, form_of, is_for, nodes, paths, path, first, second, arms, variable, field_numbers}
use Rattle.rules.specs.Value.{as_text, as_yes_no, as_list, as_record, as_case}
use Rattle.rules.specs.Limits.{deepest}
use Rattle.rules.specs.declared.Form.{Form}
use Rattle.rules.specs.declared.Form.TheVariants.{Build, Literal, Place, Expand, If, For, Sequence, Match, Unknown}

-- "The walk is fed the grammar, the templates, the value, the fuel and the output's length"
pub record Input : Type 0 where
  pub grammar : List ℕ
  pub templates : List ℕ
  pub value : List ℕ
  pub fuel : ℕ
  pub room : ℕ

-- a visit "hands on the steps and the bytes so far"
pub record State : Type 0 where
  pub steps : ℕ
  pub text : List ℕ

unfoldable pub start : State
start = record { steps = 0; text = [] }

-- how a visit ends: done; ended by the first of 10 to 12, at a node; or stuck, where the records give it nothing to go by
pub data Limit : Type 0 where
  fuel_spent too_deep output_full : Limit

pub data End : Type 0 where
  done : State → End
  ended : Limit → ℕ → State → End
  stuck : End

unfoldable pub and_then : End → (State → End) → End
and_then (done s) next = next s
and_then (ended l p s) next = ended l p s
and_then stuck next = stuck

-- what a path finds among the variables' values: "the variable, then field by field"
unfoldable pub value_along : List ℕ → List ℕ → ℕ → Option ℕ
value_along v [] w = some w
value_along v (j ∷ js) w = on_found (as_record v w) none λ ws. on_found (nth ws j) none (value_along v js)

unfoldable pub path_value : List ℕ → List ℕ → List ℕ → ℕ → Option ℕ
path_value t v env p = on_found (nth env (variable t p)) none (value_along v (field_numbers t p))

unfoldable pub path_values : List ℕ → List ℕ → List ℕ → List ℕ → Option (List ℕ)
path_values t v env [] = some []
path_values t v env (p ∷ ps) = on_found (path_value t v env p) none λ w. on_found (path_values t v env ps) none λ ws. some (w ∷ ws)

-- "Keywords and lexemes are written whole or not at all. One that passes the end of the output is 12."
unfoldable pub write : ℕ → ℕ → List ℕ → State → End
write room p x s =
    cond (leb (length s.text + length x) room)
    (done (record { steps = s.steps; text = s.text ++ x }))
    (ended output_full p s)

-- "takes its elements in order: it writes a keyword, and visits the next child for any other"
unfoldable pub with_child : (ℕ → State → End) → List ℕ → (List ℕ → State → End) → State → End
with_child visit [] next s = stuck
with_child visit (c ∷ cs) next s = and_then (visit c s) (next cs)

unfoldable pub pieces : (List ℕ → State → End) → (Element → ℕ → State → End) → List Element → List ℕ → State → End
pieces put visit [] cs s = done s
pieces put visit (keyword x ∷ es) cs s = and_then (put x s) (pieces put visit es cs)
pieces put visit (lexeme c ∷ es) cs s = with_child (visit (lexeme c)) cs (pieces put visit es) s
pieces put visit (nonterminal n ∷ es) cs s = with_child (visit (nonterminal n)) cs (pieces put visit es) s
pieces put visit (repetition n x ∷ es) cs s = with_child (visit (repetition n x)) cs (pieces put visit es) s
pieces put visit (unknown ∷ es) cs s = with_child (visit unknown) cs (pieces put visit es) s

-- A repetition that a sequence fills: the sequence's place, the nonterminal of its items, what stands between them
pub record Filled : Type 0 where
  pub sequence : ℕ
  pub nonterminal : ℕ
  pub separator : List ℕ

-- What a visited node is handed: what its position asks for. That is an element's piece; of a for, which stands in a sequence, it is items for
-- the repetition that the sequence fills, and so many came before.
pub data Asked : Type 0 where
  piece : Element → Asked
  items : Filled → ℕ → Asked

-- the repetition that the sequence at p fills, if its position asks for one
unfoldable pub filled_by : ℕ → Asked → Option Filled
filled_by p (piece (keyword x)) = none
filled_by p (piece (lexeme c)) = none
filled_by p (piece (nonterminal n)) = none
filled_by p (piece (repetition n x)) = some (record { sequence = p; nonterminal = n; separator = x })
filled_by p (piece unknown) = none
filled_by p (items f n) = none

-- 02 a: "The separator is written before every item but the first"; n came before this one. "where it passes the end, none of it is written and
-- that is 12 with the sequence's place"
unfoldable pub separate : ℕ → Filled → ℕ → State → End
separate room f zero s = done s
separate room f (suc n) s = write room f.sequence f.separator s

-- `visit` visits an item: "It comes before the item's fuel and depth are tried"
unfoldable pub visit_item : ℕ → (Asked → ℕ → List ℕ → State → End) → Filled → ℕ → ℕ → List ℕ → State → End
visit_item room visit f n c env s = and_then (separate room f n s) (visit (piece (nonterminal f.nonterminal)) c env)

-- one after the other, in order, each with the number of items before it; `brings` says how many it brings itself
unfoldable pub in_order : (ℕ → ℕ) → (ℕ → ℕ → State → End) → ℕ → List ℕ → State → End
in_order brings visit n [] s = done s
in_order brings visit n (x ∷ xs) s = and_then (visit n x s) (in_order brings visit (n + brings x) xs)

-- the items of the list that the path of a for finds
unfoldable pub listed : Input → List ℕ → ℕ → Option (List ℕ)
listed i env p = on_found (path_value i.templates i.value env (path p)) none (as_list i.value)

-- "whether from a for, the sequence itself or several fors in a row"; "An item that writes nothing still counts; a for itself is none."
unfoldable pub items_of : Input → List ℕ → ℕ → ℕ
items_of i env c = cond (is_for (form_of i.templates c)) (on_found (listed i env c) 0 length) 1

unfoldable pub visit_in : Input → (Asked → ℕ → List ℕ → State → End) → Filled → List ℕ → ℕ → ℕ → State → End
visit_in i visit f env n c =
    cond (is_for (form_of i.templates c)) (visit (items f n) c env) (visit_item i.room visit f n c env)

-- what is written for the text of a place. 02 c: "A place there takes text of the plain class and writes the entities."
unfoldable pub written_for : List ℕ → Asked → List ℕ → List ℕ
written_for g (piece (keyword y)) x = x
written_for g (piece (lexeme c)) x = cond (exists (escaped_class g c)) (escape x) x
written_for g (piece (nonterminal n)) x = x
written_for g (piece (repetition n y)) x = x
written_for g (piece unknown) x = x
written_for g (items f n) x = x

-- "the form decides"; `visit` visits a node one deeper, with what its position asks for and its variables.
-- "A build takes its elements in order". "A literal writes its text, a place the text that its path finds".
-- "An expand enters the body with a fresh set of variables, those that its paths find."; "A body's position is its template's nonterminal".
-- "An if visits only the branch taken, the first on yes (1)", "both branches in the same position".
-- "A for visits its body once for each item, in order, the item being one variable more." "A sequence visits its items in order."
-- 02 g: a match visits that of its "d nodes, one for each case in order" which is its case's, with "one more variable, the case's content"; "its step
-- count is one plus the arm taken".
unfoldable pub visit_form : Input → Form → (Asked → ℕ → List ℕ → State → End) → Asked → ℕ → List ℕ → State → End
visit_form i Build visit a p env s =
    on_found (production i.grammar (field_b i.templates p)) stuck λ q.
    pieces (write i.room p) (λ e c. visit (piece e) c env) (elements i.grammar q) (nodes i.templates p) s
visit_form i Literal visit a p env s = write i.room p (text_of i.templates (field_b i.templates p) p) s
visit_form i Place visit a p env s =
    on_found (path_value i.templates i.value env (path p)) stuck λ w.
    on_found (as_text i.value w) stuck λ x.
    write i.room p (written_for i.grammar a x) s
visit_form i Expand visit a p env s =
    on_found (template i.templates (field_b i.templates p)) stuck λ q.
    on_found (path_values i.templates i.value env (paths i.templates p)) stuck λ ws.
    visit (piece (nonterminal (field_b i.templates q))) (body i.templates q) ws s
visit_form i If visit a p env s =
    on_found (path_value i.templates i.value env (path p)) stuck λ w.
    on_found (as_yes_no i.value w) stuck λ yes?.
    visit a (cond yes? (first p) (second i.templates p)) env s
visit_form i For visit (piece e) p env s = stuck
visit_form i For visit (items f n) p env s =
    on_found (listed i env p) stuck λ ws.
    in_order (λ w. 1) (λ m w. visit_item i.room visit f m (first p) (env ++ w ∷ [])) n ws s
visit_form i Sequence visit a p env s =
    on_found (filled_by p a) stuck λ f.
    in_order (items_of i env) (visit_in i visit f env) 0 (nodes i.templates p) s
visit_form i Match visit a p env s =
    on_found (path_value i.templates i.value env (path p)) stuck λ w.
    on_found (as_case i.value w) stuck λ c.
    on_found (nth (arms i.templates p) c.number) stuck λ arm.
    visit a arm (env ++ c.inside ∷ []) s
visit_form i Unknown visit a p env s = stuck

-- "A node reached is tried for 10", and then "it isn't counted as a step"; else "A visit counts one step."
unfoldable pub counted : State → State
counted s = record { steps = suc s.steps; text = s.text }

unfoldable pub reached : Bool → ℕ → (State → End) → State → End
reached true p next s = next (counted s)
reached false p next s = ended fuel_spent p s

-- "Then 11 is tried": k levels are left, this node's own among them; with none left it stands at depth 201, and "it is counted as a step"
unfoldable pub visit : Input → ℕ → Asked → ℕ → List ℕ → State → End
visit i zero a p env s = reached (ltb s.steps i.fuel) p (ended too_deep p) s
visit i (suc k) a p env s = reached (ltb s.steps i.fuel) p (visit_form i (form_of i.templates p) (visit i k) a p env) s

-- "The walk starts with template 0's body and the value as its one variable."
unfoldable pub walk : Input → End
walk i =
    on_found (template i.templates 0) stuck λ q.
    visit i deepest (piece (nonterminal (field_b i.templates q))) (body i.templates q) (0 ∷ []) start
