-- Typing as judgements, in the manner of the static rules of source document 001 (its Fig. 10), in the words of section "Typing".
use Rattle.std.specs.Prelude.{◌≡◌, ℕ, List, [], ◌∷◌, ◌++◌}
use Rattle.std.proofs.Math.Option.{some}
use Rattle.rules.specs.Records.{kind_of, field_a, field_b, text_of, nth}
use Rattle.rules.specs.Grammar.{production, Element, keyword, elements}
use Rattle.rules.specs.Templates.{text, yes_no, list, fields, cases, type_of, template, parameters, form_of, nodes, paths, path, first, second, arms, variable, field_numbers}
use Rattle.rules.specs.Value.{children, content}
use Rattle.rules.specs.declared.Form.TheVariants.{Build, Literal, Place, Expand, If, For, Sequence, Match}
use Rattle.rules.specs.declared.Position.{Position}
use Rattle.rules.specs.declared.Position.TheVariants.{Class, Nonterminal, Repetition, Item}
use Rattle.theorems.specs.Readings.{Takes}
use Rattle.theorems.specs.Lexemes.{PlainLexeme, Lexeme}
use Rattle.theorems.specs.Children.{Asks}

-- 001's `T ⊢ texpr : τ`: the variable's type, then field by field
pub data Along (t : List ℕ) : List ℕ → ℕ → ℕ → Type 0 where
  arrived : (ty : ℕ) → Along t [] ty ty
  a_field : (j ty next to : ℕ) (js tys : List ℕ) → type_of t ty ≡ fields tys → nth tys j ≡ some next → Along t js next to → Along t (j ∷ js) ty to

pub record PathTyped (t vars : List ℕ) (p ty : ℕ) : Type 0 where
  pub from : ℕ
  pub variable_there : nth vars (variable t p) ≡ some from
  pub along : Along t (field_numbers t p) from ty

-- "argument types equal by number", one path for each parameter
pub data Arguments (t vars : List ℕ) : List ℕ → List ℕ → Type 0 where
  no_argument : Arguments t vars [] []
  an_argument : (p ty : ℕ) (ps tys : List ℕ) → PathTyped t vars p ty → Arguments t vars ps tys → Arguments t vars (p ∷ ps) (ty ∷ tys)

mutual
  -- 001's `Θ, T ⊢ tstmt : dn`: with variables of these types, the node suits the position
  pub data Suits (g t : List ℕ) : List ℕ → ℕ → Position → Type 0 where
    -- a grammar rule's: "a build of one of its productions"
    by_build : (vars : List ℕ) (p n q : ℕ) → form_of t p ≡ Build → production g (field_b t p) ≡ some q → field_b g q ≡ n
        → Fills g t vars (elements g q) (nodes t p) → Suits g t vars p (Nonterminal n)
    -- a morphem class's: "a literal that is a lexeme"
    by_literal : (vars : List ℕ) (p c : ℕ) → form_of t p ≡ Literal → Lexeme g c (text_of t (field_b t p) p) → Suits g t vars p (Class c)
    -- [expr]: "a place whose path has type text of that very class"; 02 c, of an escaped class: "A place there takes text of the plain class"
    by_place : (vars : List ℕ) (p c d ty : ℕ) → form_of t p ≡ Place → PathTyped t vars (path p) ty → type_of t ty ≡ text d → Takes g c d
        → Suits g t vars p (Class c)
    -- [expand]: "an expand of a template with that nonterminal and argument types equal by number"
    by_expand : (vars : List ℕ) (p n q : ℕ) → form_of t p ≡ Expand → template t (field_b t p) ≡ some q → field_b t q ≡ n
        → Arguments t vars (paths t p) (parameters t q) → Suits g t vars p (Nonterminal n)
    -- [if]: "an if on yes/no with both branches in the same position"
    by_if : (vars : List ℕ) (p n ty : ℕ) → form_of t p ≡ If → PathTyped t vars (path p) ty → type_of t ty ≡ yes_no
        → Suits g t vars (first p) (Nonterminal n) → Suits g t vars (second t p) (Nonterminal n) → Suits g t vars p (Nonterminal n)
    -- [for]: "a for over a list, whose body is one such node"
    by_for : (vars : List ℕ) (p n ty item : ℕ) → form_of t p ≡ For → PathTyped t vars (path p) ty → type_of t ty ≡ list item
        → Suits g t (vars ++ item ∷ []) (first p) (Nonterminal n) → Suits g t vars p (Item n)
    -- "a sequence, whose items are nodes in the position of its nonterminal or a for"
    by_sequence : (vars : List ℕ) (p n : ℕ) → form_of t p ≡ Sequence → Items g t vars n (nodes t p) → Suits g t vars p (Repetition n)
    as_item : (vars : List ℕ) (p n : ℕ) → Suits g t vars p (Nonterminal n) → Suits g t vars p (Item n)
    -- 02 g: "A match stands where an if may stand"; "a path, then d nodes, one for each case in order"
    by_match : (vars : List ℕ) (p n ty : ℕ) (tys : List ℕ) → form_of t p ≡ Match → PathTyped t vars (path p) ty → type_of t ty ≡ cases tys
        → Arms g t vars n tys (arms t p) → Suits g t vars p (Nonterminal n)

  -- one child for each element that is no keyword, each in the position of its element
  pub data Fills (g t : List ℕ) : List ℕ → List Element → List ℕ → Type 0 where
    all_filled : (vars : List ℕ) → Fills g t vars [] []
    no_child : (vars x : List ℕ) (es : List Element) (cs : List ℕ) → Fills g t vars es cs → Fills g t vars (keyword x ∷ es) cs
    a_child : (vars : List ℕ) (e : Element) (at : Position) (p : ℕ) (es : List Element) (cs : List ℕ) → Asks e at → Suits g t vars p at
        → Fills g t vars es cs → Fills g t vars (e ∷ es) (p ∷ cs)

  pub data Items (g t : List ℕ) : List ℕ → ℕ → List ℕ → Type 0 where
    no_item : (vars : List ℕ) (n : ℕ) → Items g t vars n []
    an_item : (vars : List ℕ) (n p : ℕ) (ps : List ℕ) → Suits g t vars p (Item n) → Items g t vars n ps → Items g t vars n (p ∷ ps)

  -- "each seeing one more variable, the case's content. A missing or extra arm fails typing."
  pub data Arms (g t : List ℕ) : List ℕ → ℕ → List ℕ → List ℕ → Type 0 where
    no_arm : (vars : List ℕ) (n : ℕ) → Arms g t vars n [] []
    an_arm : (vars : List ℕ) (n ty p : ℕ) (tys ps : List ℕ) → Suits g t (vars ++ ty ∷ []) p (Nonterminal n) → Arms g t vars n tys ps
        → Arms g t vars n (ty ∷ tys) (p ∷ ps)

-- "Template 0 exists with one parameter, the value's type. That is the declared type."
pub record Declared (t : List ℕ) (ty : ℕ) : Type 0 where
  pub root : ℕ
  pub root_there : template t 0 ≡ some root
  pub one_parameter : parameters t root ≡ ty ∷ []

mutual
  -- "A value is of type text if it is a 1 whose text is a lexeme of the class; of yes/no if a 2; of a list if a 3 whose children are all of its item type;
  -- of a record if a 4 with one child for each field, in order, of that field's type." A text type names a plain class. 02 g: a case "is of the variant if
  -- there is such a case and the child is of that case's type".
  pub data OfType (g t v : List ℕ) : ℕ → ℕ → Type 0 where
    of_text : (ty w c : ℕ) → type_of t ty ≡ text c → kind_of v w ≡ 1 → PlainLexeme g c (text_of v (field_b v w) w) → OfType g t v ty w
    of_yes_no : (ty w : ℕ) → type_of t ty ≡ yes_no → kind_of v w ≡ 2 → OfType g t v ty w
    of_list : (ty w item : ℕ) → type_of t ty ≡ list item → kind_of v w ≡ 3 → AllOf g t v item (children v w) → OfType g t v ty w
    of_record : (ty w : ℕ) (tys : List ℕ) → type_of t ty ≡ fields tys → kind_of v w ≡ 4 → EachOf g t v tys (children v w) → OfType g t v ty w
    of_case : (ty w to : ℕ) (tys : List ℕ) → type_of t ty ≡ cases tys → kind_of v w ≡ 5 → nth tys (field_a v w) ≡ some to → OfType g t v to (content w)
        → OfType g t v ty w

  pub data AllOf (g t v : List ℕ) : ℕ → List ℕ → Type 0 where
    none_left : (ty : ℕ) → AllOf g t v ty []
    one_of : (ty w : ℕ) (ws : List ℕ) → OfType g t v ty w → AllOf g t v ty ws → AllOf g t v ty (w ∷ ws)

  pub data EachOf (g t v : List ℕ) : List ℕ → List ℕ → Type 0 where
    no_field : EachOf g t v [] []
    a_field : (ty w : ℕ) (tys ws : List ℕ) → OfType g t v ty w → EachOf g t v tys ws → EachOf g t v (ty ∷ tys) (w ∷ ws)
