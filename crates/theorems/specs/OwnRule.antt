-- Typing head by head, in the words of section "Typing": where a node stands and its own rule, whatever stands below it; and so for values.
use Rattle.std.specs.Prelude.{◌≡◌, ℕ, List, [], ◌∷◌, ◌++◌, length}
use Rattle.std.proofs.Math.Option.{some}
use Rattle.rules.specs.Records.{kind_of, field_a, field_b, text_of, nth}
use Rattle.rules.specs.Grammar.{production, Element, elements}
use Rattle.rules.specs.Templates.{text, yes_no, list, fields, cases, type_of, template, parameters, body, form_of, nodes, paths, path, first, second, arms}
use Rattle.rules.specs.Value.{children, content}
use Rattle.rules.specs.declared.Form.TheVariants.{Build, Literal, Place, Expand, If, For, Sequence, Match}
use Rattle.rules.specs.declared.Position.{Position}
use Rattle.rules.specs.declared.Position.TheVariants.{Class, Nonterminal, Repetition, Item}
use Rattle.laws.specs.Faults.{In}
use Rattle.theorems.specs.Readings.{Takes}
use Rattle.theorems.specs.Lexemes.{PlainLexeme, Lexeme}
use Rattle.theorems.specs.Children.{Asks, OneEach, ChildFor}
use Rattle.theorems.specs.Judgement.{PathTyped, Arguments, Declared}

-- a text of nonterminal n is asked for: in the nonterminal's position, or as an item, for a sequence's items are "nodes in the position of its nonterminal or a for"
pub data AsksText : Position → ℕ → Type 0 where
  in_its_position : (n : ℕ) → AsksText (Nonterminal n) n
  in_a_sequence : (n : ℕ) → AsksText (Item n) n

-- A node's own rule: with variables of these types the node at p suits the position, whatever stands below it.
pub data Fits (g t vars : List ℕ) (p : ℕ) : Position → Type 0 where
  -- "a build of one of its productions", with "d children, one per element that is no keyword"
  a_build : (at : Position) (q : ℕ) → form_of t p ≡ Build → production g (field_b t p) ≡ some q → AsksText at (field_b g q)
      → OneEach (elements g q) (nodes t p) → Fits g t vars p at
  -- "a literal that is a lexeme"
  a_literal : (c : ℕ) → form_of t p ≡ Literal → Lexeme g c (text_of t (field_b t p) p) → Fits g t vars p (Class c)
  -- "a place whose path has type text of that very class"; 02 c, of an escaped class: "A place there takes text of the plain class"
  a_place : (c d ty : ℕ) → form_of t p ≡ Place → PathTyped t vars (path p) ty → type_of t ty ≡ text d → Takes g c d → Fits g t vars p (Class c)
  -- "an expand of a template with that nonterminal and argument types equal by number"
  an_expand : (at : Position) (q : ℕ) → form_of t p ≡ Expand → template t (field_b t p) ≡ some q → AsksText at (field_b t q)
      → Arguments t vars (paths t p) (parameters t q) → Fits g t vars p at
  -- "an if on yes/no"
  an_if : (at : Position) (n ty : ℕ) → form_of t p ≡ If → AsksText at n → PathTyped t vars (path p) ty → type_of t ty ≡ yes_no → Fits g t vars p at
  -- "a for over a list"
  a_for : (n ty item : ℕ) → form_of t p ≡ For → PathTyped t vars (path p) ty → type_of t ty ≡ list item → Fits g t vars p (Item n)
  -- "a sequence"
  a_sequence : (n : ℕ) → form_of t p ≡ Sequence → Fits g t vars p (Repetition n)
  -- 02 g: "A match stands where an if may stand"; "A missing or extra arm fails typing."
  a_match : (at : Position) (n ty : ℕ) (tys : List ℕ) → form_of t p ≡ Match → AsksText at n → PathTyped t vars (path p) ty → type_of t ty ≡ cases tys
      → length (arms t p) ≡ length tys → Fits g t vars p at

-- What stands directly below a node in a position: the types of its variables, and its own position. It stands there whether or not the node above it fits.
-- Where nothing says a position or a variable's type (for a child or an arm too many, or below a for over no list or a match on no variant), the node above
-- does not fit, and comes first.
pub data ChildNode (g t vars : List ℕ) (p : ℕ) : Position → List ℕ → ℕ → Position → Type 0 where
  -- a build's child, in the position of its element
  build_child : (at at' : Position) (e : Element) (q c : ℕ) → form_of t p ≡ Build → production g (field_b t p) ≡ some q
      → ChildFor (elements g q) (nodes t p) e c → Asks e at' → ChildNode g t vars p at vars c at'
  -- "both branches in the same position"
  first_branch : (at : Position) (n : ℕ) → form_of t p ≡ If → AsksText at n → ChildNode g t vars p at vars (first p) (Nonterminal n)
  second_branch : (at : Position) (n : ℕ) → form_of t p ≡ If → AsksText at n → ChildNode g t vars p at vars (second t p) (Nonterminal n)
  -- "a for over a list, whose body is one such node": the item is one variable more
  loop_body : (n ty item : ℕ) → form_of t p ≡ For → PathTyped t vars (path p) ty → type_of t ty ≡ list item
      → ChildNode g t vars p (Item n) (vars ++ item ∷ []) (first p) (Nonterminal n)
  -- "a sequence, whose items .."
  sequence_item : (n c : ℕ) → form_of t p ≡ Sequence → In c (nodes t p) → ChildNode g t vars p (Repetition n) vars c (Item n)
  -- 02 g: "one for each case in order, each seeing one more variable, the case's content"
  match_arm : (at : Position) (n ty j to c : ℕ) (tys : List ℕ) → form_of t p ≡ Match → AsksText at n → PathTyped t vars (path p) ty → type_of t ty ≡ cases tys
      → nth tys j ≡ some to → nth (arms t p) j ≡ some c → ChildNode g t vars p at (vars ++ to ∷ []) c (Nonterminal n)

-- Where the nodes of the template at p stand: "A body's position is its template's nonterminal." "Variables are the parameters, then the loops from outside in."
pub data Stands (g t : List ℕ) (p : ℕ) : List ℕ → ℕ → Position → Type 0 where
  the_body : Stands g t p (parameters t p) (body t p) (Nonterminal (field_b t p))
  below : (vars vars' : List ℕ) (q c : ℕ) (at at' : Position) → Stands g t p vars q at → ChildNode g t vars q at vars' c at' → Stands g t p vars' c at'

-- A value's own rule: the value at w is of type ty, whatever stands below it. "A value is of type text if it is a 1 whose text is a lexeme of the class; of yes/no
-- if a 2; of a list if a 3 ..; of a record if a 4 with one child for each field". A text type names a plain class.
pub data OfForm (g t v : List ℕ) (ty w : ℕ) : Type 0 where
  a_text : (c : ℕ) → type_of t ty ≡ text c → kind_of v w ≡ 1 → PlainLexeme g c (text_of v (field_b v w) w) → OfForm g t v ty w
  a_yes_no : type_of t ty ≡ yes_no → kind_of v w ≡ 2 → OfForm g t v ty w
  a_list : (item : ℕ) → type_of t ty ≡ list item → kind_of v w ≡ 3 → OfForm g t v ty w
  a_record : (tys : List ℕ) → type_of t ty ≡ fields tys → kind_of v w ≡ 4 → length (children v w) ≡ length tys → OfForm g t v ty w
  -- 02 g: "it is of the variant if there is such a case"
  a_case : (to : ℕ) (tys : List ℕ) → type_of t ty ≡ cases tys → kind_of v w ≡ 5 → nth tys (field_a v w) ≡ some to → OfForm g t v ty w

-- What stands directly below a value that should be of type ty, and the type that it should be of: "whose children are all of its item type"; "in order, of that
-- field's type".
pub data ChildValue (t v : List ℕ) (ty w : ℕ) : ℕ → ℕ → Type 0 where
  list_item : (item u : ℕ) → type_of t ty ≡ list item → kind_of v w ≡ 3 → In u (children v w) → ChildValue t v ty w item u
  record_field : (tys : List ℕ) (j to u : ℕ) → type_of t ty ≡ fields tys → kind_of v w ≡ 4 → nth tys j ≡ some to → nth (children v w) j ≡ some u
      → ChildValue t v ty w to u
  -- 02 g: "and the child is of that case's type"
  case_content : (to : ℕ) (tys : List ℕ) → type_of t ty ≡ cases tys → kind_of v w ≡ 5 → nth tys (field_a v w) ≡ some to → ChildValue t v ty w to (content w)

-- The type that each value in the whole value should be of: "the declared type", and from there on
pub data ShouldBe (t v : List ℕ) : ℕ → ℕ → Type 0 where
  the_whole : (ty : ℕ) → Declared t ty → ShouldBe t v ty 0
  inside : (ty w to u : ℕ) → ShouldBe t v ty w → ChildValue t v ty w to u → ShouldBe t v to u
