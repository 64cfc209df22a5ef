-- The children of a build and the elements of its production: "d children, one per element that is no keyword".
use Rattle.std.specs.Prelude.{ℕ, List, [], ◌∷◌}
use Rattle.rules.specs.Grammar.{Element, keyword, lexeme, nonterminal, repetition, unknown}
use Rattle.rules.specs.declared.Position.{Position}
use Rattle.rules.specs.declared.Position.TheVariants.{Class, Nonterminal, Repetition, Nothing}

-- "Every position asks for a class, a nonterminal or a repetition": the position of an element that is no keyword
pub data Asks : Element → Position → Type 0 where
  asks_a_class : (c : ℕ) → Asks (lexeme c) (Class c)
  asks_a_nonterminal : (n : ℕ) → Asks (nonterminal n) (Nonterminal n)
  asks_a_repetition : (n : ℕ) (x : List ℕ) → Asks (repetition n x) (Repetition n)
  asks_nothing : Asks unknown Nothing

-- as many children as there are elements that are no keyword
pub data OneEach : List Element → List ℕ → Type 0 where
  nothing_left : OneEach [] []
  no_child_for : (x : List ℕ) (es : List Element) (cs : List ℕ) → OneEach es cs → OneEach (keyword x ∷ es) cs
  one_child_for : (e : Element) (at : Position) (c : ℕ) (es : List Element) (cs : List ℕ) → Asks e at → OneEach es cs → OneEach (e ∷ es) (c ∷ cs)

-- the child c is the one for the element e: a keyword takes none of the children, any other element the next
pub data ChildFor : List Element → List ℕ → Element → ℕ → Type 0 where
  this_child : (e : Element) (at : Position) (c : ℕ) (es : List Element) (cs : List ℕ) → Asks e at → ChildFor (e ∷ es) (c ∷ cs) e c
  past_keyword : (x : List ℕ) (e : Element) (c : ℕ) (es : List Element) (cs : List ℕ) → ChildFor es cs e c → ChildFor (keyword x ∷ es) cs e c
  past_child : (e e' : Element) (at : Position) (c c' : ℕ) (es : List Element) (cs : List ℕ) → Asks e' at → ChildFor es cs e c
      → ChildFor (e' ∷ es) (c' ∷ cs) e c
