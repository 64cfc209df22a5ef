-- The table of productions, which has marks of the escaped classes in it.
use Rattle.std.specs.Prelude.{ℕ, ◌≡◌, List, [], ◌∷◌, ◌++◌, map, Bool, false, cond, length, get_or, eqb}
use Rattle.rules.specs.Faults.{exists}
use Rattle.rules.specs.Records.{kind_of}
use Rattle.rules.specs.Grammar.{Element, keyword, lexeme, nonterminal, repetition, unknown, productions, escaped_class}
use Rattle.rules.specs.Escape.{escape}
use Rattle.rules.specs.Walk.{piece, written_for}
use Rattle.walk.specs.Nodes.{element_for}

-- a mark for each class, 1 for an escaped one, then the heads of the productions, then how many marks there are. Where no class is escaped there
-- are no marks
pub record ProductionHeads (g heads : List ℕ) : Type 0 where
  pub marks : List ℕ
  pub is : heads ≡ marks ++ (productions g ++ length marks ∷ [])
  pub tells : (c : ℕ) → exists (escaped_class g c) ≡ eqb (get_or marks c 0) 1

-- whether the position of an element asks for a lexeme of an escaped class
unfoldable pub escapes_for : List ℕ → Element → Bool
escapes_for g (keyword x) = false
escapes_for g (lexeme c) = exists (escaped_class g c)
escapes_for g (nonterminal n) = false
escapes_for g (repetition n x) = false
escapes_for g unknown = false

abbrev pub escapes_at : List ℕ → ℕ → Bool
escapes_at g element = escapes_for g (element_for g element)

-- what is written for a text there: the text as it stands, or its escaped form
pub record PlaceText (g : List ℕ) (element : ℕ) (x : List ℕ) (plain : Bool) : Type 0 where
  pub is : written_for g (piece (element_for g element)) x ≡ cond plain x (escape x)

-- the mark of the class whose head is at p; the marks of all, and how many are used
unfoldable pub mark_of : List ℕ → ℕ → ℕ
mark_of g p = cond (eqb (kind_of g p) 5) 1 0

pub record Marked (g before after : List ℕ) (r : ℕ) : Type 0 where
  pub each : after ≡ map (mark_of g) before
  pub all_used : (r ≡ 0 → ⊥) → r ≡ length before
  pub none_used : r ≡ 0 → (k : ℕ) → get_or after k 0 ≡ 0
