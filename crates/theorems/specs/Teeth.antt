-- The derivation rules texts out: what a derived text must be, whatever the rest of the grammar holds.
-- (Goes on in proofs/Teeth.antt.)
use Rattle.std.specs.Prelude.{◌≡◌, ◌↔◌, ℕ, ◌+◌, ◌-◌, ◌*◌, false, length}
use mathlib.Core.List.{List, [], ◌∷◌, ◌++◌, flatten}
use Rattle.std.proofs.Math.Option.{some}
use Rattle.rules.specs.Records.{field_b}
use Rattle.rules.specs.Grammar.{production, Element, keyword, lexeme, nonterminal, repetition, unknown, elements, nonterminal_exists}
use Rattle.rules.specs.Derivation.{Derives, Pieces, Piece}
use Rattle.laws.specs.Faults.{In}
use Rattle.theorems.specs.Lexemes.{Lexeme}

-- "A nonterminal derives a text if one of its productions does", and nothing else
abbrev pub OneProduction : List ℕ → ℕ → List ℕ → Type 0
OneProduction g n x = (k p : ℕ) × (production g k ≡ some p) × (field_b g p ≡ n) × Pieces g (elements g p) x

-- a text that is the first element's piece and then the pieces of the others
abbrev pub PieceThenRest : List ℕ → Element → List Element → List ℕ → Type 0
PieceThenRest g e es x = (y rest : List ℕ) × Piece g e y × Pieces g es rest × (x ≡ y ++ rest)

-- every production of nonterminal n has elements of such a shape
abbrev pub EachProduction : List ℕ → ℕ → (List Element → Type 0) → Type 0
EachProduction g n Shape = (k p : ℕ) → production g k ≡ some p → field_b g p ≡ n → Shape (elements g p)

abbrev pub BeginsWith : List ℕ → List Element → Type 0
BeginsWith w es = (rest : List Element) × (es ≡ keyword w ∷ rest)

abbrev pub EndsWith : List ℕ → List Element → Type 0
EndsWith w es = (front : List Element) × (es ≡ front ++ keyword w ∷ [])

-- "any number of texts in a row, none too, each derived by its nonterminal", with "one separator between neighbours and none elsewhere": the first text, and
-- then each later one after the separator
unfoldable pub each_after : List ℕ → List (List ℕ) → List ℕ
each_after between [] = []
each_after between (y ∷ ys) = between ++ y ++ each_after between ys

unfoldable pub joined : List ℕ → List (List ℕ) → List ℕ
joined between [] = []
joined between (y ∷ ys) = y ++ each_after between ys

abbrev pub InARow : List ℕ → ℕ → List ℕ → List ℕ → Type 0
InARow g n between x = (texts : List (List ℕ)) × (x ≡ joined between texts) × ((y : List ℕ) → In y texts → Derives g n y)

pub record Teeth (g : List ℕ) : Type 0 where
  -- a nonterminal derives what one of its productions does, and nothing else
  pub derives_only : (n : ℕ) (x : List ℕ) → Derives g n x ↔ OneProduction g n x
  -- where each production of a nonterminal begins with one keyword, every text that it derives begins with its bytes; so for the end
  pub begins : (n : ℕ) (w x : List ℕ) → EachProduction g n (BeginsWith w) → Derives g n x → (r : List ℕ) × (x ≡ w ++ r)
  pub ends : (n : ℕ) (w x : List ℕ) → EachProduction g n (EndsWith w) → Derives g n x → (r : List ℕ) × (x ≡ r ++ w)
  -- a nonterminal without a production derives nothing
  pub none_without : (n : ℕ) (x : List ℕ) → nonterminal_exists g n ≡ false → Derives g n x → ⊥
  -- "in element order and with nothing between, one piece for each element", and nothing else
  pub no_element_only : (x : List ℕ) → Pieces g [] x ↔ (x ≡ [])
  pub elements_only : (e : Element) (es : List Element) (x : List ℕ) → Pieces g (e ∷ es) x ↔ PieceThenRest g e es x
  -- a piece is what its element says, and nothing else
  pub keyword_only : (w x : List ℕ) → Piece g (keyword w) x ↔ (x ≡ w)
  pub lexeme_only : (c : ℕ) (x : List ℕ) → Piece g (lexeme c) x ↔ Lexeme g c x
  pub nonterminal_only : (n : ℕ) (x : List ℕ) → Piece g (nonterminal n) x ↔ Derives g n x
  -- what a repetition derives is texts of its nonterminal with its separator between neighbours, and nothing else
  pub repetition_only : (n : ℕ) (between x : List ℕ) → Piece g (repetition n between) x ↔ InARow g n between x
  -- an element whose form there isn't derives nothing
  pub unknown_none : (x : List ℕ) → Piece g unknown x → ⊥
  -- where a separator is empty, a row is the texts one after the other; and k texts have k - 1 separators between them, none where k is 0 or 1
  pub row_unseparated : (texts : List (List ℕ)) → joined [] texts ≡ flatten texts
  pub row_length : (between : List ℕ) (texts : List (List ℕ)) → length (joined between texts) ≡ length (flatten texts) + (length texts - 1) * length between
