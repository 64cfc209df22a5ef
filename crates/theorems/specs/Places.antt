-- What a place writes of the text that its path finds, by what its position asks for.
-- (Goes on in proofs/Places.antt.)
use Rattle.std.specs.Prelude.{ℕ, List}
use Rattle.rules.specs.Grammar.{Element, lexeme}
use Rattle.theorems.specs.Readings.{Escaped, Takes, of_itself, of_its_plain}
use Rattle.theorems.specs.Entities.{EscapedForm}
use Rattle.theorems.specs.Lexemes.{PlainLexeme, Lexeme, a_plain, an_escaped}

-- an escaped class is asked for
pub data AsksEscaped (g : List ℕ) : Element → Type 0 where
  asks_escaped : (c p : ℕ) → Escaped g c p → AsksEscaped g (lexeme c)

-- "a place the text that its path finds"; 02 c, where an escaped class is asked for: "A place there takes text of the plain class and writes the entities."
pub data PlaceWrites (g : List ℕ) (e : Element) (x : List ℕ) : List ℕ → Type 0 where
  as_found : (AsksEscaped g e → ⊥) → PlaceWrites g e x x
  with_entities : (y : List ℕ) → AsksEscaped g e → EscapedForm x y → PlaceWrites g e x y

-- a place writes a lexeme of its class, where its text is one of the class whose text it takes
pub place_lexeme : {g x y : List ℕ} {c d : ℕ} → Takes g c d → PlainLexeme g d x → PlaceWrites g (lexeme c) x y → Lexeme g c y
place_lexeme (of_itself n) l (as_found m) = a_plain l
place_lexeme (of_itself n) l (with_entities y (asks_escaped c p k) f) = absurd (n p k)
place_lexeme {c = c} (of_its_plain p k) l (as_found m) = absurd (m (asks_escaped c p k))
place_lexeme {x = x} (of_its_plain p k) l (with_entities y h f) = an_escaped p x k l f
