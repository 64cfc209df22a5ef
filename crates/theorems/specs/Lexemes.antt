-- A lexeme of a class, in the words of section "Typing", and that the test of `rules` passes exactly these.
-- (Goes on in proofs/Lexemes.antt.)
use Rattle.std.specs.Prelude.{◌≡◌, ℕ, ◌≤◌, List, length}
use Rattle.rules.specs.Records.{field_b, field_c}
use Rattle.rules.specs.Lexeme.{lowest, highest, ranges}
use Rattle.laws.specs.Faults.{In}
use Rattle.theorems.specs.Readings.{Plain, Escaped}
use Rattle.theorems.specs.Entities.{EscapedForm}
use Rattle.theorems.specs.XmlChars.{XmlChar}
use Rattle.theorems.specs.Utf8.{AllScalar, encoded_all}

-- "in some range": from the lowest to the highest code point of one of the ranges whose records are listed
abbrev pub InRange : List ℕ → List ℕ → ℕ → Type 0
InRange g rs x = (r : ℕ) × In r rs × (lowest g r ≤ x) × (x ≤ highest g r)

-- "A lexeme of a class is well-formed UTF-8 (RFC 3629) with a character count from least to most, each character in some range.": of a plain class.
-- 02 d: "A character of a lexeme must from now on be one of these as well as lie in a range of its class"
pub record PlainLexeme (g : List ℕ) (c : ℕ) (text : List ℕ) : Type 0 where
  pub head : ℕ
  pub of_class : Plain g c head
  pub characters : List ℕ
  pub scalars : AllScalar characters
  pub well_formed : text ≡ encoded_all characters
  pub least : field_b g head ≤ length characters
  pub most : length characters ≤ field_c g head
  pub in_some_range : (x : ℕ) → In x characters → InRange g (ranges g head) x
  pub xml_chars : (x : ℕ) → In x characters → XmlChar x

-- 02 c, of an escaped class: "Its lexemes are the plain lexemes with & < > " ' turned into the five predefined entities"
pub data Lexeme (g : List ℕ) (c : ℕ) (text : List ℕ) : Type 0 where
  a_plain : PlainLexeme g c text → Lexeme g c text
  an_escaped : (p : ℕ) (x : List ℕ) → Escaped g c p → PlainLexeme g (field_b g p) x → EscapedForm x text → Lexeme g c text
