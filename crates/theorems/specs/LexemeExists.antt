-- Which classes have a lexeme, for 02 h: "a class with no lexeme counts as underivable". The test goes by intervals, and passes exactly the classes of which
-- some text is a lexeme.
-- (Goes on in proofs/LexemeExists.antt.)
use Rattle.std.specs.Prelude.{ℕ, ◌≤◌, List}
use Rattle.rules.specs.Lexeme.{lowest, highest}
use Rattle.theorems.specs.XmlChars.{XmlChar}

-- a character that XML 1.0 admits is in the range at r; in one of several ranges
abbrev pub HasCharacter : List ℕ → ℕ → Type 0
HasCharacter g r = (x : ℕ) × (lowest g r ≤ x) × (x ≤ highest g r) × XmlChar x
