-- Refusal 13, document 02 h: "A nonterminal with no finite derivation is to be refused, and a class with no lexeme counts as underivable; a repetition may
-- always be empty." What is computed here is tied to the derivation of `Derivation` by `finite_exactly` and `lexeme_exists_exactly` of crate theorems.
use Rattle.std.specs.Prelude.{ℕ, zero, suc, List, [], ◌∷◌, map, Bool, true, false, ◌&&◌, ◌||◌, length, eqb, leb}
use Rattle.std.proofs.Math.Option.{Option}
use Rattle.rules.specs.Faults.{need, every, on_found}
use Rattle.rules.specs.Records.{field_b, field_c, those}
use Rattle.rules.specs.Grammar.{plain_class, plain_of, Element, keyword, lexeme, nonterminal, repetition, unknown, elements, productions}
use Rattle.rules.specs.Lexeme.{lowest, highest, ranges}

-- A lexeme is looked for by intervals. Some number lies in both of two intervals that aren't empty:
unfoldable pub overlap : ℕ → ℕ → ℕ × ℕ → Bool
overlap low high (from, to) = leb low to && leb from high

unfoldable pub overlap_some : ℕ → ℕ → List (ℕ × ℕ) → Bool
overlap_some low high [] = false
overlap_some low high (i ∷ is) = overlap low high i || overlap_some low high is

-- 02 d: "U+0009, U+000A, U+000D, U+0020-U+D7FF, U+E000-U+FFFD and U+10000-U+10FFFF", none of them a surrogate
unfoldable pub xml_intervals : List (ℕ × ℕ)
xml_intervals = (0x9, 0x9) ∷ (0xa, 0xa) ∷ (0xd, 0xd) ∷ (0x20, 0xd7ff) ∷ (0xe000, 0xfffd) ∷ (0x10000, 0x10ffff) ∷ []

-- some character is in the range at r, and in one of several ranges (a range with lowest above highest, which 6 refuses, holds none)
unfoldable pub has_character : List ℕ → ℕ → Bool
has_character g r = leb (lowest g r) (highest g r) && overlap_some (lowest g r) (highest g r) xml_intervals

unfoldable pub some_character : List ℕ → List ℕ → Bool
some_character g [] = false
some_character g (r ∷ rs) = has_character g r || some_character g rs

-- the plain class at p has a lexeme: the empty one if its least is 0, else as many times one character as its least says
unfoldable pub plain_has_lexeme : List ℕ → ℕ → Bool
plain_has_lexeme g p = leb (field_b g p) (field_c g p) && (eqb (field_b g p) 0 || some_character g (ranges g p))

-- class c has one: an escaped class if its plain class has
unfoldable pub has_lexeme : List ℕ → ℕ → Bool
has_lexeme g c = on_found (plain_class g (plain_of g c)) false (plain_has_lexeme g)

-- Whether an element derives a text, and all of several, where these nonterminals are known to derive one
unfoldable pub derivable : List ℕ → (ℕ → Bool) → Element → Bool
derivable g known (keyword x) = true
derivable g known (lexeme c) = has_lexeme g c
derivable g known (nonterminal n) = known n
derivable g known (repetition n x) = true
derivable g known unknown = false

unfoldable pub all_derivable : List ℕ → (ℕ → Bool) → List Element → Bool
all_derivable g known [] = true
all_derivable g known (e ∷ es) = derivable g known e && all_derivable g known es

unfoldable pub is_one_of : List ℕ → ℕ → Bool
is_one_of [] n = false
is_one_of (m ∷ ms) n = eqb m n || is_one_of ms n

-- A round finds the nonterminals of those productions whose elements all derive a text by what was found before it
unfoldable pub round : List ℕ → List ℕ → List ℕ → List ℕ
round g ps found = map (field_b g) (those (λ p. all_derivable g (is_one_of found) (elements g p)) ps)

-- what k rounds over the productions ps find
unfoldable pub rounds : List ℕ → List ℕ → ℕ → List ℕ
rounds g ps zero = []
rounds g ps (suc k) = round g ps (rounds g ps k)

-- as many rounds as productions are enough, since each finds more than the one before it or the same as all after it
unfoldable pub finite : List ℕ → List ℕ
finite g = rounds g (productions g) (length (productions g))

-- "place the first production of the first such nonterminal by record"
unfoldable pub all_among : List ℕ → List ℕ → Option ℕ
all_among g found = every (λ p. need (is_one_of found (field_b g p)) p) (productions g)

unfoldable pub grammar_finite : List ℕ → Option ℕ
grammar_finite g = all_among g (finite g)
