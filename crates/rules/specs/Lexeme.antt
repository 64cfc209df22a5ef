-- Lexemes, section "Typing": "A lexeme of a class is well-formed UTF-8 (RFC 3629) with a character count from least to most, each character in some range."
use Rattle.std.specs.Prelude.{ℕ, ◌+◌, ◌-◌, ◌*◌, List, [], ◌∷◌, ◌++◌, Bool, true, false, cond, not, ◌&&◌, ◌||◌, length, eqb, leb}
use Rattle.std.proofs.Math.Option.{Option, none, some}
use Rattle.rules.specs.Faults.{on_found}
use Rattle.rules.specs.Records.{byte_of, field_b, field_c, field_d, row}
use Rattle.rules.specs.Grammar.{plain_class, escaped_class}
use Rattle.rules.specs.Escape.{unescaped}

abbrev pub within : ℕ → ℕ → ℕ → Bool
within low high b = leb low b && leb b high

-- UTF-8 between two bytes: so many bytes of a character are still due, the next of them in low..high; its bits so far; the characters before it
pub record Decoding : Type 0 where
  pub valid : Bool
  pub due : ℕ
  pub low : ℕ
  pub high : ℕ
  pub bits : ℕ
  pub characters : List ℕ

unfoldable pub between : List ℕ → Decoding
between cs = record { valid = true; due = 0; low = 0; high = 0; bits = 0; characters = cs }

unfoldable pub inside : List ℕ → ℕ → ℕ → ℕ → ℕ → Decoding
inside cs n low high bits = record { valid = true; due = n; low = low; high = high; bits = bits; characters = cs }

unfoldable pub broken : Decoding
broken = record { valid = false; due = 0; low = 0; high = 0; bits = 0; characters = [] }

-- RFC 3629, section 4, line by line: the first byte of a character, and the range of the byte after it
unfoldable pub first_byte : List ℕ → ℕ → Decoding
first_byte cs b =
    cond (leb b 0x7f) (between (cs ++ b ∷ []))
    (cond (within 0xc2 0xdf b) (inside cs 1 0x80 0xbf (b - 0xc0))
    (cond (eqb b 0xe0) (inside cs 2 0xa0 0xbf (b - 0xe0))
    (cond (within 0xe1 0xec b) (inside cs 2 0x80 0xbf (b - 0xe0))
    (cond (eqb b 0xed) (inside cs 2 0x80 0x9f (b - 0xe0))
    (cond (within 0xee 0xef b) (inside cs 2 0x80 0xbf (b - 0xe0))
    (cond (eqb b 0xf0) (inside cs 3 0x90 0xbf (b - 0xf0))
    (cond (within 0xf1 0xf3 b) (inside cs 3 0x80 0xbf (b - 0xf0))
    (cond (eqb b 0xf4) (inside cs 3 0x80 0x8f (b - 0xf0))
    broken))))))))

-- a later byte brings six bits; the last one ends the character
unfoldable pub later_byte : Decoding → ℕ → Decoding
later_byte s b =
    cond (not (within s.low s.high b)) broken
    (cond (eqb s.due 1) (between (s.characters ++ (s.bits * 64 + (b - 0x80)) ∷ []))
    (inside s.characters (s.due - 1) 0x80 0xbf (s.bits * 64 + (b - 0x80))))

unfoldable pub next_byte : Decoding → ℕ → Decoding
next_byte s b = cond (not s.valid) broken (cond (eqb s.due 0) (first_byte s.characters b) (later_byte s b))

unfoldable pub decode : Decoding → List ℕ → Decoding
decode s [] = s
decode s (b ∷ bs) = decode (next_byte s b) bs

-- the characters of a text, if it is well-formed
unfoldable pub decoded : Decoding → Option (List ℕ)
decoded s = cond (s.valid && eqb s.due 0) (some s.characters) none

unfoldable pub characters_of : List ℕ → Option (List ℕ)
characters_of text = decoded (decode (between []) text)

-- "2 range: bytes 1-3 lowest and 4-6 highest code point, little-endian"
unfoldable pub lowest : List ℕ → ℕ → ℕ
lowest g r = byte_of g r 1 + 256 * byte_of g r 2 + 65536 * byte_of g r 3

unfoldable pub highest : List ℕ → ℕ → ℕ
highest g r = byte_of g r 4 + 256 * byte_of g r 5 + 65536 * byte_of g r 6

unfoldable pub ranges : List ℕ → ℕ → List ℕ
ranges g p = row (field_d g p) (p + 1)

unfoldable pub in_some : List ℕ → List ℕ → ℕ → Bool
in_some g [] x = false
in_some g (r ∷ rs) x = within (lowest g r) (highest g r) x || in_some g rs x

-- 02 d: "XML 1.0 admits only U+0009, U+000A, U+000D, U+0020-U+D7FF, U+E000-U+FFFD and U+10000-U+10FFFF", its production Char
unfoldable pub is_xml_char : ℕ → Bool
is_xml_char x = eqb x 0x9 || eqb x 0xa || eqb x 0xd || within 0x20 0xd7ff x || within 0xe000 0xfffd x || within 0x10000 0x10ffff x

-- "A character of a lexeme must from now on be one of these as well as lie in a range of its class"
unfoldable pub is_of_class : List ℕ → List ℕ → ℕ → Bool
is_of_class g rs x = is_xml_char x && in_some g rs x

unfoldable pub all_of_class : List ℕ → List ℕ → List ℕ → Bool
all_of_class g rs [] = true
all_of_class g rs (x ∷ xs) = is_of_class g rs x && all_of_class g rs xs

-- "Counts are of characters, never bytes": the class whose record is at p admits the characters
unfoldable pub admits : List ℕ → ℕ → List ℕ → Bool
admits g p cs = within (field_b g p) (field_c g p) (length cs) && all_of_class g (ranges g p) cs

-- a lexeme of a plain class
unfoldable pub is_plain_lexeme : List ℕ → ℕ → List ℕ → Bool
is_plain_lexeme g c text = on_found (plain_class g c) false (λ p. on_found (characters_of text) false (admits g p))

-- of any class. 02 c, of an escaped one: "Its lexemes are the plain lexemes with & < > " ' turned into the five predefined entities"
unfoldable pub is_lexeme : List ℕ → ℕ → List ℕ → Bool
is_lexeme g c text = on_found (escaped_class g c) (is_plain_lexeme g c text) λ p. on_found (unescaped text) false (is_plain_lexeme g (field_b g p))
