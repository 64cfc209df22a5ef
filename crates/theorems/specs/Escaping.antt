-- What is promised of escaping, 02 c: two texts never share an escaped form, an escaped form holds no markup, and the unescape call gives back the plain text.
-- (Goes on in proofs/Escaping.antt.)
use Rattle.std.specs.Prelude.{◌≡◌, ◌↔◌, ℕ, ◌≤◌, ◌<◌, List, length}
use Rattle.std.proofs.Common.{sym, ◌∙◌, ap}
use Rattle.std.proofs.Math.Option.{some-injective}
use Rattle.rules.specs.Escape.{escape, unescaped}
use Rattle.rules.specs.Answers.{Written, unescape}
use Rattle.laws.specs.Escapes.{unescaped_of_escape}
use Rattle.theorems.specs.Utf8.{AllScalar, encoded_all}
use Rattle.theorems.specs.Entities.{EscapedForm}
use Rattle.theorems.specs.PackCalls.{Refused, Wrote}

-- "Two titles never share an escaped form.": nor do any two texts
pub escape_injective : (x y : List ℕ) → escape x ≡ escape y → x ≡ y
unfolding unescaped
escape_injective x y e = some-injective x y (sym (unescaped_of_escape x) ∙ ap unescaped e ∙ unescaped_of_escape y)

-- "well-formed UTF-8 (RFC 3629)"
abbrev pub WellFormedUtf8 : List ℕ → Type 0
WellFormedUtf8 x = (cs : List ℕ) × AllScalar cs × (x ≡ encoded_all cs)

-- the text is what escaping makes of x, which is well-formed UTF-8
pub record EscapedFrom (text x : List ℕ) : Type 0 where
  pub well_formed : WellFormedUtf8 x
  pub escaped_form : EscapedForm x text

-- "A call gives the editor the inverse: the plain text, or refusal 8 for any text that escaping makes of no well-formed UTF-8 .., then 12 if the plain text
-- doesn't fit; kind, place and steps are 0, and refused, it writes nothing."
pub data Unescapes (text out : List ℕ) (w : Written) : Type 0 where
  no_plain_text : ((x : List ℕ) → EscapedFrom text x → ⊥) → Refused 8 0 out w → Unescapes text out w
  no_room : (x : List ℕ) → EscapedFrom text x → length out < length x → Refused 12 0 out w → Unescapes text out w
  unescapes : (x : List ℕ) → EscapedFrom text x → length x ≤ length out → Wrote x out w → Unescapes text out w

-- What the call answers and leaves, each exactly when: the plain text, if it fits; 8, whatever the room; 12
pub record UnescapesExactly (text out : List ℕ) : Type 0 where
  pub gives : (x : List ℕ) → Wrote x out (unescape text out) ↔ (EscapedFrom text x × (length x ≤ length out))
  pub by_8 : Refused 8 0 out (unescape text out) ↔ ((x : List ℕ) → EscapedFrom text x → ⊥)
  pub by_12 : Refused 12 0 out (unescape text out) ↔ ((x : List ℕ) × EscapedFrom text x × (length out < length x))
