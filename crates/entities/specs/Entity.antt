-- What a byte is turned into, and what a text begins with: the escaped form of a byte, or of none.
use Rattle.std.specs.Prelude.{ℕ, ◌≤◌, ◌<◌, ◌≡◌, List, [], ◌∷◌, length, drop, Bool, eqb, Option as Maybe, Some, None}
use Rattle.std.specs.Borrow.{Bor}
use Rattle.std.proofs.Math.Option.{Option, none, some}
use Rattle.rules.specs.Faults.{on_found}
use Rattle.rules.specs.Escape.{entity, plain_byte, unescaped}
use Rattle.stream.specs.declared.text.Text.{Text}
use Rattle.stream.specs.Text.{text_in}
use Rattle.entities.specs.declared.entity.Plain.{Plain}

-- a byte is one of the five, and e what it is turned into; or it stands for itself
pub record Turns (b : ℕ) (e : List ℕ) : Type 0 where
  pub into : entity b ≡ e
  pub long : 4 ≤ length e

abbrev pub EntityOf : ℕ → Maybe (Bor (List ℕ)) → Type 0
EntityOf b None = entity b ≡ b ∷ []
EntityOf b (Some e) = Turns b e.now

-- whether a byte stands for itself
unfoldable pub own : ℕ → Bool
own b = eqb (length (entity b)) 1

-- the byte whose escaped form a text begins with
unfoldable pub plain_in : List ℕ → Option ℕ
plain_in [] = none
plain_in (b ∷ bs) = plain_byte b bs

-- r tells it, and how many bytes that form has
pub record Read (text : List ℕ) (r : Plain) : Type 0 where
  pub told : plain_in text ≡ some r.byte
  pub long : r.length ≡ length (entity r.byte)

abbrev pub Reads : List ℕ → Maybe Plain → Type 0
Reads text None = plain_in text ≡ none
Reads text (Some r) = Read text r

-- so r is the first byte of the plain text whose escaped form is given, with the length of its own escaped form; without one there is no such text
pub record Begun (text : List ℕ) (r : Plain) : Type 0 where
  pub one : unescaped text ≡ on_found (unescaped (drop r.length text)) none λ x. some (r.byte ∷ x)
  pub inside : r.length ≤ length text
  pub onward : 1 ≤ r.length
  pub short : r.length ≤ 6

abbrev pub PlainAt : List ℕ → Maybe Plain → Type 0
PlainAt text None = unescaped text ≡ none
PlainAt text (Some r) = Begun text r

-- the same of a text in a stream, which has a byte of it
pub record NoneIn (s : List ℕ) (t : Text) : Type 0 where
  pub reads : plain_in (text_in s t) ≡ none
  pub plain : unescaped (text_in s t) ≡ none
  pub near : t.at < length s

pub record OneIn (s : List ℕ) (t : Text) (r : Plain) : Type 0 where
  pub reads : Read (text_in s t) r
  pub plain : Begun (text_in s t) r
  pub few : r.length ≤ t.left
  pub near : t.at < length s

abbrev pub PlainIn : List ℕ → Text → Maybe Plain → Type 0
PlainIn s t None = NoneIn s t
PlainIn s t (Some r) = OneIn s t r
