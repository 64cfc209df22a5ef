-- The plain text of an escaped one, measured from a place on.
use Rattle.std.specs.Prelude.{ℕ, ◌+◌, ◌≤◌, ◌<◌, ◌≡◌, List, length, get_or, true, Option as Maybe, Some, None}
use Rattle.std.proofs.Math.Option.{Option, none, some}
use Rattle.rules.specs.Faults.{on_found, only_if}
use Rattle.rules.specs.Escape.{unescaped}
use Rattle.entities.specs.declared.utf8.Utf8.{Utf8}
use Rattle.entities.specs.Entity.{own}
use Rattle.entities.specs.Utf8.{shapes, is_end}

-- n bytes came before, which left UTF-8 so; how many bytes there are, if what follows is a text that ends it well
unfoldable pub length_from : Maybe Utf8 → ℕ → Option (List ℕ) → Option ℕ
length_from u n o = on_found o none λ x. only_if (is_end (shapes u x)) (n + length x)

abbrev pub measured : Maybe ℕ → Option ℕ
measured None = none
measured (Some n) = some n

-- a byte that is a character by itself and its own escaped form; there are only such bytes from a place to another, and inside a character none
pub record Letter (b : ℕ) : Type 0 where
  pub small : b < 0x80
  pub itself : own b ≡ true

pub record Letters (text : List ℕ) (from due r : ℕ) : Type 0 where
  pub onward : from ≤ r
  pub inside : r ≤ length text
  pub letters : (i : ℕ) → from ≤ i → i < r → Letter (get_or text i 0)
  pub idle : (due ≡ 0 → ⊥) → r ≡ from

-- the text is an escaped form, of a text that has at most so many bytes
pub record Plainly (text : List ℕ) (room : ℕ) : Type 0 where
  pub plain : List ℕ
  pub is : unescaped text ≡ some plain
  pub fits : length plain ≤ room
