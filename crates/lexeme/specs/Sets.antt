-- A set of characters below U+0800 as 128 numbers of 16 bits.
use Rattle.std.specs.Prelude.{ℕ, ◌+◌, ◌*◌, ◌/◌, ◌%◌, ◌≤◌, ◌<◌, ◌^◌, ◌≡◌, List, Bool, true, ◌&&◌, ◌||◌, length, get_or, take, drop, eqb}
use Rattle.std.proofs.Math.Option.{none, some}
use Rattle.rules.specs.Blocks.{stream_length}
use Rattle.rules.specs.Grammar.{classes, class}
use Rattle.rules.specs.Lexeme.{within, ranges, is_xml_char, is_of_class}

-- bit j of a number
unfoldable pub bit_at : ℕ → ℕ → Bool
bit_at n j = eqb (n / 2 ^ j % 2) 1

-- whether x is in a set
unfoldable pub is_in : List ℕ → ℕ → Bool
is_in set x = bit_at (get_or set (x / 16) 0) (x % 16)

-- four numbers of a set in one: the characters from 64 j on
pub record WordOf (set : List ℕ) (j word : ℕ) : Type 0 where
  pub bits : (i : ℕ) → i < 64 → bit_at word i ≡ is_in set (64 * j + i)

-- of the characters from low to high, those of number w are added to a set
pub record Added (low high w : ℕ) (before after : List ℕ) : Type 0 where
  pub here : (x : ℕ) → x < 2048 → x / 16 ≡ w → is_in after x ≡ (is_in before x || within low high x)
  pub other : (x : ℕ) → (x / 16 ≡ w → ⊥) → is_in after x ≡ is_in before x

-- all characters of the numbers from a place to another are added
pub record Filled (from to : ℕ) (before after : List ℕ) : Type 0 where
  pub here : (x : ℕ) → from ≤ x / 16 → x / 16 < to → is_in after x ≡ true
  pub below : (x : ℕ) → x / 16 < from → is_in after x ≡ is_in before x
  pub above : (x : ℕ) → to ≤ x / 16 → is_in after x ≡ is_in before x

-- of the characters of number w, those that XML 1.0 admits stay in a set
pub record XmlKept (w : ℕ) (before after : List ℕ) : Type 0 where
  pub here : (x : ℕ) → x / 16 ≡ w → is_in after x ≡ (is_xml_char x && is_in before x)
  pub other : (x : ℕ) → (x / 16 ≡ w → ⊥) → is_in after x ≡ is_in before x

-- the set of the class whose record is at p: the characters below U+0800 that are of the class. It is made only of a grammar that
-- refusal 1 let through, so who has a set may fetch the class's records.
pub record ClassSet (g : List ℕ) (p : ℕ) (set : List ℕ) : Type 0 where
  pub grammar_sized : stream_length g ≡ none
  pub size : length set ≡ 128
  pub same : (x : ℕ) → x < 2048 → is_in set x ≡ is_of_class g (ranges g p) x

-- the set of class n, in the table of all sets
unfoldable pub set_of : List ℕ → ℕ → List ℕ
set_of sets n = take 128 (drop (128 * n) sets)

-- the table has the set of every class that the grammar has
pub record Compiled (g sets : List ℕ) : Type 0 where
  pub each : (n p : ℕ) → class g n ≡ some p → ClassSet g p (set_of sets n)

-- what is lent to compile them: the heads of the classes in their order, and room for a set each; of what is lent beyond that nothing is promised
pub record SetsLent (g list table : List ℕ) : Type 0 where
  pub grammar_sized : stream_length g ≡ none
  pub heads : list ≡ classes g
  pub room : 128 * length list ≤ length table

-- what a test of a lexeme is lent
pub record LexemesReady (g list table : List ℕ) : Type 0 where
  pub grammar_sized : stream_length g ≡ none
  pub heads : list ≡ classes g
  pub sets : Compiled g table
