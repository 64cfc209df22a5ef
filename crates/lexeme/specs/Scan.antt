-- The scan of a text: the decoding of crate rules, whose characters are counted and held against a class as they come, instead of kept.
use Rattle.std.specs.Prelude.{ℕ, ◌+◌, ◌-◌, ◌*◌, ◌≤◌, ◌<◌, ◌^◌, ◌≡◌, List, [], ◌∷◌, true, cond, ◌&&◌, length, Option, Some, None, option_and_then}
use Rattle.rules.specs.Records.{field_d}
use Rattle.rules.specs.Lexeme.{Decoding, next_byte, all_of_class}
use Rattle.lexeme.specs.declared.scan.Scan.{Scan}
use Rattle.lexeme.specs.Sets.{ClassSet}

-- n characters, and so many bytes of the next still due; n characters
abbrev pub midway : ℕ → ℕ → ℕ → ℕ → ℕ → Scan
midway n due low high bits = record { due = due; low = low; high = high; bits = bits; count = n }

abbrev pub clean : ℕ → Scan
clean n = midway n 0 0 0 0

-- a decoding as the scan knows it, n characters having gone before, if it is well-formed and has only characters that the class admits; rs are the
-- class's ranges in the grammar g
unfoldable pub judged : List ℕ → List ℕ → ℕ → Decoding → Option Scan
judged g rs n d = cond (d.valid && all_of_class g rs d.characters) (Some (midway (n + length d.characters) d.due d.low d.high d.bits)) None

-- a scan as a decoding that has forgotten its characters
unfoldable pub resumed : Scan → Decoding
resumed s = record { valid = true; due = s.due; low = s.low; high = s.high; bits = s.bits; characters = [] }

-- a byte more; all bytes of a text
unfoldable pub seen : List ℕ → List ℕ → Scan → ℕ → Option Scan
seen g rs s b = judged g rs s.count (next_byte (resumed s) b)

unfoldable pub scanned : List ℕ → List ℕ → Scan → List ℕ → Option Scan
scanned g rs s [] = Some s
scanned g rs s (b ∷ bs) = option_and_then (λ t. scanned g rs t bs) (seen g rs s b)

-- a scan as the scans of bytes leave it: the bits fit, and between two characters nothing is due
pub record Tidy (s : Scan) : Type 0 where
  pub fresh : s.due ≡ 0 → s ≡ clean s.count
  pub from : 0 < s.due → 0x80 ≤ s.low
  pub to : 0 < s.due → s.high ≤ 0xbf
  pub short : s.due ≤ 3
  pub few : s.bits < 2 ^ (26 - 6 * s.due)

-- what a later byte asks: the class's set and the number of its ranges, a state that bytes have left inside a character, and room to count one more
pub record LaterByte (g : List ℕ) (p many : ℕ) (set : List ℕ) (s : Scan) : Type 0 where
  pub class : ClassSet g p set
  pub range_count : many ≡ field_d g p
  pub state : Tidy s
  pub due : 0 < s.due
  pub room : s.count + 1 < 2 ^ 64

-- what the scan of a part asks: a part has less than 2^63 bytes
pub record Scans (g : List ℕ) (p many : ℕ) (set : List ℕ) (s : Scan) : Type 0 where
  pub class : ClassSet g p set
  pub range_count : many ≡ field_d g p
  pub state : Tidy s
  pub room : s.count < 2 ^ 63
