-- Runs of characters that a class admits.
use Rattle.std.specs.Prelude.{ℕ, ◌+◌, ◌/◌, ◌%◌, ◌≤◌, ◌<◌, ◌≡◌, List, Bool, true, length, get_or, drop}
use Rattle.rules.specs.Lexeme.{ranges}
use Rattle.lexeme.specs.Sets.{bit_at, ClassSet}
use Rattle.lexeme.specs.Scan.{clean, scanned}

-- whether words of 64 bits admit a byte
unfoldable pub admitted : List ℕ → ℕ → Bool
admitted words b = bit_at (get_or words (b / 64) 0) (b % 64)

-- each byte of the part, from a place to another, is admitted by four words
pub record Plain (words part : List ℕ) (from to : ℕ) : Type 0 where
  pub ahead : from ≤ to
  pub inside : to ≤ length part
  pub each : (k : ℕ) → from ≤ k → k < to → admitted words (get_or part k 0) ≡ true

-- from a place to another, the part has so many characters, which every class of this set admits
pub record RunsTo (set part : List ℕ) (from to count : ℕ) : Type 0 where
  pub ahead : from + count ≤ to
  pub inside : to ≤ length part
  pub same : (g : List ℕ) (p : ℕ) → ClassSet g p set → (n : ℕ)
      → scanned g (ranges g p) (clean n) (drop from part) ≡ scanned g (ranges g p) (clean (n + count)) (drop to part)
