-- Streams of whole blocks.
use Rattle.std.specs.Prelude.{ℕ, ◌<◌, ◌≡◌, List, get_or}
use Rattle.std.proofs.Math.Option.{none}
use Rattle.rules.specs.Blocks.{stream_length}

-- refusal 1 lets s through, and it is of bytes
pub record Whole (s : List ℕ) : Type 0 where
  pub sized : stream_length s ≡ none
  pub small : (k : ℕ) → get_or s k 0 < 256
