-- How a test comes out, in code and in the definitions: `Ok` where nothing offends, `Err` with the place of the first offending thing; the
-- definitions have an optional number in its place.
use Rattle.std.specs.Prelude.{ℕ, ◌-◌, List}
use Rattle.std.proofs.Math.Option.{Option, none, some}
use Rattle.rules.specs.Faults.{need, every}
use Rattle.rules.specs.Records.{row}
use Rattle.rules.specs.Blocks.{block_right}
use Rattle.std.specs.Prelude.{Result, Ok, Err}

abbrev pub fault_of : {T : Type 0} → Result T ℕ → Option ℕ
fault_of (Err place) = some place
fault_of (Ok _) = none

-- refusal 2 in the blocks from n on, of k
abbrev pub fault_from : ℕ → List ℕ → ℕ → ℕ → Option ℕ
fault_from kind s k n = every (λ m. need (block_right kind s m) m) (row (k - n) n)
