-- Rows of records that a range goes through, and what a `?` hands on.
use Prim.Native.Nat.{ℕ, ◌+◌, ◌-◌, ◌≤◌, ◌<◌}
use mathlib.Core.Path.{◌≡◌, refl}
use mathlib.Core.List.{[], ◌∷◌}
use mathlib.Core.Option.{Option, some}
use native.Mathlib.Omega.{arith}
use Rattle.std.specs.Prelude.{Result}
use Rattle.std.specs.Result.{IsErrAnd}
use Rattle.std.proofs.lemmas.Result.{err_from_is_err_and}
use Rattle.rules.specs.Records.{row}
use Rattle.laws.specs.Rows.{heads_more, heads_done}
use Rattle.stream.specs.Fault.{fault_of}

-- the place that one check found is what the whole one answers
pub handed_on : {T : Type 0} (r : Result T ℕ) (e : ℕ) {whole : Option ℕ} → IsErrAnd r (λ x. x ≡ e) → some e ≡ whole → fault_of r ≡ whole
handed_on r e h k = let p = err_from_is_err_and r h in rw (p.1, p.2) k

-- a row of records, whose places a range goes through: before the first turn, at a turn, after the last
pub row_start : (at count : ℕ) → row (at + count - at) at ≡ row count at
row_start at count = let e : at + count - at ≡ count = omega arith in rw e

pub row_turn : (end at : ℕ) → at < end → row (end - at) at ≡ at ∷ row (end - (at + 1)) (at + 1)
unfolding row
row_turn end at l = heads_more (λ q. 1) end at at l 1 refl

pub row_over : (end at : ℕ) → end ≤ at → row (end - at) at ≡ []
unfolding row
row_over end at l = heads_done (λ q. 1) end at at l
