use native.Mathlib.Omega.{arith}
use Rattle.records.proofs.SizeLaws.{range_low, range_high}
use Rattle.records.proofs.range.range_at.Goals as goal

pub returns : goal.returns
returns c = record { from = range_low _ _ _ c.fetch-r.ensures; to = range_high _ _ _ c.fetch-r.ensures; near = omega arith; small = omega arith }
