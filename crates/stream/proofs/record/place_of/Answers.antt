use native.Mathlib.Omega.{arith}
use Rattle.stream.proofs.RecordLaws.{is_place}
use Rattle.stream.proofs.record.place_of.Goals as goal

pub returns : goal.returns
returns c = is_place _ _ _ c.address.ensures (omega arith)
