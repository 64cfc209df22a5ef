use native.Mathlib.Omega.{arith}
use Rattle.rules.specs.Records.{base}
use Rattle.stream.proofs.record.address.Goals as goal

pub returns : goal.returns
unfolding base
returns c = omega arith
