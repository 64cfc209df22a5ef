use native.Mathlib.Omega.{arith}
use Rattle.stream.specs.Record.{bytes_of}
use Rattle.layout.specs.Common.{number_of}
use Rattle.layout.proofs.common.number_of.Goals as goal

pub returns : goal.returns
unfolding bytes_of number_of
returns c = omega arith
