use mathlib.Core.Path.{ap}
use native.Mathlib.Omega.{arith}
use lib.ListN.{take, length-take}
use Rattle.stream.proofs.blocks.covered.Goals as goal

pub returns : goal.returns
returns c = (ap (take 508) c.block_at-b.ensures.0, simp length-take (omega arith))
