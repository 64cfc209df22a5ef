-- The product of 32 bits and the prime fits 64 bits.
use Rattle.rules.specs.Blocks.{multiplied}
use mathlib.Core.Path.{refl}
use Rattle.stream.proofs.fnv.multiply.Goals as goal

pub returns : goal.returns
unfolding multiplied
returns c = refl
