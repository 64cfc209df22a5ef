-- One bit more.
use Prim.Native.Nat.{◌%◌}
use native.Mathlib.Omega.{arith}
use Rattle.limits.specs.Bits.{marked}
use Rattle.limits.proofs.BitLaws.{with_bit_lem}
use Rattle.limits.proofs.nonterminals.mark.Goals as goal

pub returns : goal.returns
unfolding marked
returns c = rw (with_bit_lem _ (c.args.n % 64) (omega arith))
