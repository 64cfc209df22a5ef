-- What is left to hash, from the present value, is the hash of the whole.
use mathlib.Core.Path.{refl}
use Rattle.stream.proofs.FnvLaws.{fnv_next, fnv_done}
use Rattle.stream.proofs.fnv.fnv1a.Goals as goal

pub loop-byte-preserved : goal.loop-byte-preserved
loop-byte-preserved c = fnv_next _ _ refl _ _ _ c.loop-byte.invariant _ c.loop-byte-test.true c.step-h.ensures

pub returns : goal.returns
returns c = fnv_done _ _ refl _ _ _ c.loop-byte.invariant c.loop-byte-test.false
