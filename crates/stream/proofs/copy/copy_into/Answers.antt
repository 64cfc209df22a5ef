use native.Mathlib.Omega.{arith}
use Rattle.laws.specs.Writes.{copy_more, copy_all}
use Rattle.stream.proofs.copy.copy_into.Goals as goal

pub loop-j-preserved : goal.loop-j-preserved
loop-j-preserved c = copy_more _ _ _ _ c.loop-j-test.true c.requires c.loop-j.invariant

pub returns : goal.returns
returns c = copy_all _ _ _ _ (omega arith) c.loop-j-test.false c.loop-j.invariant
