-- The payloads passed stand at the beginning, and the rest is as it was.
use mathlib.Core.Path.{refl}
use native.Mathlib.Omega.{arith}
use Rattle.rules.specs.Blocks.{payloads}
use Rattle.stream.proofs.PackLaws.{payloads_turn, payloads_all}
use Rattle.stream.proofs.pack.put_payloads.Goals as goal

pub loop-n-init : goal.loop-n-init
unfolding payloads
loop-n-init c = refl

pub loop-n-preserved : goal.loop-n-preserved
loop-n-preserved c =
    payloads_turn c.loop-n.n c.args.s.now c.args.out.now c.loop-n.out c.copy_into.new.dst (omega arith) c.loop-n.invariant c.copy_into.ensures

pub returns : goal.returns
returns c = payloads_all _ _ _ _ (omega arith) c.loop-n-test.false c.loop-n.invariant
