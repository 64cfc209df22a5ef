-- The blocks passed stand at the beginning, and the rest is as it was.
use mathlib.Core.Path.{refl}
use native.Mathlib.Omega.{arith}
use Rattle.rules.specs.Blocks.{fnv_start}
use Rattle.stream.proofs.PackLaws.{chain_begins, chain_turn, chain_all}
use Rattle.stream.proofs.pack.put_blocks.Goals as goal

pub loop-n-init : goal.loop-n-init
unfolding fnv_start
loop-n-init c = (refl, chain_begins _ _ _)

pub loop-n-preserved : goal.loop-n-preserved
loop-n-preserved c = (
  refl,
  chain_turn _ c.args.payload.now c.args.out.now c.loop-n.out _ _ c.loop-n.n refl c.loop-n-test.true c.loop-n.invariant.1
      c.min-to.result _ c.put_block-start.new.out c.min-to.ensures c.put_block-start.ensures.0 c.put_block-start.ensures.1,
)

pub returns : goal.returns
returns c = chain_all _ _ _ _ _ _ _ refl (omega arith) c.loop-n-test.false c.loop-n.invariant.1
