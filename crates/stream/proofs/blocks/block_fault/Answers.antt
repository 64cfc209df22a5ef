-- What is wrong in the blocks from n on is what is wrong in all of them.
use mathlib.Core.Path.{refl, sym, ◌∙◌}
use native.Mathlib.Nat.{sub-zero}
use native.Mathlib.Omega.{arith}
use Rattle.rules.specs.Blocks.{stream_blocks}
use Rattle.stream.proofs.BlockLaws.{fault_after_four}
use mathlib.Core.Bool.{not}
use mathlib.Core.Path.{ap}
use Rattle.stream.proofs.blocks.block_fault.Goals as goal

pub loop-n-init : goal.loop-n-init
unfolding stream_blocks
loop-n-init c = (omega arith, refl, rw sub-zero)

pub returns-then-not-are_right : goal.returns-then-not-are_right
returns-then-not-are_right c = c.fault_from.ensures ∙ c.loop-n.invariant.2

pub loop-n-preserved : goal.loop-n-preserved
loop-n-preserved c =
    (omega arith, refl, sym (fault_after_four _ _ _ _ c.loop-n-test.true _ c.are_right.ensures (ap not c.if-not-are_right.false)) ∙ c.loop-n.invariant.2)

pub returns : goal.returns
returns c = c.fault_from-2.ensures ∙ c.loop-n.invariant.2
