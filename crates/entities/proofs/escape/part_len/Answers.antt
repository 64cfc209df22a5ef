use mathlib.Core.Path.{refl}
use native.Mathlib.Omega.{arith}
use Rattle.rules.specs.Escape.{escape}
use Rattle.entities.proofs.EscapeLaws.{len_more, len_small}
use Rattle.entities.proofs.escape.part_len.Goals as goal

pub loop-b-init : goal.loop-b-init
unfolding escape
loop-b-init c = refl

pub overflow_add-n : goal.overflow_add-n
overflow_add-n c = omega (arith, len_small c.args.part.now c.loop-b.b-index c.loop-b-test.true _ _ c.loop-b.invariant c.byte_len-n.ensures c.requires)

pub loop-b-preserved : goal.loop-b-preserved
loop-b-preserved c = len_more _ _ c.loop-b-test.true _ _ c.loop-b.invariant c.byte_len-n.ensures
