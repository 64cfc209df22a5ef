-- What is wrong in the blocks from n on is what is wrong in those from the first on.
use mathlib.Core.Path.{sym, ◌∙◌}
use Rattle.stream.proofs.BlockLaws.{told_right, told_wrong, fault_later, fault_here, fault_none}
use mathlib.Core.Bool.{not}
use mathlib.Core.Path.{ap}
use Rattle.stream.proofs.blocks.fault_from.Goals as goal

pub returns-then-not-is_right : goal.returns-then-not-is_right
returns-then-not-is_right c =
    sym (fault_here _ _ _ _ c.loop-n-test.true (told_wrong _ _ c.is_right.ensures (ap not c.if-not-is_right.true))) ∙ c.loop-n.invariant

pub loop-n-preserved : goal.loop-n-preserved
loop-n-preserved c =
    sym (fault_later _ _ _ _ c.loop-n-test.true (told_right _ _ c.is_right.ensures (ap not c.if-not-is_right.false))) ∙ c.loop-n.invariant

pub returns : goal.returns
returns c = sym (fault_none _ _ _ _ c.loop-n-test.false) ∙ c.loop-n.invariant
