use Rattle.stream.proofs.RecordLaws.{forward_within, forward_past}
use Rattle.stream.proofs.record.forward.Goals as goal

pub returns-then-slot-lt63 : goal.returns-then-slot-lt63
returns-then-slot-lt63 c = λ i e. forward_within _ i _ e c.if-slot-lt63.true

pub returns : goal.returns
returns c = λ i e. forward_past _ i _ _ e c.block_anywhere-blocks.ensures
