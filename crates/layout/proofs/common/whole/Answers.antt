use Rattle.layout.proofs.common.whole.Goals as goal

pub returns : goal.returns
returns c = rw (← c.bytes.ensures.bytes) c.bytes.ensures.whole
