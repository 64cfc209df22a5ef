use Rattle.stream.proofs.SkipLaws.{next_out, next_in}
use Rattle.stream.proofs.text.text_next.Goals as goal

pub returns-then-t-eq507 : goal.returns-then-t-eq507
returns-then-t-eq507 c = next_out _ c.requires.0 c.if-t-eq507.true

pub returns : goal.returns
returns c = next_in _ c.requires.0 c.if-t-eq507.false
