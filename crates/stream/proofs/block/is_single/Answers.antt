-- Each return is the test of the definition that failed, or the last one.
use borrow.Author.Tests.{ne_eqb}
use Rattle.stream.proofs.block.is_single.Goals as goal

pub returns-then-b-ne512 : goal.returns-then-b-ne512
returns-then-b-ne512 c = simp (ne_eqb _ _ c.if-b-ne512.true)
