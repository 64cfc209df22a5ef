use borrow.Author.Tests.{le-leb, lt-leb}
use Rattle.rules.specs.Blocks.{is_kind}
use Rattle.stream.proofs.block.is_kind.Goals as goal

pub returns-then-kind-ge1 : goal.returns-then-kind-ge1
unfolding is_kind
returns-then-kind-ge1 c = simp (le-leb _ _ c.if-kind-ge1.true)

pub returns-else-kind-ge1 : goal.returns-else-kind-ge1
unfolding is_kind
returns-else-kind-ge1 c = simp (lt-leb _ _ c.if-kind-ge1.false)
