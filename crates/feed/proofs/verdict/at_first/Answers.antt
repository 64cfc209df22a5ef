use Rattle.rules.specs.Faults.{need}
use Rattle.feed.proofs.verdict.at_first.Goals as goal

pub returns-then-right : goal.returns-then-right
unfolding need
returns-then-right c = rw c.if-right.true

pub returns-else-right : goal.returns-else-right
unfolding need
returns-else-right c = rw c.if-right.false
