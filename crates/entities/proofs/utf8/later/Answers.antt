use Rattle.entities.proofs.Utf8Laws.{later_out, later_last, later_more}
use Rattle.entities.proofs.utf8.later.Goals as goal

pub returns-then-u-b : goal.returns-then-u-b
returns-then-u-b c = later_out _ _ c.if-u-b.either

pub returns-then-u-eq1 : goal.returns-then-u-eq1
returns-then-u-eq1 c = rw c.between.ensures (later_last _ _ c.if-u-b.false.0 c.if-u-b.false.1 c.if-u-eq1.true)

pub returns-else-u-eq1 : goal.returns-else-u-eq1
returns-else-u-eq1 c = later_more _ _ c.if-u-b.false.0 c.if-u-b.false.1 c.if-u-eq1.false c.due.ensures
