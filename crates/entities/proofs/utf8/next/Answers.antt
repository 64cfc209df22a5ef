use Rattle.entities.proofs.Utf8Laws.{next_first, next_later}
use Rattle.entities.proofs.utf8.next.Goals as goal

pub returns-then-u-eq0 : goal.returns-then-u-eq0
returns-then-u-eq0 c = next_first _ _ c.if-u-eq0.true c.first.ensures

pub returns-else-u-eq0 : goal.returns-else-u-eq0
returns-else-u-eq0 c = next_later _ _ c.if-u-eq0.false c.later.ensures
