use Rattle.std.proofs.Common.{rules}
use Rattle.layout.specs.Tree.{yes_no}
use Rattle.layout.proofs.value.yes_no.Goals as goal

pub returns-then-r-eq0-2 : goal.returns-then-r-eq0-2
unfolding yes_no
returns-then-r-eq0-2 c = search rules

pub returns-else-r-eq0-2 : goal.returns-else-r-eq0-2
unfolding yes_no
returns-else-r-eq0-2 c = search rules
