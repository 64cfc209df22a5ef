use Rattle.std.proofs.Common.{rules}
use Rattle.layout.specs.Tree.{case_head}
use Rattle.layout.proofs.value.is_case.Goals as goal

pub returns-then-r-eq0 : goal.returns-then-r-eq0
unfolding case_head
returns-then-r-eq0 c = search rules

pub returns-else-r-eq0 : goal.returns-else-r-eq0
unfolding case_head
returns-else-r-eq0 c = search rules
