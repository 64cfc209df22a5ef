use Rattle.std.proofs.Common.{rules}
use Rattle.layout.specs.Template.{naming}
use Rattle.layout.proofs.template.names_type.Goals as goal

pub returns-then-r-eq0-2 : goal.returns-then-r-eq0-2
unfolding naming
returns-then-r-eq0-2 c = search rules

pub returns-else-r-eq0-2 : goal.returns-else-r-eq0-2
unfolding naming
returns-else-r-eq0-2 c = search rules
