use Rattle.std.proofs.Common.{rules}
use Rattle.layout.specs.Template.{path_record}
use Rattle.layout.proofs.template.is_path.Goals as goal

pub returns-then-steps-le5 : goal.returns-then-steps-le5
unfolding path_record
returns-then-steps-le5 c = search rules

pub returns-else-steps-le5 : goal.returns-else-steps-le5
unfolding path_record
returns-else-steps-le5 c = search rules
