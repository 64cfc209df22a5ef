use Rattle.std.proofs.Common.{rules}
use Rattle.layout.proofs.TemplateLaws.{types_then}
use Rattle.layout.proofs.template.templates_layout.Goals as goal

pub returns-in_default : goal.returns-in_default
returns-in_default c = types_then _ _ _ c.types_end.ensures (search rules)

pub returns : goal.returns
returns c = types_then _ _ _ c.types_end.ensures (search rules)
