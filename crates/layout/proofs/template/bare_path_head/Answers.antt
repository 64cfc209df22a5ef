use Rattle.layout.proofs.TemplateHeads.{bare_path, bare_d}
use Rattle.layout.proofs.template.bare_path_head.Goals as goal

pub returns-then-r-eq0 : goal.returns-then-r-eq0
returns-then-r-eq0 c = λ p e f. bare_path _ p _ f _ c.if-r-eq0.true _ (c.path_head.ensures p e f)

pub returns-else-r-eq0 : goal.returns-else-r-eq0
returns-else-r-eq0 c = λ p e f. bare_d _ p _ f _ c.if-r-eq0.false
