use Rattle.std.proofs.Common.{rules}
use Rattle.layout.specs.Grammar.{element_head}
use Rattle.layout.proofs.grammar.is_element.Goals as goal

pub returns-then-e-eq0 : goal.returns-then-e-eq0
unfolding element_head
returns-then-e-eq0 c = search rules

pub returns-else-e-eq0 : goal.returns-else-e-eq0
unfolding element_head
returns-else-e-eq0 c = search rules
