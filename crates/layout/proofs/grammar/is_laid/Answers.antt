use Rattle.std.proofs.Common.{rules}
use Rattle.layout.specs.Grammar.{class_head}
use Rattle.layout.proofs.grammar.is_laid.Goals as goal

pub returns-then-not-is_escaped : goal.returns-then-not-is_escaped
unfolding class_head
returns-then-not-is_escaped c = search rules

pub returns-then-class-eq0 : goal.returns-then-class-eq0
unfolding class_head
returns-then-class-eq0 c = search rules

pub returns-else-class-eq0 : goal.returns-else-class-eq0
unfolding class_head
returns-else-class-eq0 c = search rules
