use Rattle.std.proofs.Common.{rules}
use Rattle.layout.proofs.GrammarLaws.{grammar_right}
use Rattle.layout.proofs.grammar.grammar_layout.Goals as goal

pub returns-in_default : goal.returns-in_default
returns-in_default c = grammar_right _ _ _ c.grammar_end.ensures (search rules)

pub returns : goal.returns
returns c = grammar_right _ _ _ c.grammar_end.ensures (search rules)
