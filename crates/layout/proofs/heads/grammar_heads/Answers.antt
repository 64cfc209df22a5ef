use Rattle.layout.proofs.HeadsRowLaws.{grammar_rows}
use Rattle.layout.proofs.heads.grammar_heads.Goals as goal

pub two_rows-requires : goal.two_rows-requires
two_rows-requires c = record { most = _; room = _; first = _; second = _; rows = grammar_rows c.requires.laid_grammar c.whole.ensures.small; fits = c.requires.g_in_bounds }

pub returns : goal.returns
returns c = c.two_rows.ensures _ _ _ _ (grammar_rows c.requires.laid_grammar c.whole.ensures.small) c.requires.g_in_bounds
