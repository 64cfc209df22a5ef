use Rattle.rules.specs.Typing.{asks_nonterminal}
use Rattle.typing.proofs.PositionLaws.{no_nonterminal}
use Rattle.typing.proofs.suits.asks_nonterminal.Goals as goal

pub returns-in-Nonterminal : goal.returns-in-Nonterminal
unfolding asks_nonterminal
returns-in-Nonterminal c = cc

pub returns-in-Nonterminal-2 : goal.returns-in-Nonterminal-2
unfolding asks_nonterminal
returns-in-Nonterminal-2 c = cc

pub returns-in_default : goal.returns-in_default
returns-in_default c = no_nonterminal _ c.in_default.not-Nonterminal c.in_default.not-Item
