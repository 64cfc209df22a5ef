use Rattle.rules.specs.Typing.{asks_repetition}
use Rattle.typing.proofs.PositionLaws.{no_repetition}
use Rattle.typing.proofs.suits.asks_repetition.Goals as goal

pub returns-in-Repetition : goal.returns-in-Repetition
unfolding asks_repetition
returns-in-Repetition c = cc

pub returns-in_default : goal.returns-in_default
returns-in_default c = no_repetition _ c.in_default.not-Repetition
