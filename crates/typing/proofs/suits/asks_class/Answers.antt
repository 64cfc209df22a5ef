use Rattle.rules.specs.Typing.{asks_class}
use Rattle.typing.proofs.PositionLaws.{no_class}
use Rattle.typing.proofs.suits.asks_class.Goals as goal

pub returns-in-Class : goal.returns-in-Class
unfolding asks_class
returns-in-Class c = cc

pub returns-in_default : goal.returns-in_default
returns-in_default c = no_class _ c.in_default.not-Class
