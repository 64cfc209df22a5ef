use Rattle.rules.specs.Typing.{asks_item}
use Rattle.typing.proofs.PositionLaws.{no_item}
use Rattle.typing.proofs.suits.asks_item.Goals as goal

pub returns-in-Item : goal.returns-in-Item
unfolding asks_item
returns-in-Item c = cc

pub returns-in_default : goal.returns-in_default
returns-in_default c = no_item _ c.in_default.not-Item
