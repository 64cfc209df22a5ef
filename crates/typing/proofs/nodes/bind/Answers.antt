use Rattle.typing.proofs.NodeLaws.{item_room, content_room, bound_item, bound_content, bound_nothing}
use Rattle.typing.proofs.nodes.bind.Goals as goal

pub bounds-scope-count : goal.bounds-scope-count
bounds-scope-count c = item_room _ _ _ c.requires.1 c.in-Item.is

pub bounds-scope-count-in-Contents : goal.bounds-scope-count-in-Contents
bounds-scope-count-in-Contents c = content_room _ _ _ c.requires.1 c.in-Contents.is

pub returns-in-Nothing : goal.returns-in-Nothing
returns-in-Nothing c = bound_nothing _ _ _ _ _ c.requires.1 c.in-Nothing.is

pub returns-in-Item : goal.returns-in-Item
returns-in-Item c = bound_item _ _ _ _ _ c.requires.1 c.in-Item.is

pub returns-in-Contents : goal.returns-in-Contents
returns-in-Contents c = bound_content _ _ _ _ _ c.requires.1 c.in-Contents.is (rw c.from.ensures at c.fetch.ensures.b)
