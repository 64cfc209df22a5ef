use Rattle.entities.proofs.EscapeLaws.{own_is}
use Rattle.entities.proofs.entity.is_own.Goals as goal

pub returns : goal.returns
returns c = own_is _ _ _ c.entity_of.ensures c.is_none.ensures
