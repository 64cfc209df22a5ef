use Rattle.typing.proofs.KindLaws.{entry_lent}
use Rattle.typing.proofs.kinds.head.Goals as goal

pub returns : goal.returns
returns c = rw (c.copied.ensures, ← c.from.ensures) (entry_lent _ _ _ c.get.ensures.lookup)
