use Rattle.std.proofs.Common.{refl}
use Rattle.entities.proofs.WindowLaws.{window_tells}
use Rattle.entities.proofs.entity.plain_in.Goals as goal

pub returns : goal.returns
returns c = window_tells _ _ _ c.copy_text.ensures refl c.min-n.ensures c.requires.1 _ c.requires.0 c.plain_at.ensures
