use Rattle.entities.proofs.PutLaws.{copied}
use Rattle.entities.proofs.unescape.write_plain.Goals as goal

pub returns-then-long-text : goal.returns-then-long-text
returns-then-long-text c = copied _ _ c.requires.0 c.requires.1 c.if-long-text.true c.copy_into.ensures
