use Rattle.layout.proofs.GrammarLaws.{tells_class}
use Rattle.layout.proofs.sorts.ClassesSort.is_head.Goals as goal

pub returns : goal.returns
returns c = tells_class _ _ c.is_class.ensures
