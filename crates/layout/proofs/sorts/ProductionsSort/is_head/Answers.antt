use Rattle.layout.proofs.GrammarLaws.{tells_kind}
use Rattle.layout.proofs.sorts.ProductionsSort.is_head.Goals as goal

pub returns : goal.returns
returns c = tells_kind _ 2
