use Rattle.records.proofs.SizeLaws.{two_bytes}
use borrow.Author.Rules.{rules}
use Rattle.records.proofs.production.number_of.Goals as goal

pub returns : goal.returns
returns c = two_bytes _ (search rules) (search rules)
