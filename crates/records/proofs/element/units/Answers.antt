use Rattle.rules.specs.Records.{units}
use borrow.Author.Rules.{rules}
use Rattle.records.proofs.element.units.Goals as goal

pub returns : goal.returns
unfolding units
returns c = search rules
