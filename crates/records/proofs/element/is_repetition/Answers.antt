use borrow.Author.Rules.{rules}
use Rattle.records.specs.Sizes.{repeats}
use Rattle.records.proofs.element.is_repetition.Goals as goal

pub returns-then-e-eq3 : goal.returns-then-e-eq3
unfolding repeats
returns-then-e-eq3 c = search rules

pub returns-else-e-eq3 : goal.returns-else-e-eq3
unfolding repeats
returns-else-e-eq3 c = search rules
