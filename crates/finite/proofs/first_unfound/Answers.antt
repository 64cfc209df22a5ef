-- What isn't found of the productions from the next on is what isn't found of all of them.
use borrow.Author.Rules.{rules}
use Rattle.std.proofs.Common.{arith}
use Rattle.std.proofs.lemmas.Grind.{common_steps}
use Rattle.laws.specs.Lists.{drop_more, drop_done}
use Rattle.rules.specs.Faults.{need, both, every}
use Rattle.finite.specs.Found.{unfound}
use Rattle.finite.proofs.first_unfound.Goals as goal

pub loop-p-init : goal.loop-p-init
unfolding unfound
loop-p-init c = search rules

pub returns-then-not-is_marked : goal.returns-then-not-is_marked
unfolding every both need
returns-then-not-is_marked c = search (rules, drop_more)

pub loop-p-preserved : goal.loop-p-preserved
unfolding every both need
loop-p-preserved c = grind (arith, common_steps, drop_more)

pub returns : goal.returns
unfolding every
returns c = search (rules, drop_done)
