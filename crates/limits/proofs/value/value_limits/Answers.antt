-- The whole value is a row of one.
use borrow.Author.Rules.{rules}
use Rattle.laws.specs.Faults.{every_one}
use Rattle.rules.specs.Records.{heads}
use Rattle.rules.specs.Limits.{deepest, value_limits}
use Rattle.limits.specs.Rows.{values_within}
use Rattle.limits.proofs.value.value_limits.Goals as goal

pub returns : goal.returns
unfolding value_limits values_within deepest heads
returns c = search (rules, every_one)
