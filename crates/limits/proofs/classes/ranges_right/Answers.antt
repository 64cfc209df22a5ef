-- What is wrong in the ranges from r on is what is wrong in all of them.
use borrow.Author.Rules.{rules}
use Rattle.std.proofs.Common.{arith, tests}
use Rattle.std.proofs.lemmas.Grind.{common_steps}
use Rattle.rules.specs.Faults.{every, both, need}
use Rattle.limits.specs.Rows.{ranges_right}
use Rattle.limits.proofs.TurnLaws.{row_start, row_turn, row_over}
use Rattle.limits.proofs.classes.ranges_right.Goals as goal

pub loop-r-init : goal.loop-r-init
unfolding ranges_right
loop-r-init c = search (rules, row_start)

pub returns-then-not-is_right : goal.returns-then-not-is_right
unfolding every both need
returns-then-not-is_right c = search (rules, tests, row_turn)

pub loop-r-preserved : goal.loop-r-preserved
unfolding every both need
loop-r-preserved c = grind (arith, common_steps, tests, row_turn)

pub returns : goal.returns
unfolding every
returns c = search (rules, row_over)
