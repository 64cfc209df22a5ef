-- What is wrong in the classes from the next on is what is wrong in all of them.
use borrow.Author.Rules.{rules}
use Rattle.std.proofs.Common.{arith}
use Rattle.std.proofs.lemmas.Grind.{common_steps}
use Rattle.laws.specs.Lists.{drop_more, drop_done}
use Rattle.rules.specs.Faults.{every, both}
use Rattle.rules.specs.Classes.{grammar_classes}
use Rattle.limits.proofs.classes.grammar_classes.Goals as goal

pub loop-p-init : goal.loop-p-init
unfolding grammar_classes
loop-p-init c = search rules

pub returns-in_err-bounds_right : goal.returns-in_err-bounds_right
unfolding every both
returns-in_err-bounds_right c = search (rules, drop_more)

pub loop-p-preserved : goal.loop-p-preserved
unfolding every both
loop-p-preserved c = grind (arith, common_steps, drop_more)

pub returns : goal.returns
unfolding every
returns c = search (rules, drop_done)
