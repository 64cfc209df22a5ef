-- What is wrong in the templates from the next on is what is wrong in all of them.
use borrow.Author.Rules.{rules}
use Rattle.std.proofs.Common.{arith}
use Rattle.std.proofs.lemmas.Grind.{common_steps}
use Rattle.laws.specs.Lists.{drop_more, drop_done}
use Rattle.rules.specs.Faults.{every, both}
use Rattle.rules.specs.Limits.{templates_limits}
use Rattle.limits.proofs.templates.templates_limits.Goals as goal

pub loop-p-init : goal.loop-p-init
unfolding templates_limits
loop-p-init c = search rules

pub returns-in_err-template_limits : goal.returns-in_err-template_limits
unfolding every both
returns-in_err-template_limits c = search (rules, drop_more)

pub loop-p-preserved : goal.loop-p-preserved
unfolding every both
loop-p-preserved c = grind (arith, common_steps, drop_more)

pub returns : goal.returns
unfolding every
returns c = search (rules, drop_done)
