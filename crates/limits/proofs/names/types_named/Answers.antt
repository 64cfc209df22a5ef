-- What is wrong in the types from n on is what is wrong in all of them.
use borrow.Author.Rules.{rules}
use Rattle.std.proofs.Common.{arith}
use Rattle.std.proofs.lemmas.Grind.{common_steps}
use Rattle.laws.specs.Lists.{numbered_more, numbered_done}
use Rattle.rules.specs.Faults.{every, both}
use Rattle.limits.specs.Rows.{types_named}
use Rattle.limits.proofs.names.types_named.Goals as goal

pub loop-n-init : goal.loop-n-init
unfolding types_named
loop-n-init c = search rules

pub returns-in_err-type_names : goal.returns-in_err-type_names
unfolding every both
returns-in_err-type_names c = search (rules, numbered_more)

pub loop-n-preserved : goal.loop-n-preserved
unfolding every both
loop-n-preserved c = grind (arith, common_steps, numbered_more)

pub returns : goal.returns
unfolding every
returns c = search (rules, numbered_done)
