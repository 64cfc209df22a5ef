-- What is wrong in the classes from n on is what is wrong in all of them.
use borrow.Author.Rules.{rules}
use Rattle.std.proofs.Common.{arith}
use Rattle.std.proofs.lemmas.Grind.{common_steps}
use Rattle.laws.specs.Lists.{numbered_more, numbered_done}
use Rattle.rules.specs.Faults.{every, both, need}
use Rattle.limits.specs.Rows.{classes_named}
use Rattle.limits.proofs.grammar.classes_named.Goals as goal

pub loop-n-init : goal.loop-n-init
unfolding classes_named
loop-n-init c = search rules

pub returns-then-not-class_named : goal.returns-then-not-class_named
unfolding every both need
returns-then-not-class_named c = search (rules, numbered_more)

pub loop-n-preserved : goal.loop-n-preserved
unfolding every both need
loop-n-preserved c = grind (arith, common_steps, numbered_more)

pub returns : goal.returns
unfolding every
returns c = search (rules, numbered_done)
