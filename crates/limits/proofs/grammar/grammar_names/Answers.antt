-- The classes first. What is wrong in the productions from the next on is what is wrong in all of them.
use borrow.Author.Rules.{rules}
use Rattle.std.proofs.Common.{arith}
use Rattle.std.proofs.lemmas.Grind.{common_steps}
use Rattle.laws.specs.Lists.{drop_more, drop_done}
use Rattle.rules.specs.Faults.{every, both}
use Rattle.rules.specs.Names.{grammar_names}
use Rattle.limits.specs.Rows.{classes_named, elements_named}
use Rattle.limits.proofs.grammar.grammar_names.Goals as goal

pub returns-in_err-classes_named : goal.returns-in_err-classes_named
unfolding grammar_names classes_named both
returns-in_err-classes_named c = search rules

pub loop-p-init : goal.loop-p-init
unfolding grammar_names classes_named elements_named both
loop-p-init c = search rules

pub returns-in_err-elements_named : goal.returns-in_err-elements_named
unfolding every both
returns-in_err-elements_named c = search (rules, drop_more)

pub loop-p-preserved : goal.loop-p-preserved
unfolding every both
loop-p-preserved c = grind (arith, common_steps, drop_more)

pub returns : goal.returns
unfolding every
returns c = search (rules, drop_done)
