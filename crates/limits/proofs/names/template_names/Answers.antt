-- What a template names: its nonterminal, its parameters, its body.
use borrow.Author.Rules.{rules}
use Rattle.laws.specs.Faults.{every_one}
use Rattle.rules.specs.Faults.{need, both}
use Rattle.rules.specs.Records.{heads}
use Rattle.rules.specs.Templates.{parameter_heads, body}
use Rattle.rules.specs.Limits.{deepest}
use Rattle.rules.specs.Names.{template_names}
use Rattle.limits.specs.Rows.{nodes_named}
use Rattle.limits.proofs.NameLaws.{parameters_are}
use Rattle.limits.proofs.names.template_names.Goals as goal

pub returns-then-not-is_marked : goal.returns-then-not-is_marked
unfolding template_names both need
returns-then-not-is_marked c = search rules

pub returns-in_err-types_below : goal.returns-in_err-types_below
unfolding template_names both need parameter_heads
returns-in_err-types_below c = search (rules, parameters_are)

pub returns : goal.returns
unfolding template_names both need parameter_heads nodes_named deepest body heads
returns c = search (rules, parameters_are, every_one)
