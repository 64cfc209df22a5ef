-- A build by the count of productions, an expand by that of templates.
use borrow.Author.Rules.{rules}
use Rattle.rules.specs.Names.{form_named}
use Rattle.limits.proofs.NameLaws.{production_there, template_there}
use Rattle.limits.proofs.names.is_named.Goals as goal

pub returns-in-Build : goal.returns-in-Build
unfolding form_named
returns-in-Build c = search (rules, production_there)

pub returns-in-Expand : goal.returns-in-Expand
unfolding form_named
returns-in-Expand c = search (rules, template_there)
