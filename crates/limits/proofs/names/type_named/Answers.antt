-- A type by its number: of a text, of a list, or another.
use borrow.Author.Rules.{rules}
use Rattle.rules.specs.Templates.{type_at, type_numbered}
use Rattle.rules.specs.Names.{type_named}
use Rattle.limits.proofs.NameLaws.{type_there}
use Rattle.limits.proofs.names.type_named.Goals as goal

pub returns-in-0 : goal.returns-in-0
unfolding type_named type_at type_numbered
returns-in-0 c = search (rules, type_there)

pub returns-in-2 : goal.returns-in-2
unfolding type_named type_at type_numbered
returns-in-2 c = search (rules, type_there)

pub returns-in_default : goal.returns-in_default
unfolding type_named type_at type_numbered
returns-in_default c = search (rules, type_there)
