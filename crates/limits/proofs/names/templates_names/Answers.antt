-- What a template set names: types, then templates.
use borrow.Author.Rules.{rules}
use Rattle.rules.specs.Faults.{both}
use Rattle.rules.specs.Names.{templates_names}
use Rattle.limits.specs.Rows.{types_named, templates_named}
use Rattle.limits.proofs.names.templates_names.Goals as goal

pub returns-in_err-types_named : goal.returns-in_err-types_named
unfolding templates_names types_named both
returns-in_err-types_named c = search rules

pub returns : goal.returns
unfolding templates_names types_named templates_named both
returns c = search rules
