-- A type: its head, then its fields.
use borrow.Author.Rules.{rules}
use Rattle.rules.specs.Faults.{need, both}
use Rattle.rules.specs.Templates.{field_heads}
use Rattle.rules.specs.Names.{type_names}
use Rattle.limits.specs.Rows.{types_below}
use Rattle.limits.proofs.names.type_names.Goals as goal

pub returns-then-not-type_named : goal.returns-then-not-type_named
unfolding type_names both need types_below field_heads
returns-then-not-type_named c = search rules

pub returns : goal.returns
unfolding type_names both need types_below field_heads
returns c = search rules
