-- A class: an escaped one, or least and most, then the ranges.
use borrow.Author.Rules.{rules}
use Rattle.rules.specs.Faults.{need, both}
use Rattle.rules.specs.Lexeme.{ranges}
use Rattle.rules.specs.Classes.{class_bounds, bounds_right}
use Rattle.limits.specs.Rows.{ranges_right}
use Rattle.limits.proofs.classes.bounds_right.Goals as goal

pub returns-then-is_escaped : goal.returns-then-is_escaped
unfolding bounds_right class_bounds both need ranges_right ranges
returns-then-is_escaped c = search rules

pub returns-then-head : goal.returns-then-head
unfolding bounds_right class_bounds both need ranges_right ranges
returns-then-head c = search rules

pub returns : goal.returns
unfolding bounds_right class_bounds both need ranges_right ranges
returns c = search rules
