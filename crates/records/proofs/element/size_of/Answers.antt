use native.Mathlib.Omega.{arith}
use mathlib.Core.Path.{refl}
use Rattle.rules.specs.Records.{units}
use Rattle.records.proofs.SizeLaws.{keyword_text, separator_text, no_text, element_size_lem}
use borrow.Author.Rules.{rules}
use Rattle.records.proofs.element.size_of.Goals as goal

pub overflow_add-result : goal.overflow_add-result
unfolding units
overflow_add-result c = search rules

pub overflow_add-result-in-4 : goal.overflow_add-result-in-4
unfolding units
overflow_add-result-in-4 c = search rules

pub returns-in-0 : goal.returns-in-0
returns-in-0 c = element_size_lem _ _ _ (keyword_text _ c.in-0.is) (omega arith) c.units.ensures

pub returns-in-4 : goal.returns-in-4
returns-in-4 c = element_size_lem _ _ _ (separator_text _ c.in-4.is) (omega arith) c.units-in-4.ensures

pub returns-in_default : goal.returns-in_default
unfolding units
returns-in_default c = element_size_lem _ _ 0 (no_text _ (omega arith) (omega arith)) (omega arith) refl
