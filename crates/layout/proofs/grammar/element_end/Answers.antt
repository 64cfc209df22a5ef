use mathlib.Core.Path.{sym, ◌∙◌}
use native.Mathlib.Omega.{arith}
use Rattle.rules.specs.Records.{units}
use Rattle.std.proofs.Common.{rules}
use Rattle.std.proofs.iter.Serving.{serving}
use Rattle.layout.proofs.GrammarLaws.{element_broken, element_unpadded, element_padded, element_near}
use Rattle.layout.proofs.grammar.element_end.Goals as goal

pub returns-then-not-is_element : goal.returns-then-not-is_element
returns-then-not-is_element c = sym (element_broken c.fetch-e.ensures (sym c.is_element.ensures ∙ c.if-not-is_element.true))

pub padded-requires : goal.padded-requires
unfolding units
padded-requires c = λ n e. let l = element_near c.fetch-e.ensures c.whole.ensures.sized (sym c.is_element.ensures ∙ c.if-not-is_element.false) in search (rules, serving)

pub overflow_add-result : goal.overflow_add-result
overflow_add-result c = record { fits = omega (arith, element_near c.fetch-e.ensures c.whole.ensures.sized (sym c.is_element.ensures ∙ c.if-not-is_element.false)) }

pub overflow_add-result-then-padded : goal.overflow_add-result-then-padded
unfolding units
overflow_add-result-then-padded c = record { fits = omega (arith, element_near c.fetch-e.ensures c.whole.ensures.sized (sym c.is_element.ensures ∙ c.if-not-is_element.false), c.units.ensures) }

pub returns-then-padded : goal.returns-then-padded
returns-then-padded c = sym (element_padded c.fetch-e.ensures (c.text_length-text.ensures.is _ _ c.fetch-e.ensures) (sym c.is_element.ensures ∙ c.if-not-is_element.false) (c.padded.ensures _ _ (λ n r e h. h)) c.if-padded.true _ c.units.ensures)

pub returns-else-padded : goal.returns-else-padded
returns-else-padded c = sym (element_unpadded c.fetch-e.ensures (c.text_length-text.ensures.is _ _ c.fetch-e.ensures) (sym c.is_element.ensures ∙ c.if-not-is_element.false) (c.padded.ensures _ _ (λ n r e h. h)) c.if-padded.false)
