use mathlib.Core.Path.{sym, ◌∙◌}
use borrow.Author.Tests.{eqb-true, eqb-false, ltb-false}
use Rattle.lexeme.proofs.SourceLaws.{source_escaped, source_plain, source_none}
use Rattle.lexeme.proofs.source_of.Goals as goal

pub returns-then-is_escaped : goal.returns-then-is_escaped
returns-then-is_escaped c = source_escaped _ _ _ c.requires c.in-Some.ensures.lookup.3.0 _ (c.in-Some.ensures.lookup.3.1 0) _ c.fetch-head.ensures.b (sym c.fetch-head.ensures.kind ∙ eqb-true _ 5 (sym c.is_escaped.ensures ∙ c.if-is_escaped.true))

pub returns-else-is_escaped : goal.returns-else-is_escaped
returns-else-is_escaped c = source_plain _ _ _ c.requires c.in-Some.ensures.lookup.3.0 _ (c.in-Some.ensures.lookup.3.1 0) (λ k. eqb-false _ 5 (sym c.is_escaped.ensures ∙ c.if-is_escaped.false) (c.fetch-head.ensures.kind ∙ k))

pub returns-in_default : goal.returns-in_default
returns-in_default c = source_none _ _ _ c.requires (ltb-false _ _ (sym c.in_default.ensures.lookup.0))
