-- An escaped class by what is noted, a plain one by its record.
use mathlib.Core.Path.{◌∙◌}
use Rattle.finite.proofs.LexemeLaws.{of_escaped, of_plain}
use Rattle.finite.proofs.lexemes.has_lexeme.Goals as goal

pub returns-then-is_escaped : goal.returns-then-is_escaped
returns-then-is_escaped c = c.is_noted.ensures ∙ of_escaped _ _ _ _ c.requires _ c.fetch-head.ensures _ c.is_escaped.ensures c.if-is_escaped.true

pub returns : goal.returns
returns c = c.plain_has_lexeme.ensures ∙ of_plain _ _ _ _ c.requires _ c.fetch-head.ensures _ c.is_escaped.ensures c.if-is_escaped.false
