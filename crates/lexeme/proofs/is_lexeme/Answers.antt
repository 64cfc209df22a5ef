use mathlib.Core.Path.{ap, ◌∙◌}
use Rattle.rules.specs.Lexeme.{is_lexeme}
use Rattle.lexeme.proofs.SourceLaws.{source_admits}
use Rattle.lexeme.proofs.is_lexeme.Goals as goal

pub returns : goal.returns
returns c = rw c.bytes.ensures.bytes at c.admits.ensures ∙ source_admits _ _ _ _ c.source_of.ensures ∙ ap (is_lexeme _ _) (rw c.fetch-head.ensures.b at c.text_after-text.ensures.text)
