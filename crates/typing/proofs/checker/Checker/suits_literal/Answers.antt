use mathlib.Core.Path.{sym, ◌∙◌}
use Rattle.typing.proofs.SuitsLaws.{literal_nothing, literal_is}
use Rattle.typing.proofs.checker.Checker.suits_literal.Goals as goal

pub returns-in_default : goal.returns-in_default
returns-in_default c = λ scope. literal_nothing _ _ _ (sym c.in_default.ensures)

pub returns : goal.returns
returns c = λ scope. c.is_lexeme.ensures ∙ literal_is _ _ _ _ (sym c.in-Some.ensures)
