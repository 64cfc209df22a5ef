-- The whole value is a row of one, the item of a list of its declared type. Assumes nothing.
use mathlib.Core.Path.{sym, ◌∙◌}
use Rattle.typing.proofs.ValueLaws.{undeclared, declared}
use Rattle.typing.proofs.value.value_typing.Goals as goal

pub returns-in_default : goal.returns-in_default
returns-in_default c = undeclared _ _ _ (sym c.in_default.ensures)

pub invariant_of-checker : goal.invariant_of-checker
invariant_of-checker c = record { ready = record { lexemes = c.requires.lexemes; types = record { types_are = c.requires.types_are; sized = c.requires.sized_t }; sized = c.requires.sized_v } }

pub returns : goal.returns
returns c = c.values_typed.ensures ∙ declared _ _ _ _ (sym c.in-Some.ensures)
