use mathlib.Core.Path.{sym, ◌∙◌}
use Rattle.typing.specs.Answers.{child_type}
use Rattle.typing.proofs.ValueLaws.{no_child_type}
use Rattle.typing.proofs.value.child_type.Goals as goal

pub returns-in-Items : goal.returns-in-Items
unfolding child_type
returns-in-Items c = sym (rw c.in-Items.is)

pub returns-in-Fields : goal.returns-in-Fields
unfolding child_type
returns-in-Fields c = rw c.from.ensures at c.fetch.ensures.b ∙ sym (rw c.in-Fields.is)

pub returns-in_default : goal.returns-in_default
returns-in_default c = no_child_type _ _ _ c.in_default.not-Items c.in_default.not-Fields
