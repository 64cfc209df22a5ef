use mathlib.Core.Path.{sym}
use Rattle.typing.specs.Answers.{kind_below}
use Rattle.typing.proofs.ValueLaws.{same_below}
use Rattle.typing.proofs.value.kind_below.Goals as goal

pub returns-in-Cases : goal.returns-in-Cases
unfolding kind_below
returns-in-Cases c = sym (rw (c.in-Cases.is, ← c.from.ensures, ← c.from-in-Cases.ensures, ← c.fetch.ensures.b))

pub returns-in_default : goal.returns-in_default
returns-in_default c = same_below _ _ _ c.in_default.not-Cases
