use mathlib.Core.Path.{sym, ◌∙◌}
use Rattle.typing.specs.Asked.{position_at, position_numbered}
use Rattle.typing.proofs.AskedLaws.{repetition_at, keyword_at, unknown_at}
use native.Mathlib.Omega.{arith}
use Rattle.typing.proofs.asked.position_at.Goals as goal

pub returns-in-1 : goal.returns-in-1
unfolding position_at position_numbered
returns-in-1 c = let f = rw c.from.ensures at c.fetch-r.ensures in sym (rw (sym f.a ∙ c.in-1.is, ← f.b))

pub returns-in-2 : goal.returns-in-2
unfolding position_at position_numbered
returns-in-2 c = let f = rw c.from.ensures at c.fetch-r.ensures in sym (rw (sym f.a ∙ c.in-2.is, ← f.b))

pub returns-in-3 : goal.returns-in-3
returns-in-3 c = let f = rw c.from.ensures at c.fetch-r.ensures in repetition_at _ _ _ f (omega arith) (omega arith) (omega arith) (omega arith)

pub returns-in_default : goal.returns-in_default
returns-in_default c = let f = rw c.from.ensures at c.fetch-r.ensures in keyword_at _ _ _ f (omega arith)

pub returns-in_default-2 : goal.returns-in_default-2
returns-in_default-2 c = let f = rw c.from.ensures at c.fetch-r.ensures in unknown_at _ _ _ f (omega arith)
