use mathlib.Core.Path.{sym}
use Rattle.typing.proofs.TemplateLaws.{declared_missing, declared_other, declared_is}
use Rattle.typing.proofs.templates.declared_type.Goals as goal

pub returns-in_err-head : goal.returns-in_err-head
returns-in_err-head c = rw c.from_residual.ensures (declared_missing _ _ c.requires (sym c.in_err-head.ensures))

pub returns-then-fetch-ne1 : goal.returns-then-fetch-ne1
returns-then-fetch-ne1 c = declared_other _ _ c.requires _ _ (sym c.in_ok-head.ensures) (rw c.from-q.ensures at c.fetch.ensures.a) c.if-fetch-ne1.true

pub returns : goal.returns
returns c = declared_is _ _ c.requires _ _ (sym c.in_ok-head.ensures) (rw c.from-q.ensures at c.fetch.ensures.a) c.if-fetch-ne1.false _ (rw c.from-q.ensures at c.fetch-2.ensures.b)
