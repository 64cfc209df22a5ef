use Rattle.std.proofs.Common.{◌≡◌, ◌∙◌, ap}
use borrow.Author.Tests.{eq-eqb}
use Rattle.rules.specs.Records.{units}
use Rattle.layout.proofs.CommonLaws.{padding_none, padding_is}
use Rattle.layout.proofs.common.padded.Goals as goal

pub returns-then-over-eq0 : goal.returns-then-over-eq0
returns-then-over-eq0 g c = λ s p h. eq-eqb _ _ c.if-over-eq0.true ∙ padding_none _ _ _ (rw c.from-over.ensures at c.if-over-eq0.true)

pub returns-else-over-eq0 : goal.returns-else-over-eq0
returns-else-over-eq0 g c = λ s p h.
    let e : c.units.result ≡ units c.args.b = c.units.ensures ∙ ap units c.from.ensures in
    rw c.from-over.ensures at c.zero_from.ensures ∙ padding_is _ p _ _ e _ (h _ _ e c.unit.ensures) (rw c.from-over.ensures at c.if-over-eq0.false)
