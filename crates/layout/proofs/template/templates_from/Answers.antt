use mathlib.Core.Path.{sym, ◌∙◌}
use native.Mathlib.Omega.{arith}
use Rattle.layout.proofs.GrammarLaws.{kind_is, kind_not, near, inside, kind_here}
use Rattle.layout.proofs.TemplateLaws.{templates_stop, templates_wrong, templates_go}
use Rattle.layout.proofs.template.templates_from.Goals as goal

pub returns-then-not-is_head : goal.returns-then-not-is_head
returns-then-not-is_head c = c.tail_right.ensures ∙ templates_stop c.whole.ensures.sized _ c.fetch-r.ensures c.loop-r.invariant (kind_not c.is_head.ensures c.fetch-r.ensures c.if-not-is_head.true)

pub template_right-requires : goal.template_right-requires
template_right-requires c = record { sized = c.whole.ensures.sized; fetched = c.fetch-r.ensures; inside = inside _ c.whole.ensures.sized _ 2 (kind_here c.fetch-r.ensures 3 (kind_is c.is_head.ensures c.fetch-r.ensures c.if-not-is_head.false)) }

pub returns-then-not-template_right : goal.returns-then-not-template_right
returns-then-not-template_right c = templates_wrong c.whole.ensures.sized _ c.fetch-r.ensures c.loop-r.invariant (kind_is c.is_head.ensures c.fetch-r.ensures c.if-not-is_head.false) (sym (c.if-not-template_right.true) ∙ c.template_right.ensures)

pub overflow_add-q : goal.overflow_add-q
overflow_add-q c = omega (arith, near c.fetch-r.ensures c.whole.ensures.sized 2 (kind_is c.is_head.ensures c.fetch-r.ensures c.if-not-is_head.false))

pub loop-r-smaller : goal.loop-r-smaller
loop-r-smaller c = omega (arith, inside _ c.whole.ensures.sized _ 2 (kind_here c.fetch-r.ensures 3 (kind_is c.is_head.ensures c.fetch-r.ensures c.if-not-is_head.false)), (templates_go c.whole.ensures.sized _ c.fetch-r.ensures c.loop-r.invariant (kind_is c.is_head.ensures c.fetch-r.ensures c.if-not-is_head.false) (sym (c.if-not-template_right.false) ∙ c.template_right.ensures)).0)

pub loop-r-preserved : goal.loop-r-preserved
loop-r-preserved c = (templates_go c.whole.ensures.sized _ c.fetch-r.ensures c.loop-r.invariant (kind_is c.is_head.ensures c.fetch-r.ensures c.if-not-is_head.false) (sym (c.if-not-template_right.false) ∙ c.template_right.ensures)).1
