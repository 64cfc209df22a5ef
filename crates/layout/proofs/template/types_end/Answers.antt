use native.Mathlib.Omega.{arith}
use Rattle.layout.proofs.CommonLaws.{reach}
use Rattle.layout.proofs.GrammarLaws.{kind_is, kind_not, near, inside, kind_here}
use Rattle.layout.proofs.TemplateLaws.{types_start, types_stop, types_broken, types_go}
use borrow.Author.Rules.{rules}
use Rattle.layout.proofs.template.types_end.Goals as goal

pub loop-at-init : goal.loop-at-init
loop-at-init c = (omega arith, c.place_of-at.ensures, types_start _)

pub returns-then-not-is_head : goal.returns-then-not-is_head
returns-then-not-is_head c = types_stop c.whole.ensures.sized (c.fetch_at-r.ensures _ c.loop-at.invariant.1) c.loop-at.invariant.2 (kind_not c.is_head.ensures (c.fetch_at-r.ensures _ c.loop-at.invariant.1) c.if-not-is_head.true)

pub returns-then-not-type_right : goal.returns-then-not-type_right
returns-then-not-type_right c = types_broken c.whole.ensures.sized (c.fetch_at-r.ensures _ c.loop-at.invariant.1) c.loop-at.invariant.2 (kind_is c.is_head.ensures (c.fetch_at-r.ensures _ c.loop-at.invariant.1) c.if-not-is_head.false) _ (c.type_right.ensures _ c.loop-at.invariant.1 (c.fetch_at-r.ensures _ c.loop-at.invariant.1)) (c.if-not-type_right.true)

pub forward-at-requires : goal.forward-at-requires
forward-at-requires c = reach _ c.loop-at.invariant.1 (omega (arith, c.loop-at.invariant.0)) (search rules)

pub loop-at-smaller : goal.loop-at-smaller
loop-at-smaller c = omega (arith, inside _ c.whole.ensures.sized _ 0 (kind_here (c.fetch_at-r.ensures _ c.loop-at.invariant.1) 1 (kind_is c.is_head.ensures (c.fetch_at-r.ensures _ c.loop-at.invariant.1) c.if-not-is_head.false)))

pub loop-at-preserved : goal.loop-at-preserved
loop-at-preserved c = (omega (arith, near (c.fetch_at-r.ensures _ c.loop-at.invariant.1) c.whole.ensures.sized 0 (kind_is c.is_head.ensures (c.fetch_at-r.ensures _ c.loop-at.invariant.1) c.if-not-is_head.false)), c.forward-at.ensures _ c.loop-at.invariant.1, types_go c.whole.ensures.sized (c.fetch_at-r.ensures _ c.loop-at.invariant.1) c.loop-at.invariant.2 (kind_is c.is_head.ensures (c.fetch_at-r.ensures _ c.loop-at.invariant.1) c.if-not-is_head.false) _ (c.type_right.ensures _ c.loop-at.invariant.1 (c.fetch_at-r.ensures _ c.loop-at.invariant.1)) (c.if-not-type_right.false))
