use Rattle.std.proofs.Common.{arith, sym, ◌∙◌, ◌≡◌, length}
use Rattle.layout.proofs.HeadsFillLaws.{fill_start, fill_near, fill_go, fill_stop, fill_full}
use Rattle.layout.proofs.heads.row.Goals as goal

pub loop-count-init : goal.loop-count-init
loop-count-init g c = fill_start c.requires

pub overflow_cast-place : goal.overflow_cast-place
overflow_cast-place g c = omega (arith, (fill_near (sym (c.is_head.ensures.told _ _ c.fetch-head.ensures) ∙ c.if-not-is_head.false) c.loop-count.invariant).0)

pub next-next-requires : goal.next-next-requires
next-next-requires g c = record { sized = c.loop-count.invariant.ahead.sized; fetched = c.fetch-head.ensures; inside = (fill_near (sym (c.is_head.ensures.told _ _ c.fetch-head.ensures) ∙ c.if-not-is_head.false) c.loop-count.invariant).1 }

pub loop-count-preserved : goal.loop-count-preserved
loop-count-preserved g c = fill_go (sym (c.is_head.ensures.told _ _ c.fetch-head.ensures) ∙ c.if-not-is_head.false) c.next-next.ensures c.loop-count.invariant

pub returns : goal.returns
returns g c =
    let e : length c.loop-count.table ≡ c.loop-count.count = omega (arith, c.loop-count.auto.table, c.loop-count.auto.count-end, c.loop-count-test.false) in
    rw e (fill_stop (fill_full (omega (arith, e)) c.loop-count.invariant) c.loop-count.invariant)
