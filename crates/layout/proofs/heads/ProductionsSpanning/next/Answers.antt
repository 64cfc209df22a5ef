use Rattle.std.proofs.Common.{arith, sym, ◌∙◌}
use Rattle.stream.proofs.RecordLaws.{reach}
use Rattle.layout.proofs.HeadsFillLaws.{after_go, after_done, after_room, elements_from}
use Rattle.layout.proofs.heads.ProductionsSpanning.next.Goals as goal

pub overflow_add-q-in-loop : goal.overflow_add-q-in-loop
overflow_add-q-in-loop c = omega (arith, after_room _ _ _ _ _ c.loop-test.true c.loop.invariant.0, c.size_of-size.ensures.is _ _ (c.fetch_at.ensures _ c.loop.invariant.1), elements_from c.requires.fetched, c.requires.inside)

pub forward-at-requires : goal.forward-at-requires
forward-at-requires c = reach _ _ _ c.loop.invariant.1 (omega (arith, after_room _ _ _ _ _ c.loop-test.true c.loop.invariant.0, c.size_of-size.ensures.is _ _ (c.fetch_at.ensures _ c.loop.invariant.1), elements_from c.requires.fetched, c.requires.inside))

pub loop-preserved : goal.loop-preserved
loop-preserved c = (rw (c.size_of-size.ensures.is _ _ (c.fetch_at.ensures _ c.loop.invariant.1)) (sym (after_go _ _ _ _ c.loop-test.true) ∙ c.loop.invariant.0), c.forward-at.ensures _ c.loop.invariant.1)

pub returns : goal.returns
returns c = sym (after_done _ _ _ _ c.loop-test.false) ∙ c.loop.invariant.0 ∙ elements_from c.requires.fetched
