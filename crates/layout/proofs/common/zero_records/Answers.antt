use Rattle.std.proofs.Common.{sym, ◌∙◌, arith}
use Rattle.layout.proofs.CommonLaws.{tail_go, tail_stop, tail_done, reach}
use Rattle.layout.proofs.common.zero_records.Goals as goal

pub returns-then-not-zero_from : goal.returns-then-not-zero_from
returns-then-not-zero_from c = sym (tail_stop _ _ _ _ (c.fetch_at.ensures _ c.loop.invariant.0) c.loop-test.true (sym c.if-not-zero_from.true ∙ c.zero_from.ensures)) ∙ c.loop.invariant.1

pub forward-at-requires : goal.forward-at-requires
forward-at-requires c = reach 1 c.loop.invariant.0 (omega arith) (omega arith)

pub loop-preserved : goal.loop-preserved
loop-preserved c = (c.forward-at.ensures _ c.loop.invariant.0, sym (tail_go _ _ _ _ (c.fetch_at.ensures _ c.loop.invariant.0) c.loop-test.true (sym c.if-not-zero_from.false ∙ c.zero_from.ensures)) ∙ c.loop.invariant.1)

pub returns : goal.returns
returns c = sym (tail_done _ _ _ c.loop-test.false) ∙ c.loop.invariant.1
