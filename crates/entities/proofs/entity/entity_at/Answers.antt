use Rattle.std.proofs.Common.{arith}
use Rattle.entities.proofs.FiveLaws.{five_turn, search_found, search_other, search_none}
use Rattle.entities.proofs.entity.entity_at.Goals as goal

pub returns-in_err-entity : goal.returns-in_err-entity
returns-in_err-entity c = absurd (five_turn _ c.loop-byte-test.true c.in_err-entity.ensures)

pub returns-then-starts_with : goal.returns-then-starts_with
returns-then-starts_with c = search_found _ c.loop-byte.byte-index c.loop-byte-test.true c.loop-byte.invariant c.in_ok-entity.ensures c.starts_with.ensures.value c.if-starts_with.true

pub loop-byte-preserved : goal.loop-byte-preserved
loop-byte-preserved c = search_other _ c.loop-byte.byte-index c.loop-byte.invariant c.in_ok-entity.ensures c.starts_with.ensures.value c.if-starts_with.false

pub returns : goal.returns
returns c = search_none _ (λ k l. c.loop-byte.invariant k (omega arith)) c.requires
