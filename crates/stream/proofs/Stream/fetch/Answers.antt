use native.Mathlib.Omega.{arith}
use Rattle.rules.specs.Records.{base}
use Rattle.stream.proofs.RecordLaws.{fetched, fetched_none, past_blocks}
use Rattle.laws.specs.Reads.{whole_blocks}
use Rattle.stream.proofs.Stream.fetch.Goals as goal

pub returns-then-i-ge-NEAR : goal.returns-then-i-ge-NEAR
returns-then-i-ge-NEAR c =
    let own = c.bytes-s.ensures in
    rw (← own.bytes) (fetched_none _ _ c.default.result c.bytes-s.ensures.whole.small (past_blocks _ _ own.whole.sized (omega (arith, (whole_blocks _ own.whole.sized).0))) c.default.ensures)

pub inside-requires : goal.inside-requires
unfolding base
inside-requires c = omega arith

pub returns-then-block-s : goal.returns-then-block-s
returns-then-block-s c = rw (← c.bytes-s.ensures.bytes) (fetched _ _ _ c.bytes-s.ensures.whole.small (rw c.address.ensures at c.inside.ensures))

pub returns : goal.returns
returns c =
    let own = c.bytes-s.ensures in
    rw (← own.bytes) (fetched_none _ _ c.default-2.result c.bytes-s.ensures.whole.small (past_blocks _ _ own.whole.sized (omega arith)) c.default-2.ensures)
