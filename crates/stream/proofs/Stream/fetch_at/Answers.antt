use native.Mathlib.Omega.{arith}
use Rattle.stream.proofs.RecordLaws.{fetched_here, fetched_none, past_place}
use Rattle.stream.proofs.Stream.fetch_at.Goals as goal

pub returns-then-s-at : goal.returns-then-s-at
returns-then-s-at c = λ i e.
    let own = c.bytes-s.ensures in
    rw (← own.bytes) (fetched_none _ i c.default.result c.bytes-s.ensures.whole.small (past_place _ _ i own.whole.sized e (omega arith)) c.default.ensures)

pub returns-then-s-at-lt8 : goal.returns-then-s-at-lt8
returns-then-s-at-lt8 c = λ i e.
    let own = c.bytes-s.ensures in
    rw (← own.bytes) (fetched_none _ i c.default-then-s-at-lt8.result c.bytes-s.ensures.whole.small (past_place _ _ i own.whole.sized e (omega arith)) c.default-then-s-at-lt8.ensures)

pub returns : goal.returns
returns c = λ i e. rw (← c.bytes-s.ensures.bytes) (fetched_here _ _ i _ c.bytes-s.ensures.whole.small e c.inside.ensures)
