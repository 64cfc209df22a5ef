use Rattle.feed.specs.Verdict.{streams_refusal}
use Rattle.feed.proofs.OrderLaws.{handed, tried, lengths_two, two_sized, check_streams}
use Rattle.feed.proofs.check_set.Goals as goal

pub returns-in_err-first : goal.returns-in_err-first
unfolding streams_refusal
returns-in_err-first c = handed _ _ c.from_residual.ensures.1 (check_streams _ _ (tried 1 _ _ _ c.in_err-first.ensures (lengths_two _ _ _ _ c.length_fault.ensures c.length_fault-2.ensures)))

pub of-g-requires : goal.of-g-requires
of-g-requires c = (two_sized _ _ _ _ c.in_ok-first.ensures c.length_fault.ensures c.length_fault-2.ensures).0

pub of-t-requires : goal.of-t-requires
of-t-requires c = (two_sized _ _ _ _ c.in_ok-first.ensures c.length_fault.ensures c.length_fault-2.ensures).1
