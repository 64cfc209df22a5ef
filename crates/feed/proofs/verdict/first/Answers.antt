use Rattle.feed.specs.Verdict.{first_of}
use Rattle.feed.proofs.OrderLaws.{handed, first_refuses, first_passes}
use Rattle.feed.proofs.verdict.first.Goals as goal

pub returns-in_err-against : goal.returns-in_err-against
unfolding first_of
returns-in_err-against c = handed _ _ c.from_residual.ensures.1 (first_refuses _ _ _ c.in_err-against.ensures)

pub returns-in_err-against-2 : goal.returns-in_err-against-2
unfolding first_of
returns-in_err-against-2 c = handed _ _ c.from_residual-in_err-against-2.ensures.1 (first_passes _ _ _ c.in_ok-against.ensures (first_refuses _ _ _ c.in_err-against-2.ensures))

pub returns : goal.returns
unfolding first_of
returns c = first_passes _ _ _ c.in_ok-against.ensures (first_passes _ _ _ c.in_ok-against-2.ensures c.against-3.ensures)
