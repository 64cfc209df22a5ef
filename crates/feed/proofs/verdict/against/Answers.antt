use Rattle.std.proofs.Common.{of_calls}
use Rattle.feed.proofs.OrderLaws.{against_said}
use Rattle.feed.proofs.verdict.against.Goals as goal

pub returns : goal.returns
returns c = against_said _ _ _ _ _ c.map_err.ensures.cases (λ place y h. search of_calls)
