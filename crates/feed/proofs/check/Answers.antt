use mathlib.Core.Path.{◌∙◌}
use Rattle.feed.proofs.OrderLaws.{check_refused, check_accepts}
use Rattle.feed.proofs.check.Goals as goal

pub returns-in-Ok : goal.returns-in-Ok
returns-in-Ok c = c.finished.ensures ∙ check_accepts _ _ c.in-Ok.ensures

pub returns-in-Err : goal.returns-in-Err
returns-in-Err c = c.from.ensures ∙ check_refused _ _ c.in-Err.ensures
