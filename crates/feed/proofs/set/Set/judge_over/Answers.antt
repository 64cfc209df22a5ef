use mathlib.Core.Path.{refl, ap}
use Rattle.rules.specs.Answers.{placed}
use Rattle.feed.proofs.OrderLaws.{handed, last_said, set_refuses, set_passes}
use Rattle.feed.proofs.set.Set.judge_over.Goals as goal

pub returns-in_err-judge_set : goal.returns-in_err-judge_set
returns-in_err-judge_set g c = handed _ _ c.from_residual.ensures.1 (set_refuses _ _ _ c.value_depth.ensures c.in_err-judge_set.ensures.is)

pub returns-in_default : goal.returns-in_default
returns-in_default g c = set_passes _ _ _ c.value_depth.ensures c.in_ok-judge_set.ensures.is (rw c.in_default.is refl)

pub returns : goal.returns
returns g c = set_passes _ _ _ c.value_depth.ensures c.in_ok-judge_set.ensures.is (rw c.in-Some.is (last_said 8 _ _ c.against.ensures (ap (placed 3) c.value_typing-typed.ensures)))
