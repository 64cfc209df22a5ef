use Rattle.feed.proofs.set.value_depth.Goals as goal

pub returns-in-Some : goal.returns-in-Some
returns-in-Some c = rw c.in-Some.is c.value_limits.ensures
