use Rattle.std.proofs.Common.{refl}
use Rattle.feed.specs.Verdict.{five_of}
use Rattle.feed_c.proofs.put.Goals as goal

pub returns : goal.returns
unfolding five_of
returns c = refl
