use Rattle.std.proofs.Common.{arith}
use Rattle.layout.proofs.CommonLaws.{in_stream}
use Rattle.layout.proofs.tree.size_before.Goals as goal

pub fetch_in-requires : goal.fetch_in-requires
fetch_in-requires c = in_stream c.args.s.now c.requires.place_is (omega (arith, c.if-e-q.false, c.requires.within.inside))
