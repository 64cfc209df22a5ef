use Rattle.std.proofs.Common.{arith}
use Rattle.layout.proofs.CommonLaws.{reach, in_stream}
use Rattle.layout.proofs.tree.fn.text_head.unit.Goals as goal

pub forward-requires : goal.forward-requires
forward-requires c = reach _ c.requires.0.place_is (omega (arith, c.requires.0.near)) (omega (arith, c.requires.1))

pub fetch_in-requires : goal.fetch_in-requires
fetch_in-requires c = in_stream _ (c.forward.ensures _ c.requires.0.place_is) (omega (arith, c.requires.0.inside))

pub returns : goal.returns
returns c = λ p e. c.fetch_in.ensures _ (c.forward.ensures p e)
