use mathlib.Core.Path.{ap, ◌∙◌}
use lib.ListN.{length}
use Rattle.laws.specs.Blocks.{block_whole}
use Rattle.stream.proofs.BlockLaws.{block_part}
use Rattle.stream.proofs.blocks.block_at.Goals as goal

pub returns : goal.returns
returns c =
    let e = block_part c.args.s.now c.args.n in
    (e, ap length e ∙ block_whole _ _ c.requires)
