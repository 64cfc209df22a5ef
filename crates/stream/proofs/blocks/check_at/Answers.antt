use mathlib.Core.Path.{ap, ◌∙◌}
use Rattle.rules.specs.Blocks.{check_of}
use Rattle.stream.proofs.blocks.check_at.Goals as goal

pub returns : goal.returns
returns c = c.check_of.ensures ∙ ap check_of c.block_at.ensures.0
