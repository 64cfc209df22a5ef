-- The first starts where its block does; each other has the check of the block before it.
use mathlib.Core.Path.{◌∙◌}
use native.Mathlib.Omega.{arith}
use Rattle.laws.specs.Blocks.{start_later}
use Rattle.stream.proofs.blocks.starts_from.Goals as goal

pub returns : goal.returns
returns c =
    record {
      a = c.start_at.ensures;
      b = c.check_at.ensures ∙ start_later _ _ _ (omega arith);
      c = c.check_at-2.ensures ∙ start_later _ _ _ (omega arith);
      d = c.check_at-3.ensures ∙ start_later _ _ _ (omega arith);
    }
