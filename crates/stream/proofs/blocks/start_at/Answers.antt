use mathlib.Core.Path.{◌∙◌}
use native.Mathlib.Omega.{arith}
use Rattle.laws.specs.Blocks.{start_later}
use Rattle.stream.proofs.BlockLaws.{start_first}
use Rattle.stream.proofs.blocks.start_at.Goals as goal

pub returns-then-n-eq0 : goal.returns-then-n-eq0
returns-then-n-eq0 c = start_first _ _ c.if-n-eq0.true

pub returns : goal.returns
returns c = c.check_at.ensures ∙ start_later _ _ _ (omega arith)
