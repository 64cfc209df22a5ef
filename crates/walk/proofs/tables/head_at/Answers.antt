use mathlib.Core.Path.{ap, ◌∙◌}
use Rattle.rules.specs.Records.{nth}
use Rattle.walk.proofs.PathLaws.{entry_is}
use Rattle.walk.proofs.tables.head_at.Goals as goal

pub returns : goal.returns
returns c = entry_is _ _ _ _ c.get.ensures.lookup c.copied.ensures ∙ ap (nth c.args.heads.now) c.from.ensures
