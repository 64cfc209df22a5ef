use mathlib.Core.Path.{◌∙◌}
use Rattle.stream.proofs.BlockLaws.{sound_by_lem}
use Rattle.stream.proofs.block.is_sound.Goals as goal

pub returns : goal.returns
returns c = c.is_sound_by.ensures ∙ sound_by_lem _ _ _ _ c.fnv1a.ensures
