use Rattle.stream.specs.Text.{room}
use mathlib.Core.Path.{refl}
use Rattle.stream.proofs.text.room_at.Goals as goal

pub returns : goal.returns
unfolding room
returns c = refl
