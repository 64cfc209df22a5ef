use mathlib.Core.Path.{refl}
use Rattle.rules.specs.Records.{record_count}
use Rattle.layout.proofs.common.record_count.Goals as goal

pub returns : goal.returns
unfolding record_count
returns c = rw (← c.bytes.ensures.bytes) refl
