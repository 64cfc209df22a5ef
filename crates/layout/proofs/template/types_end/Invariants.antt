use mathlib.Core.Path.{◌≡◌}
use Prim.Native.Nat.{◌-◌, ◌<◌, ◌^◌}
use Rattle.rules.specs.Records.{record_count}
use Rattle.stream.specs.Record.{place_of}
use Rattle.layout.proofs.TemplateLaws.{TypesLeft}
use Rattle.layout.proofs.template.types_end.Given as goal

abbrev pub invariant-loop-at : goal.invariant-loop-at
invariant-loop-at l = (l.p < 2 ^ 20) × (l.at ≡ place_of l.p) × TypesLeft l.t l.p

abbrev pub decreases-loop-at : goal.decreases-loop-at
decreases-loop-at l = record_count l.t - l.p
