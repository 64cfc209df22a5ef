use Prim.Native.Nat.{◌-◌}
use Rattle.rules.specs.Records.{record_count}
use Rattle.layout.proofs.TemplateLaws.{TemplatesLeft}
use Rattle.layout.proofs.template.templates_from.Given as goal

abbrev pub invariant-loop-r : goal.invariant-loop-r
invariant-loop-r l = TemplatesLeft l.t l.p l.q

abbrev pub decreases-loop-r : goal.decreases-loop-r
decreases-loop-r l = record_count l.t - l.q
