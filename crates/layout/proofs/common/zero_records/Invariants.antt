use Rattle.std.proofs.Common.{◌≡◌, ◌-◌}
use Rattle.rules.specs.Records.{records_from, zeros}
use Rattle.stream.specs.Record.{place_of}
use Rattle.layout.proofs.common.zero_records.Given as goal

abbrev pub invariant-loop : goal.invariant-loop
invariant-loop l = (l.at ≡ place_of l.counter) × (zeros (records_from l.s (l.n - l.counter) l.counter) ≡ zeros (records_from l.s (l.n - l.p) l.p))
