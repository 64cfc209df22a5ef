use Rattle.std.proofs.Common.{◌≡◌, ℕ, ◌+◌, ◌-◌}
use Rattle.std.proofs.Math.Option.{Option}
use Rattle.rules.specs.Layout.{in_row}
use Rattle.stream.specs.Record.{place_of}
use Rattle.layout.specs.Template.{TellsOne}
use Rattle.layout.proofs.template.in_row.Given as goal

abbrev pub invariant-loop : goal.invariant-loop
invariant-loop g l =
    (p : ℕ) → l.initial.here ≡ place_of p
    → (l.here ≡ place_of (p + l.counter)) × ((one : ℕ → Option ℕ) → TellsOne l.t one (goal.F-post g l.is_one) → in_row one (l.n - l.counter) (p + l.counter) ≡ in_row one l.n p)
