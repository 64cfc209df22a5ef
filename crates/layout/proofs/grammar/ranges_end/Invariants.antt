use Rattle.std.proofs.Common.{◌≡◌, ◌+◌, ◌-◌}
use Rattle.rules.specs.Layout.{in_row, range_end}
use Rattle.layout.proofs.grammar.ranges_end.Given as goal

abbrev pub invariant-loop-k : goal.invariant-loop-k
invariant-loop-k l = in_row (range_end l.g) (l.n - l.k) (l.p + l.k) ≡ in_row (range_end l.g) l.n l.p
