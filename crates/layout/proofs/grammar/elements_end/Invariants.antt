use Rattle.std.proofs.Common.{◌≡◌, ◌-◌}
use Rattle.rules.specs.Layout.{in_row, element_end}
use Rattle.layout.proofs.grammar.elements_end.Given as goal

abbrev pub invariant-loop : goal.invariant-loop
invariant-loop l = in_row (element_end l.g) (l.n - l.counter) l.q ≡ in_row (element_end l.g) l.n l.p
