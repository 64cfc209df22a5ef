use mathlib.Core.Path.{◌≡◌}
use Prim.Native.Nat.{◌-◌}
use Rattle.stream.specs.Record.{place_of}
use Rattle.layout.specs.Tree.{Value, fills}
use Rattle.layout.proofs.TreeTurns.{rest}
use Rattle.layout.proofs.ChildrenRows.{Tabling}
use Rattle.layout.proofs.children.one_value.Given as goal

abbrev pub invariant-loop-q : goal.invariant-loop-q
invariant-loop-q l = (l.at ≡ place_of l.q) × (rest Value l.v l.q l.e ≡ fills Value l.v 0 l.e) × Tabling l.v l.e l.initial.firsts l.initial.places l.firsts l.places l.q l.used

abbrev pub decreases-loop-q : goal.decreases-loop-q
decreases-loop-q l = l.e - l.q
