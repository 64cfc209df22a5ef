use mathlib.Core.Path.{◌≡◌}
use Prim.Native.Nat.{◌-◌, ◌<◌, ◌^◌}
use Rattle.stream.specs.Record.{place_of}
use Rattle.layout.specs.Tree.{Node, fills}
use Rattle.layout.proofs.TreeTurns.{rest}
use Rattle.layout.proofs.template.one_node.Given as goal

abbrev pub invariant-loop-q : goal.invariant-loop-q
invariant-loop-q l = (l.at ≡ place_of l.q) × (l.q < 2 ^ 50) × (rest Node l.t l.q l.e ≡ fills Node l.t l.p l.e)

abbrev pub decreases-loop-q : goal.decreases-loop-q
decreases-loop-q l = l.e - l.q
