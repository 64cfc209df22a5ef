use Rattle.layout.proofs.ChildrenRows.{Putting}
use Rattle.layout.proofs.children.put_row.Given as goal

abbrev pub invariant-loop-k : goal.invariant-loop-k
invariant-loop-k l = Putting l.v l.n l.p l.e l.used l.initial.places l.places l.q l.here l.k
