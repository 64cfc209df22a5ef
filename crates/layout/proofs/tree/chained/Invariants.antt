use Rattle.std.proofs.Common.{◌≡◌, ◌-◌}
use Rattle.rules.specs.Value.{value_size}
use Rattle.layout.specs.Tree.{chain, Chains}
use Rattle.layout.proofs.tree.chained.Given as goal

abbrev pub invariant-loop : goal.invariant-loop
invariant-loop l = Chains l.s l.q l.here l.e × (chain (value_size l.s) (l.n - l.counter) l.q l.e ≡ chain (value_size l.s) l.n l.p l.e)
