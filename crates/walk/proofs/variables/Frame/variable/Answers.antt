use Prim.Native.Nat.{◌+◌, ◌-◌}
use mathlib.Core.Path.{◌≡◌}
use native.Mathlib.Omega.{arith}
use Rattle.walk.proofs.PathLaws.{entry_is}
use Rattle.walk.proofs.variables.Frame.variable.Goals as goal

pub returns : goal.returns
returns c =
    let e : c.args.self.base + c.args.self.vars - c.args.self.base ≡ c.args.self.vars = omega arith in
    rw e at (entry_is _ _ _ _ c.get.ensures.lookup c.copied.ensures)
