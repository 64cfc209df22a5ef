-- Whether the arguments that are left fit is whether all of them do. Assumes nothing.
use mathlib.Core.Path.{◌≡◌}
use Rattle.typing.proofs.ExpandLaws.{fits}
use Rattle.typing.proofs.checker.Checker.arguments_fit.Given as goal

abbrev pub invariant-loop-i : goal.invariant-loop-i
invariant-loop-i l = fits l.self.t.now l.vars l.n l.f.node l.q l.i ≡ fits l.self.t.now l.vars l.n l.f.node l.q 0
