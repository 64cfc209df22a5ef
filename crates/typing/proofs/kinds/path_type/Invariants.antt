-- What the steps that are left find from here is what all of them find from the variable. Assumes nothing.
use mathlib.Core.Path.{◌≡◌}
use lib.ListN.{drop}
use Rattle.rules.specs.Typing.{type_along}
use Rattle.records.specs.Paths.{steps_in}
use Rattle.typing.proofs.kinds.path_type.Given as goal

abbrev pub invariant-loop-i : goal.invariant-loop-i
invariant-loop-i l = type_along l.t (drop l.i (steps_in l.r)) l.ty ≡ type_along l.t (steps_in l.r) l.initial.ty
