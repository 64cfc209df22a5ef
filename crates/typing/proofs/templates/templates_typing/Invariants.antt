-- What is wrong in the templates that are left is what is wrong in all of them. Assumes nothing.
use mathlib.Core.Path.{◌≡◌}
use lib.ListN.{drop}
use Rattle.rules.specs.Faults.{every}
use Rattle.rules.specs.Typing.{templates_typing}
use Rattle.typing.proofs.TemplateLaws.{wrong_in}
use Rattle.typing.proofs.templates.templates_typing.Given as goal

abbrev pub invariant-loop-q : goal.invariant-loop-q
invariant-loop-q l = every (wrong_in l.g l.t) (drop l.q-index l.templates) ≡ templates_typing l.g l.t
