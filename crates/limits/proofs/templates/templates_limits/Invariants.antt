-- What is wrong in the templates from the next on is what is wrong in all of them.
use mathlib.Core.Path.{◌≡◌}
use lib.ListN.{drop}
use Rattle.rules.specs.Faults.{every}
use Rattle.rules.specs.Limits.{template_limits, templates_limits}
use Rattle.limits.proofs.templates.templates_limits.Given as goal

abbrev pub invariant-loop-p : goal.invariant-loop-p
invariant-loop-p l = every (template_limits l.t) (drop l.p-index l.templates) ≡ templates_limits l.t
