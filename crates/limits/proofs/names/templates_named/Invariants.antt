-- What is wrong in the templates from the next on is what is wrong in all of them.
use mathlib.Core.Path.{◌≡◌}
use lib.ListN.{drop}
use Rattle.rules.specs.Faults.{every}
use Rattle.rules.specs.Names.{template_names}
use Rattle.limits.specs.Rows.{templates_named}
use Rattle.limits.proofs.names.templates_named.Given as goal

abbrev pub invariant-loop-p : goal.invariant-loop-p
invariant-loop-p l = every (template_names l.g l.t) (drop l.p-index l.templates) ≡ templates_named l.g l.t l.templates
