-- What is wrong in the classes from n on is what is wrong in all of them.
use mathlib.Core.Path.{◌≡◌}
use lib.ListN.{drop}
use Rattle.rules.specs.Faults.{need, every}
use Rattle.rules.specs.Names.{class_named}
use Rattle.rules.specs.Records.{numbered}
use Rattle.limits.specs.Rows.{classes_named}
use Rattle.limits.proofs.grammar.classes_named.Given as goal

abbrev pub invariant-loop-n : goal.invariant-loop-n
invariant-loop-n l = every (λ c. need (class_named l.g c) c.1) (numbered l.n (drop l.n l.classes)) ≡ classes_named l.g l.classes
