-- What is wrong in the classes from the next on is what is wrong in all of them.
use mathlib.Core.Path.{◌≡◌}
use lib.ListN.{drop}
use Rattle.rules.specs.Classes.{bounds_right, grammar_classes}
use Rattle.rules.specs.Faults.{every}
use Rattle.limits.proofs.classes.grammar_classes.Given as goal

abbrev pub invariant-loop-p : goal.invariant-loop-p
invariant-loop-p l = every (bounds_right l.g) (drop l.p-index l.classes) ≡ grammar_classes l.g
