-- The classes first. What is wrong in the productions from the next on is what is wrong in all of them.
use mathlib.Core.Path.{◌≡◌}
use lib.ListN.{drop}
use Rattle.rules.specs.Faults.{every}
use Rattle.rules.specs.Names.{grammar_names}
use Rattle.limits.specs.Rows.{elements_named}
use Rattle.limits.proofs.grammar.grammar_names.Given as goal

abbrev pub invariant-loop-p : goal.invariant-loop-p
invariant-loop-p l = every (elements_named l.g) (drop l.p-index l.productions) ≡ grammar_names l.g
