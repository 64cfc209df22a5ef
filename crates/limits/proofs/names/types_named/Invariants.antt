-- What is wrong in the types from n on is what is wrong in all of them.
use mathlib.Core.Path.{◌≡◌}
use lib.ListN.{drop}
use Rattle.rules.specs.Faults.{every}
use Rattle.rules.specs.Names.{type_names}
use Rattle.rules.specs.Records.{numbered}
use Rattle.limits.specs.Rows.{types_named}
use Rattle.limits.proofs.names.types_named.Given as goal

abbrev pub invariant-loop-n : goal.invariant-loop-n
invariant-loop-n l = every (type_names l.g l.t) (numbered l.n (drop l.n l.types)) ≡ types_named l.g l.t l.types
