-- What is left to hash, from the present value, is the hash of the whole.
use mathlib.Core.Path.{◌≡◌}
use lib.ListN.{drop}
use Rattle.rules.specs.Blocks.{fnv1a}
use Rattle.stream.proofs.fnv.fnv1a.Given as goal

abbrev pub invariant-loop-byte : goal.invariant-loop-byte
invariant-loop-byte l = fnv1a l.h (drop l.byte-index l.s) ≡ fnv1a l.start l.s
