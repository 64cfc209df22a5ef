-- What is left to hash of each part, from its present value, is the hash of the whole part.
use mathlib.Core.Path.{◌≡◌}
use lib.ListN.{drop}
use Rattle.rules.specs.Blocks.{fnv1a}
use Rattle.stream.proofs.fnv.fnv1a_four.Given as goal

abbrev pub invariant-loop-i : goal.invariant-loop-i
invariant-loop-i l = (fnv1a l.w (drop l.i l.a) ≡ fnv1a l.initial.w l.a) × (fnv1a l.x (drop l.i l.b) ≡ fnv1a l.initial.x l.b) × (fnv1a l.y (drop l.i l.c) ≡ fnv1a l.initial.y l.c) × (fnv1a l.z (drop l.i l.d) ≡ fnv1a l.initial.z l.d)
