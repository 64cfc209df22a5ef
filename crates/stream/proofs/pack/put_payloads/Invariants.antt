-- The payloads passed stand at the beginning, and the rest is as it was.
use mathlib.Core.Path.{◌≡◌}
use Rattle.rules.specs.Blocks.{payloads}
use Rattle.stream.proofs.PackLaws.{begun}
use Rattle.stream.proofs.pack.put_payloads.Given as goal

abbrev pub invariant-loop-n : goal.invariant-loop-n
invariant-loop-n l = l.out ≡ begun l.initial.out (payloads l.n l.s)
