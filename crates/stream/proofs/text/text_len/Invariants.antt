use Prim.Native.Nat.{◌+◌}
use mathlib.Core.Path.{◌≡◌}
use lib.ListN.{length}
use Rattle.stream.specs.Text.{text_in}
use Rattle.stream.proofs.text.text_len.Given as goal

abbrev pub invariant-loop-part : goal.invariant-loop-part
invariant-loop-part l =
    (l.part-iterator.stream.now ≡ l.s) ×
    (l.n + length (text_in l.s l.part-iterator.rest) ≡ length (text_in l.s l.fn.t))
