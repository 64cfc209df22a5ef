use Prim.Native.Nat.{◌+◌, ◌≤◌}
use mathlib.Core.Path.{◌≡◌}
use lib.ListN.{length}
use Rattle.rules.specs.Escape.{escape}
use Rattle.stream.specs.Text.{text_in}
use Rattle.entities.proofs.escape.escaped_len.Given as goal

abbrev pub invariant-loop-part : goal.invariant-loop-part
invariant-loop-part l =
    (l.part-iterator.stream.now ≡ l.s) ×
    (l.part-iterator.rest.left ≤ l.fn.t.left) ×
    (l.n + length (escape (text_in l.s l.part-iterator.rest)) ≡ length (escape (text_in l.s l.fn.t)))
