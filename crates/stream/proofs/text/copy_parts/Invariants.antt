use mathlib.Core.Path.{◌≡◌}
use Rattle.stream.proofs.TextCopyLaws.{Copying}
use Rattle.stream.proofs.text.copy_parts.Given as goal

abbrev pub invariant-loop-part : goal.invariant-loop-part
invariant-loop-part l =
    (l.part-iterator.stream.now ≡ l.s) ×
    Copying l.s l.fn.t l.part-iterator.rest l.initial.out l.out l.done
