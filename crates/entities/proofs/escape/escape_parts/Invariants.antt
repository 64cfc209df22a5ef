use mathlib.Core.Path.{◌≡◌}
use Rattle.entities.proofs.EscapeLaws.{Writing}
use Rattle.entities.proofs.escape.escape_parts.Given as goal

abbrev pub invariant-loop-part : goal.invariant-loop-part
invariant-loop-part l =
    (l.part-iterator.stream.now ≡ l.s) ×
    Writing l.s l.fn.t l.part-iterator.rest l.initial.out l.out l.done
