use mathlib.Core.Path.{◌≡◌}
use Rattle.rules.specs.Escape.{escape}
use Rattle.stream.specs.Text.{text_in}
use Rattle.entities.proofs.escape.is_own_form.Given as goal

abbrev pub invariant-loop-part : goal.invariant-loop-part
invariant-loop-part l =
    (l.part-iterator.stream.now ≡ l.s) ×
    (escape (text_in l.s l.part-iterator.rest) ≡ text_in l.s l.part-iterator.rest → escape (text_in l.s l.fn.t) ≡ text_in l.s l.fn.t)
