use mathlib.Core.Path.{◌≡◌}
use Rattle.lexeme.proofs.LexemeLaws.{Reading}
use Rattle.lexeme.proofs.admits_parts.Given as goal

abbrev pub invariant-loop-part : goal.invariant-loop-part
invariant-loop-part l = (l.part-iterator.stream.now ≡ l.s) × Reading l.g l.p l.s l.fn.t l.state l.part-iterator.rest
