use Rattle.lexeme.specs.Runs.{Plain}
use Rattle.lexeme.proofs.runs.by_one.Given as goal

abbrev pub invariant-loop-i : goal.invariant-loop-i
invariant-loop-i l = Plain l.words l.part l.from l.i
