use Rattle.stream.specs.Text.{Skips}
use Rattle.stream.proofs.text.text_skip.Given as goal

abbrev pub invariant-loop : goal.invariant-loop
invariant-loop l = Skips l.counter l.initial.rest l.rest
