use Rattle.std.proofs.Common.{◌≡◌, ◌+◌, ◌-◌}
use Rattle.rules.specs.Records.{after}
use Rattle.rules.specs.Grammar.{element_size}
use Rattle.stream.specs.Record.{place_of}
use Rattle.layout.proofs.heads.ProductionsSpanning.next.Given as goal

abbrev pub invariant-loop : goal.invariant-loop
invariant-loop l = (after (element_size l.g) (l.end - l.counter) l.q ≡ after (element_size l.g) l.fn.r.d (l.p + 1)) × (l.at ≡ place_of l.q)
