use Rattle.std.proofs.Common.{◌≡◌, ◌-◌}
use Rattle.rules.specs.Records.{record_count}
use Rattle.rules.specs.Layout.{while_is}
use Rattle.layout.proofs.grammar.row_end.Given as goal

abbrev pub invariant-loop-n : goal.invariant-loop-n
invariant-loop-n g l = while_is (g.S.Sort.is l.g) (g.S.Numbered.end l.g) (l.n-end - l.n) l.n l.p ≡ while_is (g.S.Sort.is l.g) (g.S.Numbered.end l.g) (record_count l.g) 0 l.start
