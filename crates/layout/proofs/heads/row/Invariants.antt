use Rattle.layout.proofs.HeadsFillLaws.{FillingRow}
use Rattle.layout.proofs.heads.row.Given as goal

abbrev pub invariant-loop-count : goal.invariant-loop-count
invariant-loop-count g l = FillingRow l.s (g.S.Sort.is l.s) (g.S.Spanning.size l.s) l.start l.initial.table l.table l.count l.next
