use native.Mathlib.Omega.{arith}
use Rattle.records.proofs.SizeLaws.{size_yes_no, size_field}
use Rattle.records.proofs.value.size_of.Goals as goal

pub returns-then-head-eq2 : goal.returns-then-head-eq2
returns-then-head-eq2 c = size_yes_no _ c.if-head-eq2.true

pub returns-else-head-eq2 : goal.returns-else-head-eq2
returns-else-head-eq2 c = size_field _ c.if-head-eq2.false (omega arith)
