use native.Mathlib.Omega.{arith}
use Rattle.records.proofs.SizeLaws.{below_case, below_none, below_children}
use borrow.Author.Rules.{rules}
use Rattle.records.proofs.value.count_below.Goals as goal

pub returns-then-head-eq5 : goal.returns-then-head-eq5
returns-then-head-eq5 c = below_case _ c.if-head-eq5.true

pub returns-then-head-lt3 : goal.returns-then-head-lt3
returns-then-head-lt3 c = below_none _ (search rules)

pub returns-else-head-lt3 : goal.returns-else-head-lt3
returns-else-head-lt3 c = below_children _ c.if-head-eq5.false (search rules) (omega arith)
