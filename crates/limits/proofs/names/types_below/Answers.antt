-- What is wrong in the records from the next on is what is wrong in all of them.
use borrow.Author.Rules.{rules}
use borrow.Author.Tests.{lt-ltb, le-ltb}
use Rattle.laws.specs.Faults.{need_right, need_wrong, every_next, every_stop}
use Rattle.rules.specs.Faults.{every}
use Rattle.limits.specs.Rows.{types_below}
use Rattle.limits.proofs.TurnLaws.{row_start, row_turn, row_over}
use Rattle.limits.proofs.names.types_below.Goals as goal

pub loop-at-init : goal.loop-at-init
unfolding types_below
loop-at-init c = search (rules, row_start)

pub returns-then-bound-naming : goal.returns-then-bound-naming
returns-then-bound-naming c = every_stop _ c.loop-at.invariant (row_turn _ _ c.loop-at-test.true) (need_wrong _ (rw (← c.fetch-naming.ensures.b) (le-ltb _ _ c.if-bound-naming.true)))

pub loop-at-preserved : goal.loop-at-preserved
loop-at-preserved c = every_next _ c.loop-at.invariant (row_turn _ _ c.loop-at-test.true) (need_right _ (rw (← c.fetch-naming.ensures.b) (lt-ltb _ _ c.if-bound-naming.false)))

pub returns : goal.returns
unfolding every
returns c = search (rules, row_over)
