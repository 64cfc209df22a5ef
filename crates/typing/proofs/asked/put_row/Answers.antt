-- What stands in the row, with what is left to put in, is the whole row; and it ends before the element that is read. Assumes nothing.
use mathlib.Core.Path.{sym, ◌∙◌}
use native.Mathlib.Omega.{arith}
use Rattle.typing.proofs.FillLaws.{asked_inside, filling_start, filling_keyword, filling_asked, filling_end}
use Rattle.typing.proofs.asked.put_row.Goals as goal
use Rattle.typing.proofs.asked.put_row.Goals.{then-r-ne0, else-r-ne0}

pub loop-i-init : goal.loop-i-init
loop-i-init c = filling_start _ _ _ _ c.requires.0 (rw (← c.from-q.ensures) at c.requires.1) c.fetch-n.ensures.d c.requires.2

pub overflow_cast-asked : goal.overflow_cast-asked
overflow_cast-asked c = record { fits = omega (arith, asked_inside _ _ c.requires.0 (λ z. c.if-r-ne0.true (c.fetch-r.ensures.a ∙ z))) }

pub bounds-asked-q : goal.bounds-asked-q
bounds-asked-q c = omega (arith, asked_inside _ _ c.requires.0 (λ z. c.if-r-ne0.true (c.fetch-r.ensures.a ∙ z)), c.loop-i.invariant.behind)

pub loop-i-preserved : goal.loop-i-preserved
loop-i-preserved c = elim c.if-r-ne0.branch [
  | then-r-ne0 w ↦ rw (w.asked-is, w.count-is) (filling_asked c.loop-i.invariant c.loop-i-test.true _ (c.size_of-e.ensures.is _ _ c.fetch-r.ensures) c.size_of-e.ensures.small c.requires.0 (λ z. w.if-r-ne0.true (c.fetch-r.ensures.a ∙ z)))
  | else-r-ne0 w ↦ rw (w.asked-is, w.count-is) (filling_keyword c.loop-i.invariant c.loop-i-test.true _ (c.size_of-e.ensures.is _ _ c.fetch-r.ensures) c.size_of-e.ensures.small (sym c.fetch-r.ensures.a ∙ w.if-r-ne0.false))
]

pub returns : goal.returns
returns c = rw (← c.from-q.ensures) (filling_end c.loop-i.invariant c.loop-i-test.false)
