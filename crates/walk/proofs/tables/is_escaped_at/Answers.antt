use mathlib.Core.Path.{sym}
use mathlib.Core.Bool.{false}
use mathlib.Core.Logic.{inl, inr}
use Rattle.walk.proofs.MarkLaws.{never, no_element, no_class, of_class, unmarked, mark_inside, mark_here}
use Rattle.walk.proofs.tables.is_escaped_at.Goals as goal

pub returns-then-marks-eq0 : goal.returns-then-marks-eq0
returns-then-marks-eq0 c =
    elim c.then-marks-eq0.either [
      | inl z ↦ never c.requires.0 _ c.marks_in-marks.ensures.0 z _
      | inr z ↦ no_element _ _ z.1
    ]

pub returns-then-e-ne1 : goal.returns-then-e-ne1
returns-then-e-ne1 c =
    elim c.then-e-ne1.either [
      | inl z ↦ no_class _ _ c.if-element-eq0.false c.fetch-e.ensures z
      | inr z ↦ of_class _ _ c.if-element-eq0.false c.fetch-e.ensures z.0 false (sym (unmarked c.requires.0 _ c.marks_in-marks.ensures.0 _ (rw c.from-class.ensures at z.1)))
    ]

pub bounds-heads-class : goal.bounds-heads-class
bounds-heads-class c = mark_inside c.requires.0 _ c.marks_in-marks.ensures.0 _ c.if-marks-class.false

pub returns : goal.returns
returns c =
    of_class _ _ c.if-element-eq0.false c.fetch-e.ensures c.if-e-ne1.false _
    (rw c.from-class.ensures (mark_here c.requires.0 _ c.marks_in-marks.ensures.0 _ (rw c.from-class.ensures at c.if-marks-class.false)))
