use native.Mathlib.Omega.{arith}
use Rattle.feed.proofs.MarkLaws.{few_marks, marked}
use Rattle.feed.proofs.mark_heads.Goals as goal

pub overflow_cast-heads : goal.overflow_cast-heads
overflow_cast-heads c = omega (arith, few_marks c.requires c.mark-marks.ensures, c.requires.few)

pub overflow_sub-result : goal.overflow_sub-result
overflow_sub-result c = few_marks c.requires c.mark-marks.ensures

pub returns : goal.returns
returns c = marked c.requires c.mark-marks.ensures
