use Rattle.std.proofs.Common.{arith}
use Rattle.laws.specs.FirstBytes.{first_low, first_two, first_three, first_four, first_high}
use Rattle.entities.proofs.Utf8Laws.{first_calm, first_broken, first_due}
use Rattle.entities.proofs.utf8.first.Goals as goal

pub returns-in-0-to-127 : goal.returns-in-0-to-127
returns-in-0-to-127 c = rw c.between.ensures (first_calm _ (omega arith))

pub returns-in-128-to-193 : goal.returns-in-128-to-193
returns-in-128-to-193 c = first_broken _ (first_low _ (omega arith) (omega arith))

pub returns-in-194-to-223 : goal.returns-in-194-to-223
returns-in-194-to-223 c = first_due _ _ (first_two _ (omega arith) (omega arith)) c.due.ensures

pub returns-in-224-to-239 : goal.returns-in-224-to-239
returns-in-224-to-239 c = first_due _ _ (first_three _ (omega arith) (omega arith)) (rw (c.due-in-224-to-239.ensures, c.least_next.ensures, c.most_next.ensures))

pub returns-in-240-to-244 : goal.returns-in-240-to-244
returns-in-240-to-244 c = first_due _ _ (first_four _ (omega arith) (omega arith)) (rw (c.due-in-240-to-244.ensures, c.least_next-in-240-to-244.ensures, c.most_next-in-240-to-244.ensures))

pub returns-in_default : goal.returns-in_default
returns-in_default c = first_broken _ (first_high _ (omega arith))
