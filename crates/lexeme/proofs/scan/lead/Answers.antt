use native.Mathlib.Omega.{arith}
use Rattle.lexeme.proofs.StepLaws.{lead_none, lead_two, lead_three, lead_four}
use Rattle.lexeme.proofs.scan.lead.Goals as goal

pub returns-then-b-lt-LEAST_LEAD : goal.returns-then-b-lt-LEAST_LEAD
returns-then-b-lt-LEAST_LEAD c = λ g rs. lead_none g rs _ _ c.requires c.then-b-lt-LEAST_LEAD.either

pub returns-then-b-lt224 : goal.returns-then-b-lt224
returns-then-b-lt224 c = λ g rs. lead_two g rs _ _ _ _ (omega arith) c.if-b-lt224.true c.from.ensures c.inside.ensures

pub returns-then-b-lt240 : goal.returns-then-b-lt240
returns-then-b-lt240 c = λ g rs. lead_three g rs _ _ _ _ c.if-b-lt224.false c.if-b-lt240.true _ _ c.least_next.ensures c.most_next.ensures c.from-then-b-lt240.ensures c.inside-then-b-lt240.ensures

pub returns : goal.returns
returns c = λ g rs. lead_four g rs _ _ _ _ c.if-b-lt240.false c.if-b-gt-MOST_LEAD.false _ _ c.least_next-2.ensures c.most_next-2.ensures c.from-2.ensures c.inside-2.ensures
