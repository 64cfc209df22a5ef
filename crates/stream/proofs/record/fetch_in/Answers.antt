use Rattle.stream.proofs.RecordLaws.{fetched_here}
use Rattle.stream.proofs.record.fetch_in.Goals as goal

pub returns : goal.returns
returns c = λ i e. fetched_here _ _ i _ (λ k. (c.type_inv.s k).fits) e c.inside.ensures
