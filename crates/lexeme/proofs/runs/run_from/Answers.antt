use Rattle.lexeme.proofs.RunLaws.{plain_ran, ran_then}
use Rattle.lexeme.proofs.runs.run_from.Goals as goal

pub returns-then-part-at : goal.returns-then-part-at
returns-then-part-at c = plain_ran _ _ _ c.word.ensures c.word-2.ensures _ _ _ c.by_four-at.ensures

pub returns : goal.returns
returns c = ran_then _ _ _ _ _ _ _ (plain_ran _ _ _ c.word.ensures c.word-2.ensures _ _ _ c.by_four-at.ensures) c.mixed-rest.ensures
