use Rattle.lexeme.proofs.SetLaws.{add_one_number}
use Rattle.lexeme.proofs.sets.add_at.Goals as goal

pub returns-then-w-lt-SET : goal.returns-then-w-lt-SET
returns-then-w-lt-SET c = add_one_number _ _ _ _ _ c.requires.0 c.if-w-lt-SET.true c.mask.ensures
