use borrow.Author.Rules.{rules}
use Rattle.stream.proofs.RecordLaws.{word_at, built}
use Rattle.stream.proofs.record.inside.Goals as goal

pub returns : goal.returns
returns c = built _ _ _ _ _ (word_at _ _ 2 _ (search rules)) (word_at _ _ 4 _ (search rules)) (word_at _ _ 6 _ (search rules))
