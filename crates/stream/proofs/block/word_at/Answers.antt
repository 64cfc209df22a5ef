use borrow.Author.Rules.{rules}
use Rattle.rules.specs.Records.{word}
use Rattle.stream.proofs.block.word_at.Goals as goal

pub returns : goal.returns
unfolding word
returns c = search rules
