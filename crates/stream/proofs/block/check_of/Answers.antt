use borrow.Author.Rules.{rules}
use Rattle.rules.specs.Blocks.{word32, check_of}
use Rattle.rules.specs.Records.{word}
use Rattle.stream.proofs.block.check_of.Goals as goal

pub returns : goal.returns
unfolding check_of word32 word
returns c = search rules
