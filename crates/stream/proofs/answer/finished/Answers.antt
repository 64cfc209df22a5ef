use borrow.Author.Rules.{rules}
use Rattle.rules.specs.Answers.{answer}
use Rattle.stream.proofs.answer.finished.Goals as goal

pub returns : goal.returns
unfolding answer
returns c = search rules
