use mathlib.Core.Path.{◌∙◌}
use Rattle.rules.specs.Answers.{answer}
use Rattle.feed.specs.Verdict.{run_answer}
use borrow.Author.Tests.{eq-eqb, ne_eqb}
use Rattle.feed.proofs.verdict.ended.Goals as goal

pub returns-then-r-eq0 : goal.returns-then-r-eq0
unfolding answer run_answer
returns-then-r-eq0 c = c.finished.ensures ∙ rw (eq-eqb _ _ c.if-r-eq0.true)

pub returns : goal.returns
unfolding answer run_answer
returns c = rw (ne_eqb _ _ c.if-r-eq0.false, c.from.ensures, c.from-2.ensures)
