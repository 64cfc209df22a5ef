use mathlib.Core.Path.{◌∙◌, ap}
use native.Mathlib.Omega.{arith}
use Rattle.rules.specs.Lexeme.{is_of_class}
use Rattle.lexeme.proofs.BitLaws.{word_says}
use Rattle.lexeme.proofs.StepLaws.{plain_judged}
use Rattle.lexeme.proofs.scan.first.Goals as goal

pub returns-then-b-lt128 : goal.returns-then-b-lt128
returns-then-b-lt128 c = plain_judged _ _ _ _ _ c.if-b-lt128.true _ (c.has.ensures ∙ word_says _ _ _ c.word.ensures ∙ c.requires.class_set.same _ (omega arith) ∙ ap (is_of_class _ _) c.from-x.ensures) c.judge.ensures
