use mathlib.Core.Path.{refl, ap, ◌∙◌}
use Rattle.rules.specs.Answers.{placed}
use Rattle.feed.specs.Verdict.{set_judgement}
use Rattle.feed.proofs.OrderLaws.{tried, went_on, last_said, passed, firsts, first_none, set_refused, set_judged}
use Rattle.feed.proofs.SetLaws.{typing_asks, lexemes_ready}
use Rattle.feed.proofs.set.Set.judge_set.Goals as goal

pub returns-in_err-first : goal.returns-in_err-first
unfolding set_judgement
returns-in_err-first c = set_refused _ _ _ _ _ _ _ c.from_residual.ensures.1 (tried 4 _ _ _ c.in_err-first.ensures (firsts _ _ _ _ _ _ refl c.templates_limits-deep.ensures refl))

pub returns-in_err-judge_names : goal.returns-in_err-judge_names
unfolding set_judgement
returns-in_err-judge_names c = set_refused _ _ _ _ _ _ _ c.from_residual-in_err-judge_names.ensures.1 (tried 5 _ _ _ c.in_err-judge_names.ensures refl ∙ went_on 4 _ _ _ c.in_ok-first.ensures (firsts _ _ _ _ _ _ refl c.templates_limits-deep.ensures refl))

pub returns-in_err-against : goal.returns-in_err-against
unfolding set_judgement
returns-in_err-against c = set_refused _ _ _ _ _ _ _ c.from_residual-in_err-against.ensures.1 (tried 6 _ _ _ c.in_err-against.ensures (ap (placed 1) c.grammar_classes-wrong.ensures) ∙ went_on 5 _ _ _ c.in_ok-judge_names.ensures refl ∙ went_on 4 _ _ _ c.in_ok-first.ensures (firsts _ _ _ _ _ _ refl c.templates_limits-deep.ensures refl))

pub templates_typing-typed-requires : goal.templates_typing-typed-requires
templates_typing-typed-requires c = typing_asks _ _ _ _ _ _ _ c.args.self.now.tabled c.class_sets.ensures (first_none _ _ _ (passed 4 _ _ c.in_ok-first.ensures (firsts _ _ _ _ _ _ refl c.templates_limits-deep.ensures refl))).1

pub returns : goal.returns
unfolding set_judgement
returns c = set_judged _ _ _ _ _ _ (last_said 7 _ _ c.against-2.ensures (ap (placed 2) c.templates_typing-typed.ensures) ∙ went_on 6 _ _ _ c.in_ok-against.ensures (ap (placed 1) c.grammar_classes-wrong.ensures) ∙ went_on 5 _ _ _ c.in_ok-judge_names.ensures refl ∙ went_on 4 _ _ _ c.in_ok-first.ensures (firsts _ _ _ _ _ _ refl c.templates_limits-deep.ensures refl)) (lexemes_ready _ _ _ _ _ _ _ c.args.self.now.tabled c.class_sets.ensures)
