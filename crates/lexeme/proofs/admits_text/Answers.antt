use mathlib.Core.Path.{sym, ◌∙◌}
use native.Mathlib.Omega.{arith}
use borrow.Author.Tests.{eqb-true}
use Rattle.lexeme.proofs.LexemeLaws.{by_scan, by_kind, run_enough, run_few}
use Rattle.lexeme.proofs.admits_text.Goals.{then-head-eq1, else-head-eq1}
use Rattle.lexeme.proofs.admits_text.Goals as goal

pub returns-then-head-run : goal.returns-then-head-run
returns-then-head-run c = elim c.if-head-eq1.branch [
  | then-head-eq1 w ↦ by_scan _ _ _ _ _ (sym c.fetch-head.ensures.kind ∙ w.if-head-eq1.true) (run_enough _ _ _ _ _ _ _ c.requires _ _ c.run_from-run.ensures c.if-part-run.true c.text_part-part.ensures c.text_rest-rest.ensures (λ k. (c.type_inv.s k).fits) (omega arith) _ _ c.fetch-head.ensures.b c.fetch-head.ensures.c _ w.value-is c.if-head-run.true)
  | else-head-eq1 w ↦ absurd (w.if-head-eq1.false (eqb-true _ 1 (sym w.value-is ∙ c.if-head-run.true)))
]

pub returns-else-head-run : goal.returns-else-head-run
returns-else-head-run c = elim c.if-head-eq1.branch [
  | then-head-eq1 w ↦ by_scan _ _ _ _ _ (sym c.fetch-head.ensures.kind ∙ w.if-head-eq1.true) (run_few _ _ _ _ _ _ _ c.requires _ _ c.run_from-run.ensures c.if-part-run.true c.text_part-part.ensures c.text_rest-rest.ensures (λ k. (c.type_inv.s k).fits) (omega arith) _ _ c.fetch-head.ensures.b c.fetch-head.ensures.c _ w.value-is c.if-head-run.false)
  | else-head-eq1 w ↦ λ n f. c.if-head-run.false ∙ by_kind _ _ _ (rw c.fetch-head.ensures.kind at w.if-head-eq1.false) n f
]
