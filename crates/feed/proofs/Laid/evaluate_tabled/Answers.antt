use borrow.Author.Rules.{rules}
use Rattle.feed.proofs.OrderLaws.{three_laid, judged_set, evaluate_handed, evaluate_refused, evaluate_scratch, none_refuses}
use Rattle.feed.proofs.SetLaws.{evaluate_judges, walk_asks}
use Rattle.feed.proofs.EndLaws.{evaluate_walks}
use Rattle.feed.proofs.Laid.evaluate_tabled.Goals as goal

pub judge-requires : goal.judge-requires
judge-requires g c = evaluate_judges _ _ _ _ _ _ _ c.args.self.now.laid (search rules) c.requires.templates_room

pub returns-in_err-heads : goal.returns-in_err-heads
returns-in_err-heads g c = evaluate_handed _ _ _ _ c.from_residual.ensures.1 (evaluate_refused _ _ _ _ _ _ c.args.self.now.laid.passed c.in_err-heads.ensures.is)

pub returns-then-scratch-lt-SCRATCH : goal.returns-then-scratch-lt-SCRATCH
returns-then-scratch-lt-SCRATCH g c = evaluate_scratch _ _ _ _ _ _ c.args.self.now.laid.passed c.in_ok-heads.ensures.is c.if-scratch-lt-SCRATCH.true

pub run-requires : goal.run-requires
run-requires g c =
    let h = judged_set _ _ _ c.in_ok-heads.ensures.is in
    walk_asks _ _ _ _ _ _ _ _ _ _ _ c.in_ok-heads.ensures.filled.tabled c.mark_heads-from.ensures.table h.0 h.1 (three_laid _ _ _ c.args.self.now.laid.passed).2 c.args.self.now.laid.children c.if-scratch-lt-SCRATCH.false

pub returns : goal.returns
returns g c = evaluate_walks _ _ _ _ _ _ _ _ _ (none_refuses _ _ _ _ c.args.self.now.laid.passed c.in_ok-heads.ensures.is c.if-scratch-lt-SCRATCH.false) (search rules) c.run.ensures
