use Rattle.feed.proofs.OrderLaws.{heads_refused}
use Rattle.feed.proofs.SetLaws.{tabled, heads_filled}
use Rattle.feed.proofs.set.judge.Goals as goal

pub invariant_of-set : goal.invariant_of-set
invariant_of-set c = record { tabled = tabled _ _ _ _ _ _ _ _ c.requires.grammar_laid c.requires.templates_laid c.grammar_heads-in_g.ensures c.templates_heads-in_t.ensures }

pub returns-in_err-judge_tabled : goal.returns-in_err-judge_tabled
returns-in_err-judge_tabled c = heads_refused _ _ _ _ _ _ _ c.from_residual.ensures.1 c.in_err-judge_tabled.ensures _ (heads_filled _ _ _ _ _ _ _ _ c.requires.grammar_laid c.requires.templates_laid c.grammar_heads-in_g.ensures c.templates_heads-in_t.ensures)

pub returns : goal.returns
returns c =
    let all = heads_filled _ _ _ _ _ _ _ _ c.requires.grammar_laid c.requires.templates_laid c.grammar_heads-in_g.ensures c.templates_heads-in_t.ensures in
    record { is = c.in_ok-judge_tabled.ensures; filled = all; heads = _; tables = all }
