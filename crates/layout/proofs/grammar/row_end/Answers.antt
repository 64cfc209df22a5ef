use Rattle.std.proofs.Common.{sym, ◌∙◌}
use Rattle.layout.proofs.GrammarLaws.{turns_stop, turns_done, turns_go, turns_broken}
use Rattle.layout.proofs.grammar.row_end.Goals as goal

pub returns-then-not-is_head : goal.returns-then-not-is_head
returns-then-not-is_head g c = sym (turns_stop _ _ _ _ _ (sym (c.is_head.ensures.told _ _ c.fetch-head.ensures) ∙ c.if-not-is_head.true)) ∙ c.loop-n.invariant

pub end-requires : goal.end-requires
end-requires g c = record { sized = c.whole.ensures.sized; fetched = c.fetch-head.ensures; inside = c.is_head.ensures.inside _ _ c.whole.ensures.sized c.fetch-head.ensures c.if-not-is_head.false }

pub returns-in_err-p : goal.returns-in_err-p
returns-in_err-p g c = rw c.from_residual.ensures (sym (turns_broken _ _ _ _ _ c.loop-n-test.true (sym (c.is_head.ensures.told _ _ c.fetch-head.ensures) ∙ c.if-not-is_head.false) (sym c.in_err-p.ensures)) ∙ c.loop-n.invariant)

pub loop-n-preserved : goal.loop-n-preserved
loop-n-preserved g c = sym (turns_go _ _ _ _ _ c.loop-n-test.true (sym (c.is_head.ensures.told _ _ c.fetch-head.ensures) ∙ c.if-not-is_head.false) _ (sym c.in_ok-p.ensures)) ∙ c.loop-n.invariant

pub returns : goal.returns
returns g c = sym (turns_done _ _ _ _ _ c.loop-n-test.false) ∙ c.loop-n.invariant
