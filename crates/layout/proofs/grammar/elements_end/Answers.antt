use Rattle.std.proofs.Common.{sym, ◌∙◌}
use Rattle.laws.specs.Reads.{in_row_go, in_row_broken, in_row_done}
use Rattle.layout.proofs.grammar.elements_end.Goals as goal

pub returns-in_err-q : goal.returns-in_err-q
returns-in_err-q c = rw c.from_residual.ensures (sym (in_row_broken _ _ _ _ c.loop-test.true (sym c.in_err-q.ensures)) ∙ c.loop.invariant)

pub loop-preserved : goal.loop-preserved
loop-preserved c = sym (in_row_go _ _ _ _ _ c.loop-test.true (sym c.in_ok-q.ensures)) ∙ c.loop.invariant

pub returns : goal.returns
returns c = sym (in_row_done _ _ _ _ c.loop-test.false) ∙ c.loop.invariant
