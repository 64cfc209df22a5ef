use Rattle.std.proofs.Common.{sym, ◌∙◌, arith}
use Rattle.laws.specs.Reads.{in_row_go, in_row_broken}
use Rattle.layout.proofs.GrammarLaws.{row_end, range_right_lem, range_wrong}
use Rattle.layout.proofs.grammar.ranges_end.Goals as goal

pub returns-then-range-ne2 : goal.returns-then-range-ne2
returns-then-range-ne2 c = sym (in_row_broken _ _ _ _ c.loop-k-test.true (range_wrong c.fetch-range.ensures c.then-range-ne2.either)) ∙ c.loop-k.invariant

pub loop-k-preserved : goal.loop-k-preserved
loop-k-preserved c = sym (in_row_go _ _ _ _ _ c.loop-k-test.true (range_right_lem c.fetch-range.ensures _ (omega arith) c.if-range-ne2.false c.if-range-gt255.false)) ∙ c.loop-k.invariant

pub returns : goal.returns
returns c = sym (row_end _ _ _ _ (omega arith) c.loop-k-test.false) ∙ c.loop-k.invariant
