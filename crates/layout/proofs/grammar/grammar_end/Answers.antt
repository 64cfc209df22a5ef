use Rattle.std.proofs.Common.{sym}
use Rattle.layout.proofs.GrammarLaws.{no_middle, middle_then}
use Rattle.layout.proofs.grammar.grammar_end.Goals as goal

pub returns-in_err-middle : goal.returns-in_err-middle
returns-in_err-middle c = rw c.from_residual.ensures (no_middle _ (sym c.in_err-middle.ensures))

pub returns : goal.returns
returns c = middle_then _ (sym c.in_ok-middle.ensures) c.row_end-2.ensures
