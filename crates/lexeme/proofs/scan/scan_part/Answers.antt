use mathlib.Core.Path.{sym, ◌∙◌, refl}
use native.Mathlib.Omega.{arith}
use Rattle.lexeme.proofs.StepLaws.{seen_first}
use Rattle.lexeme.proofs.PartLaws.{scan_run, scan_turn, scan_stop, scan_done}
use Rattle.lexeme.proofs.scan.scan_part.Goals as goal

pub returns-in_err-s : goal.returns-in_err-s
returns-in_err-s c = c.from_residual.ensures ∙ scan_stop _ _ _ _ _ _ _ c.loop-i.invariant c.loop-i-test.true refl c.in_err-s.ensures

pub loop-i-preserved-then-s-ne0 : goal.loop-i-preserved-then-s-ne0
loop-i-preserved-then-s-ne0 c = scan_turn _ _ _ _ _ _ _ c.loop-i.invariant c.loop-i-test.true refl _ (omega (arith, c.type_inv.part c.loop-i.i)) c.in_ok-s.ensures

pub returns-then-part-run : goal.returns-then-part-run
returns-then-part-run c = rw c.between.ensures (scan_done _ _ _ _ _ _ (scan_run _ _ _ _ _ _ _ _ _ c.requires.class c.loop-i.invariant c.if-s-ne0.false c.ahead-run.ensures) c.if-part-run.true)

pub returns-in_err-s-2 : goal.returns-in_err-s-2
returns-in_err-s-2 c = c.from_residual-in_err-s-2.ensures ∙ scan_stop _ _ _ _ _ _ _ (scan_run _ _ _ _ _ _ _ _ _ c.requires.class c.loop-i.invariant c.if-s-ne0.false c.ahead-run.ensures) c.if-part-run.false refl (c.in_err-s-2.ensures ∙ sym (seen_first _ _ _ _))

pub loop-i-preserved : goal.loop-i-preserved
loop-i-preserved c = scan_turn _ _ _ _ _ _ _ (scan_run _ _ _ _ _ _ _ _ _ c.requires.class c.loop-i.invariant c.if-s-ne0.false c.ahead-run.ensures) c.if-part-run.false refl _ (omega (arith, c.type_inv.part c.ahead-run.result.at)) (c.in_ok-s-2.ensures ∙ sym (seen_first _ _ _ _))

pub returns : goal.returns
returns c = scan_done _ _ _ _ _ _ c.loop-i.invariant c.loop-i-test.false
