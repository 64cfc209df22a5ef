use native.Mathlib.Omega.{arith}
use mathlib.Core.Path.{◌∙◌, sym}
use Rattle.lexeme.proofs.MixedLaws.{mix_start, mix_turn}
use Rattle.lexeme.proofs.runs.mixed.Goals as goal

pub loop-i-init : goal.loop-i-init
loop-i-init c = mix_start _ _ _ _ _ c.requires.0 c.word.ensures c.word-2.ensures

pub loop-i-preserved : goal.loop-i-preserved
loop-i-preserved c = mix_turn _ _ _ _ _ _ _ _ _ _ c.loop-i.invariant c.loop-i-test.true c.from-b.ensures (omega (arith, c.type_inv.part c.loop-i.i)) (sym c.has.ensures ∙ c.if-not-has.false) c.word-in-loop-i.ensures c.is_lead-lead.ensures
