use native.Mathlib.Omega.{arith}
use Rattle.lexeme.proofs.ClassLaws.{compile_turn, compile_end}
use Rattle.lexeme.proofs.sets.class_sets.Goals as goal

pub loop-n-preserved : goal.loop-n-preserved
loop-n-preserved c = compile_turn _ _ _ _ _ _ c.loop-n.invariant (omega arith) (omega (arith, c.loop-n.invariant.size, c.all_hints.auto.table, c.requires.room)) c.class_set.ensures

pub returns : goal.returns
returns c = compile_end _ _ _ _ _ c.loop-n.invariant (omega arith) c.requires.heads
