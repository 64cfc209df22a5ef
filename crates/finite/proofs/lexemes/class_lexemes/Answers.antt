-- What is noted of the classes before the next.
use native.Mathlib.Omega.{arith}
use Rattle.finite.proofs.LexemeLaws.{noted_start, noted_next, noted_done, a_class}
use Rattle.finite.proofs.lexemes.class_lexemes.Goals as goal

pub loop-n-init : goal.loop-n-init
loop-n-init c = noted_start _

pub has_lexeme-requires : goal.has_lexeme-requires
has_lexeme-requires c = record { a_class = a_class _ _ _ c.requires.classes_are c.loop-n-test.true; named = c.requires.named; noted = c.loop-n.invariant }

pub loop-n-preserved : goal.loop-n-preserved
loop-n-preserved c = noted_next _ _ _ _ c.loop-n.invariant (omega arith) c.has_lexeme.ensures

pub returns : goal.returns
returns c = noted_done _ _ _ _ c.requires.classes_are c.loop-n.invariant (omega arith)
