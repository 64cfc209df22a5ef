use native.Mathlib.Omega.{arith}
use Rattle.lexeme.proofs.ClassLaws.{kth_found}
use Rattle.lexeme.proofs.class.is_kth.Goals as goal

pub returns-then-k-count : goal.returns-then-k-count
returns-then-k-count c = kth_found _ _ _ _ _ (omega (arith, c.if-k-count.true, c.requires.0)) (rw c.from.ensures at c.range_at.ensures) _ c.is_between.ensures
