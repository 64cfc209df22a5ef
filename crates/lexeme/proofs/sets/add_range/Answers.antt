use native.Mathlib.Omega.{arith}
use borrow.Author.Rules.{rules}
use Rattle.lexeme.proofs.SetLaws.{range_long, ones_filled}
use Rattle.lexeme.proofs.sets.add_range.Goals as goal

pub returns-then-from-to : goal.returns-then-from-to
returns-then-from-to c = range_long _ _ _ _ _ _ _ c.if-from-to.true c.min.ensures c.add_at.ensures (ones_filled _ _ _ _ (omega (arith, c.if-from-to.true)) (omega (arith, c.add_at.auto.set, c.requires.0)) (c.fill.ensures.after (λ y e. search rules))) c.add_at-then-from-to.ensures
