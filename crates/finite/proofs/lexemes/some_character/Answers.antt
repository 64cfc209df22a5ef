-- `any` asks of one range after the other.
use Prim.Native.Nat.{◌+◌}
use mathlib.Core.Path.{refl, ◌∙◌}
use native.Mathlib.Omega.{arith}
use borrow.Author.Rules.{rules}
use Rattle.std.proofs.Common.{tests}
use Rattle.std.proofs.lemmas.Iterator.{YieldsList-from_range}
use Rattle.std.proofs.lemmas.Iterator.Search.{any_from_yields_List}
use Rattle.rules.specs.Finite.{has_character}
use Rattle.finite.proofs.LexemeLaws.{some_in_row}
use Rattle.finite.proofs.lexemes.some_character.Goals as goal

pub returns : goal.returns
returns c = any_from_yields_List (has_character c.args.g.now) _ _ _ c.any.ensures.ran (YieldsList-from_range c.args.first (c.args.first + c.args.count) c.args.count refl (omega arith)) (λ x b q k. search (rules, tests)) ∙ some_in_row c.args.g.now c.args.count c.args.first
