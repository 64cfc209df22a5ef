use Prim.Native.Nat.{◌+◌, ℕ}
use mathlib.Core.Path.{◌∙◌}
use native.Mathlib.Omega.{arith}
use borrow.Author.Rules.{rules}
use Rattle.std.proofs.lemmas.Iterator.{YieldsList-from_range}
use Rattle.std.proofs.lemmas.Iterator.Search.{any_from_yields_List}
use Rattle.rules.specs.Lexeme.{within, lowest, highest}
use Rattle.lexeme.proofs.ClassLaws.{search_all}
use Rattle.lexeme.proofs.class.search.Goals as goal

pub returns : goal.returns
returns c =
    any_from_yields_List (λ (i : ℕ). within (lowest c.args.g.now i) (highest c.args.g.now i) c.args.x) _ _ _ c.any.ensures.ran
    (YieldsList-from_range (c.args.p + 1) (c.args.p + 1 + c.args.count) c.args.count (cc) (omega arith)) (λ x b q k. (search rules, search rules))
    ∙ search_all _ _ _ _ c.requires.0
