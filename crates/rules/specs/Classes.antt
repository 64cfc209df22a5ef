-- Refusal 6: "A class has least above most, or a range has lowest above highest or passes U+10FFFF."
use Rattle.std.specs.Prelude.{ℕ, List, Bool, cond, ◌&&◌, leb}
use Rattle.std.proofs.Math.Option.{Option, none}
use Rattle.rules.specs.Faults.{need, both, every}
use Rattle.rules.specs.Records.{field_b, field_c, of_kind}
use Rattle.rules.specs.Grammar.{classes}
use Rattle.rules.specs.Lexeme.{lowest, highest, ranges}

unfoldable pub range_right : List ℕ → ℕ → Bool
range_right g r = leb (lowest g r) (highest g r) && leb (highest g r) 0x10ffff

unfoldable pub class_bounds : List ℕ → ℕ → Option ℕ
class_bounds g p = both (need (leb (field_b g p) (field_c g p)) p) (every (λ r. need (range_right g r) r) (ranges g p))

-- an escaped class has neither a least nor a most nor ranges
unfoldable pub bounds_right : List ℕ → ℕ → Option ℕ
bounds_right g p = cond (of_kind g 5 p) none (class_bounds g p)

unfoldable pub grammar_classes : List ℕ → Option ℕ
grammar_classes g = every (bounds_right g) (classes g)
