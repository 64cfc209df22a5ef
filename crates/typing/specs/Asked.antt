-- The table of asked elements: for each production, at its head's place how many of its elements are no keywords, and after it their heads.
-- It is filled once, so that a build costs no more than its children, however many keywords its production has.
use Rattle.std.specs.Prelude.{ℕ, zero, suc, ◌+◌, ◌<◌, ◌≡◌, List, [], ◌∷◌, true, false, length, get_or, take, eqb}
use Rattle.std.proofs.Math.Option.{some}
use Rattle.rules.specs.Records.{field_a, field_b, nth}
use Rattle.rules.specs.Grammar.{productions, element_heads}
use Rattle.rules.specs.declared.Position.{Position}
use Rattle.rules.specs.declared.Position.TheVariants.{Class, Nonterminal, Repetition, Nothing}

-- those of the elements that are no keywords
unfoldable pub asked_among : List ℕ → List ℕ → List ℕ
asked_among g [] = []
asked_among g (e ∷ es) = elim (eqb (field_a g e) 0) [ true ↦ asked_among g es | false ↦ e ∷ asked_among g es ]

unfoldable pub asked_of : List ℕ → ℕ → List ℕ
asked_of g q = asked_among g (element_heads g q)

-- what such an element asks for
unfoldable pub position_numbered : ℕ → ℕ → Position
position_numbered zero b = Nothing
position_numbered (suc zero) b = Class b
position_numbered (suc (suc zero)) b = Nonterminal b
position_numbered (suc (suc (suc zero))) b = Repetition b
position_numbered (suc (suc (suc (suc zero)))) b = Repetition b
position_numbered (suc (suc (suc (suc (suc a))))) b = Nothing

unfoldable pub position_at : List ℕ → ℕ → Position
position_at g e = position_numbered (field_a g e) (field_b g e)

-- the table's entries for the production at q
pub record AskedRow (g asked : List ℕ) (q : ℕ) : Type 0 where
  pub count : get_or asked q 0 ≡ length (asked_of g q)
  pub heads : (j : ℕ) → j < length (asked_of g q) → get_or asked (q + 1 + j) 0 ≡ get_or (asked_of g q) j 0
  pub inside : q + length (asked_of g q) < 8064

pub record AskedFilled (g asked : List ℕ) : Type 0 where
  pub rows : (k q : ℕ) → nth (productions g) k ≡ some q → AskedRow g asked q

-- the row of the production at q was put in, and what stood before it is as it was
pub record RowPut (g : List ℕ) (q : ℕ) (before after : List ℕ) : Type 0 where
  pub full : length after ≡ 8064
  pub kept : take q after ≡ take q before
  pub row : AskedRow g after q
