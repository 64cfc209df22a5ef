-- Laws of the table of asked elements. Assumes nothing.
use Prim.Native.Nat.{ℕ, zero, suc, ◌-◌, ◌≤◌, ◌<◌}
use mathlib.Core.Path.{◌≡◌, refl, sym, ap, ◌∙◌}
use mathlib.Core.List.{List, [], ◌∷◌, map}
use mathlib.Core.Bool.{Bool, true, false}
use mathlib.Core.Option.{some}
use native.Mathlib.Omega.{arith}
use lib.ListN.{length}
use lib.Dec.{eqb}
use borrow.Author.Tests.{ne_eqb}
use Rattle.rules.specs.Records.{field_a, field_b, nth}
use Rattle.rules.specs.Grammar.{Element, element_numbered, element_at, element_heads, elements}
use Rattle.rules.specs.Typing.{positions}
use Rattle.rules.specs.declared.Position.{Position}
use Rattle.rules.specs.declared.Position.TheVariants.{Repetition, Nothing}
use Rattle.stream.specs.declared.record.Record.{Record}
use Rattle.stream.specs.Record.{Fetched}
use Rattle.laws.specs.Lists.{length_map}
use Rattle.typing.specs.Asks.{BuildAsks}
use Rattle.typing.specs.Asked.{asked_among, asked_of, position_numbered, position_at, AskedRow}

-- the positions of a production are those of its asked elements

position_of : (g : List ℕ) (a e : ℕ) (es : List Element) (b : Bool) → eqb a 0 ≡ b
    → positions (element_numbered g a e ∷ es) ≡ elim b [ true ↦ positions es | false ↦ position_numbered a (field_b g e) ∷ positions es ]
unfolding positions element_numbered position_numbered
position_of g zero e es b h = rw (← h)
position_of g (suc zero) e es b h = rw (← h)
position_of g (suc (suc zero)) e es b h = rw (← h)
position_of g (suc (suc (suc zero))) e es b h = rw (← h)
position_of g (suc (suc (suc (suc zero)))) e es b h = rw (← h)
position_of g (suc (suc (suc (suc (suc a))))) e es b h =
    let k : eqb (suc (suc (suc (suc (suc a))))) 0 ≡ false = ne_eqb (suc (suc (suc (suc (suc a))))) 0 (λ m. omega arith) in rw (← h, k)

position_next : (g : List ℕ) (e : ℕ) (es : List ℕ) (rest : List Element) (b : Bool) → eqb (field_a g e) 0 ≡ b → positions rest ≡ map (position_at g) (asked_among g es)
    → positions (element_at g e ∷ rest) ≡ map (position_at g) (elim b [ true ↦ asked_among g es | false ↦ e ∷ asked_among g es ])
unfolding element_at position_at
position_next g e es rest true h k = position_of g (field_a g e) e rest true h ∙ k
position_next g e es rest false h k = position_of g (field_a g e) e rest false h ∙ ap (λ (l : List Position). position_numbered (field_a g e) (field_b g e) ∷ l) k

positions_among : (g es : List ℕ) → positions (map (element_at g) es) ≡ map (position_at g) (asked_among g es)
unfolding asked_among positions
positions_among g [] = refl
positions_among g (e ∷ es) = position_next g e es (map (element_at g) es) (eqb (field_a g e) 0) refl (positions_among g es)

pub positions_are : (g : List ℕ) (q : ℕ) → positions (elements g q) ≡ map (position_at g) (asked_of g q)
unfolding elements asked_of
positions_are g q = positions_among g (element_heads g q)

pub positions_count : (g : List ℕ) (q : ℕ) → length (positions (elements g q)) ≡ length (asked_of g q)
positions_count g q = ap length (positions_are g q) ∙ length_map (position_at g) (asked_of g q)

-- the row of a production that was found by its number
pub asked_row : {g hs asked : List ℕ} → BuildAsks g hs asked → (k q : ℕ) → nth hs k ≡ some q → AskedRow g asked q
asked_row B k q h = B.filled.rows k q (rw B.productions_are at h)

-- an element by its number a: a repetition with a separator or without, a keyword, a form that there isn't
repetition_numbered : (a b : ℕ) → 3 ≤ a → a < 5 → Repetition b ≡ position_numbered a b
unfolding position_numbered
repetition_numbered zero b h k = absurd (omega arith)
repetition_numbered (suc zero) b h k = absurd (omega arith)
repetition_numbered (suc (suc zero)) b h k = absurd (omega arith)
repetition_numbered (suc (suc (suc zero))) b h k = refl
repetition_numbered (suc (suc (suc (suc zero)))) b h k = refl
repetition_numbered (suc (suc (suc (suc (suc a))))) b h k = absurd (omega arith)

nothing_numbered : (a n b : ℕ) → a ≡ suc (suc (suc (suc (suc n)))) → Nothing ≡ position_numbered a b
unfolding position_numbered
nothing_numbered a n b h = sym (rw h)

module _ (g : List ℕ) (e : ℕ) (r : Record) (f : Fetched g e r) where
  pub repetition_at : 1 ≤ r.a → (r.a ≡ 1 → ⊥) → (r.a ≡ 2 → ⊥) → r.a < 5 → Repetition r.b ≡ position_at g e
  unfolding position_at
  repetition_at s h k l = rw (← f.a, ← f.b) (repetition_numbered r.a r.b (omega arith) l)

  pub keyword_at : r.a < 1 → Nothing ≡ position_at g e
  unfolding position_at position_numbered
  keyword_at l = let z : r.a ≡ 0 = omega arith in sym (rw (← f.a, z))

  pub unknown_at : 5 ≤ r.a → Nothing ≡ position_at g e
  unfolding position_at
  unknown_at l = rw (← f.a) (nothing_numbered r.a (r.a - 5) (field_b g e) (omega arith))
