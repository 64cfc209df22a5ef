-- What is promised of 02 h, "Grammars that can't finish": which nonterminals derive no text.
-- (Goes on in proofs/Finishing.antt.)
use Rattle.std.specs.Prelude.{◌≡◌, List, true}
use Prim.Native.Nat.{ℕ}
use Rattle.rules.specs.Records.{field_b}
use Rattle.rules.specs.Grammar.{Element, lexeme, nonterminal, unknown, productions}
use Rattle.rules.specs.Lexeme.{is_lexeme}
use Rattle.rules.specs.Derivation.{Derives}
use Rattle.laws.specs.Faults.{In}

-- 13, 02 h: "A nonterminal with no finite derivation is to be refused"; "place the first production of the first such nonterminal by record". The production
-- at p is of a nonterminal that derives no text:
pub record Underivable (g : List ℕ) (p : ℕ) : Type 0 where
  pub a_production : In p (productions g)
  pub derives_nothing : (x : List ℕ) → Derives g (field_b g p) x → ⊥

-- An element that can't be derived: of a class with no lexeme, or of a nonterminal among some that are not (or of no form, which refusal 3 meets)
pub data Waits (g : List ℕ) (Among : ℕ → Type 0) : Element → Type 0 where
  for_a_lexeme : (c : ℕ) → ((x : List ℕ) → is_lexeme g c x ≡ true → ⊥) → Waits g Among (lexeme c)
  for_one_of_them : (n : ℕ) → Among n → Waits g Among (nonterminal n)
  of_no_form : Waits g Among unknown

abbrev pub SomeWaits : List ℕ → (ℕ → Type 0) → List Element → Type 0
SomeWaits g Among es = (e : Element) × In e es × Waits g Among e

abbrev pub DerivesNothing : List ℕ → ℕ → Type 0
DerivesNothing g n = (x : List ℕ) → Derives g n x → ⊥
