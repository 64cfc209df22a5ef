-- Refusal 13 against the derivation, 02 h: "A nonterminal with no finite derivation is to be refused". The rounds of `Finite` find exactly the nonterminals
-- that derive a text, by the very derivation of `Derivation`.
-- (Goes on in proofs/FiniteExactly.antt.)
use Rattle.std.specs.Prelude.{ℕ}
use mathlib.Core.List.{List}
use Rattle.rules.specs.Derivation.{Derives}

-- "finite derivation": there is a text that the nonterminal derives. (A derivation is a tree of data, and so a finite one.)
abbrev pub DerivesSome : List ℕ → ℕ → Type 0
DerivesSome g n = (x : List ℕ) × Derives g n x
