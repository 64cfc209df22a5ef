-- What a position does not ask for. Assumes nothing.
use Prim.Native.Nat.{ℕ}
use mathlib.Core.Path.{◌≡◌, refl}
use mathlib.Core.Option.{none}
use Rattle.rules.specs.Typing.{asks_class, asks_nonterminal, asks_repetition, asks_item}
use Rattle.rules.specs.declared.Position.{Position}
use Rattle.rules.specs.declared.Position.TheVariants.{Class, Nonterminal, Repetition, Item, Nothing}

pub no_class : (p : Position) → ((n : ℕ) → p ≡ Class n → ⊥) → none ≡ asks_class p
unfolding asks_class
no_class (Class n) h = absurd (h n refl)
no_class (Nonterminal n) h = refl
no_class (Repetition n) h = refl
no_class (Item n) h = refl
no_class Nothing h = refl

pub no_nonterminal : (p : Position) → ((n : ℕ) → p ≡ Nonterminal n → ⊥) → ((n : ℕ) → p ≡ Item n → ⊥) → none ≡ asks_nonterminal p
unfolding asks_nonterminal
no_nonterminal (Class n) h k = refl
no_nonterminal (Nonterminal n) h k = absurd (h n refl)
no_nonterminal (Repetition n) h k = refl
no_nonterminal (Item n) h k = absurd (k n refl)
no_nonterminal Nothing h k = refl

pub no_repetition : (p : Position) → ((n : ℕ) → p ≡ Repetition n → ⊥) → none ≡ asks_repetition p
unfolding asks_repetition
no_repetition (Class n) h = refl
no_repetition (Nonterminal n) h = refl
no_repetition (Repetition n) h = absurd (h n refl)
no_repetition (Item n) h = refl
no_repetition Nothing h = refl

pub no_item : (p : Position) → ((n : ℕ) → p ≡ Item n → ⊥) → none ≡ asks_item p
unfolding asks_item
no_item (Class n) h = refl
no_item (Nonterminal n) h = refl
no_item (Repetition n) h = refl
no_item (Item n) h = absurd (h n refl)
no_item Nothing h = refl
