-- Two grammars in which the rules read the same classes, productions, elements and lexemes: they derive the same texts, and of one set and value the rules
-- of naming and typing, the walk and the evaluation rules say the same by both.
-- (Goes on in proofs/ReadAlike.antt.)
use Rattle.std.specs.Prelude.{◌≡◌}
use Rattle.std.proofs.Math.Path.{refl}
use Prim.Native.Nat.{ℕ}
use mathlib.Core.List.{List}
use Rattle.std.proofs.Math.Option.{Option, none, some}
use Rattle.rules.specs.Faults.{on_found}
use Rattle.rules.specs.Records.{kind_of, field_b}
use Rattle.rules.specs.Grammar.{class, production, elements, nonterminal_exists}
use Rattle.rules.specs.Lexeme.{is_plain_lexeme}

pub record ReadAlike (g g' : List ℕ) : Type 0 where
  pub same_class : (n : ℕ) → class g n ≡ class g' n
  pub same_kind : (n p : ℕ) → class g n ≡ some p → kind_of g p ≡ kind_of g' p
  pub same_named : (n p : ℕ) → class g n ≡ some p → field_b g p ≡ field_b g' p
  pub same_production : (n : ℕ) → production g n ≡ production g' n
  pub same_existence : (n : ℕ) → nonterminal_exists g n ≡ nonterminal_exists g' n
  pub same_nonterminal : (n p : ℕ) → production g n ≡ some p → field_b g p ≡ field_b g' p
  pub same_elements : (n p : ℕ) → production g n ≡ some p → elements g p ≡ elements g' p
  pub same_lexemes : (c : ℕ) (x : List ℕ) → is_plain_lexeme g c x ≡ is_plain_lexeme g' c x

-- what follows from something found is the same where it is the same for each that is found
pub found_same : {A B : Type 0} (o o' : Option A) (b : B) (f f' : A → B) → o ≡ o' → ((a : A) → o ≡ some a → f a ≡ f' a) → on_found o b f ≡ on_found o' b f'
unfolding on_found
found_same none o' b f f' e h = rw (← e)
found_same (some a) o' b f f' e h = rw (← e) (h a refl)
