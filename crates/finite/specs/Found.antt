-- What the search for refusal 13 is lent, and what its parts promise. The nonterminals that are found so far to derive a text are a set of bits.
use Rattle.std.specs.Prelude.{ℕ, ◌-◌, ◌≤◌, ◌<◌, ◌≡◌, List, map, Bool, true, false, cond, length, get_or}
use Rattle.std.proofs.Math.Option.{Option, none, some}
use Rattle.rules.specs.Faults.{need, every}
use Rattle.rules.specs.Records.{field_b, heads}
use Rattle.rules.specs.Grammar.{class, classes, productions, element_size, element_at, elements}
use Rattle.rules.specs.Names.{grammar_names}
use Rattle.rules.specs.Finite.{has_lexeme, all_derivable, is_one_of, finite}
use Rattle.stream.specs.declared.record.Record.{Record}
use Rattle.stream.specs.Record.{Fetched}
use Rattle.limits.specs.Bits.{is_marked}
use Rattle.laws.specs.Faults.{In}
use Rattle.theorems.specs.Rounds.{Within}

-- a grammar that 5 let through, and its classes; and its productions
pub record ClassesAsk (g cs : List ℕ) : Type 0 where
  pub classes_are : cs ≡ classes g
  pub few_classes : length cs ≤ 256
  pub named : grammar_names g ≡ none

pub record FiniteAsks (g cs ps : List ℕ) : Type 0 where
  pub of_classes : ClassesAsk g cs
  pub productions_are : ps ≡ productions g

-- it is noted of each class whether it has a lexeme
unfoldable pub is_noted : List Bool → ℕ → Bool
is_noted lexemes c = get_or lexemes c false

pub record Noted (g : List ℕ) (lexemes : List Bool) : Type 0 where
  pub exactly : (c : ℕ) → is_noted lexemes c ≡ has_lexeme g c

-- that is so of the first n classes, and nothing is noted of those behind them
pub record NotedTo (g : List ℕ) (n : ℕ) (lexemes : List Bool) : Type 0 where
  pub places : length lexemes ≡ 256
  pub so_far : (c : ℕ) → c < n → is_noted lexemes c ≡ has_lexeme g c
  pub not_yet : (c : ℕ) → n ≤ c → is_noted lexemes c ≡ false

-- class n at p, with what is noted of the classes before it
pub record ClassAsks (g : List ℕ) (n p : ℕ) (lexemes : List Bool) : Type 0 where
  pub a_class : class g n ≡ some p
  pub named : grammar_names g ≡ none
  pub noted : NotedTo g n lexemes

-- what is noted of the classes of a grammar, and the element at e of it
pub record ElementAsks (g : List ℕ) (lexemes : List Bool) (e : ℕ) (element : Record) : Type 0 where
  pub noted : Noted g lexemes
  pub fetched : Fetched g e element

-- all of so many elements from the one at first on derive a text, by what is found
unfoldable pub row_derivable : List ℕ → List ℕ → ℕ → ℕ → Bool
row_derivable g found count first = all_derivable g (is_marked found) (map (element_at g) (heads (element_size g) count first))

-- what is found derives a text
pub record Sound (g found : List ℕ) : Type 0 where
  pub words : length found ≡ 1024
  pub derives : Within (is_marked found) (is_one_of (finite g))

-- what a part of the search is lent: the production at p, or all of them, and what is found so far
pub record TryAsks (g : List ℕ) (lexemes : List Bool) (p : ℕ) (found : List ℕ) : Type 0 where
  pub noted : Noted g lexemes
  pub a_production : In p (productions g)
  pub sound : Sound g found

pub record SearchAsks (g : List ℕ) (lexemes : List Bool) (ps found : List ℕ) : Type 0 where
  pub noted : Noted g lexemes
  pub productions_are : ps ≡ productions g
  pub sound : Sound g found

-- more is found, or the same
pub record Grown (g found found' : List ℕ) : Type 0 where
  pub sound : Sound g found'
  pub more : Within (is_marked found) (is_marked found')

-- the production at p was tried; the answer is no only if nothing more is found
pub record Tried (g : List ℕ) (p : ℕ) (found found' : List ℕ) (r : Bool) : Type 0 where
  pub grown : Grown g found found'
  pub tried : all_derivable g (is_marked found) (elements g p) ≡ true → is_marked found' (field_b g p) ≡ true
  pub same : r ≡ false → found' ≡ found

-- all were tried; the answer is no only if nothing more is found
pub record Rounded (g found found' : List ℕ) (r : Bool) : Type 0 where
  pub sound : Sound g found'
  pub tried : (p : ℕ) → In p (productions g) → all_derivable g (is_marked found) (elements g p) ≡ true → is_marked found' (field_b g p) ≡ true
  pub same : r ≡ false → found' ≡ found

-- all that derive a text are found, and no other
pub record AllFound (g found : List ℕ) : Type 0 where
  pub sound : Sound g found
  pub all : Within (is_one_of (finite g)) (is_marked found)

-- the first production whose nonterminal isn't found
unfoldable pub unfound : List ℕ → List ℕ → Option ℕ
unfound g found = every (λ p. need (is_marked found (field_b g p)) p) (productions g)

-- the production to try in a turn, of so many: from the last to the first, or the other way round
unfoldable pub turned : ℕ → Bool → ℕ → ℕ
turned count back turn = cond back (count - 1 - turn) turn
