-- By a class's number: what it takes its lexemes from, and which text is one.
use Prim.Native.Nat.{ℕ, ◌≤◌, ◌<◌}
use mathlib.Core.Path.{◌≡◌, refl, ap, sym, ◌∙◌}
use mathlib.Core.List.{List}
use mathlib.Core.Bool.{Bool, false, true≢false, false≢true}
use mathlib.Core.Option.{Option, none, some}
use lib.ListN.{length, get_or}
use borrow.Author.Tests.{ne_eqb}
use Rattle.rules.specs.Faults.{on_found, exists}
use Rattle.rules.specs.Records.{kind_of, field_b}
use Rattle.rules.specs.Grammar.{classes, class, escaped_class, plain_of}
use Rattle.rules.specs.Escape.{unescaped}
use Rattle.rules.specs.Lexeme.{is_plain_lexeme, is_lexeme}
use Rattle.laws.specs.Faults.{on_some, on_none, only_no}
use Rattle.laws.specs.Lists.{nth_none}
use Rattle.laws.specs.Sorts.{escaped_class_iff}
use Rattle.lexeme.specs.declared.Source.{Source}
use Rattle.lexeme.specs.declared.Source.TheVariants.{Plain, Escaped}
use Rattle.lexeme.specs.Sets.{LexemesReady}
use Rattle.lexeme.specs.Sources.{ClassesLent, SourceOf, plain_in, admitted}
use Rattle.lexeme.proofs.ScanLaws.{plain_none}
use Rattle.lexeme.proofs.LexemeLaws.{found}

unfound : (g list : List ℕ) (n : ℕ) → list ≡ classes g → length list ≤ n → class g n ≡ none
unfolding class
unfound g list n e l = rw (← e) (nth_none list n l)

-- what is lent to test a lexeme has the heads of the classes
pub lent : (g list table : List ℕ) → LexemesReady g list table → ClassesLent g list
lent g list table r = record { grammar_sized = r.grammar_sized; heads = r.heads }

-- An escaped class, by its record; any other; a class that there isn't
from_escaped : (g : List ℕ) (c p b : ℕ) → escaped_class g c ≡ some p → b ≡ field_b g p → SourceOf g c (Escaped b)
unfolding plain_of exists
from_escaped g c p b e f = record { plain = f ∙ sym (on_some c _ e); escaped = sym (ap exists e) }

from_itself : (g : List ℕ) (c : ℕ) → escaped_class g c ≡ none → SourceOf g c (Plain c)
unfolding plain_of exists
from_itself g c e = record { plain = sym (on_none c _ e); escaped = sym (ap exists e) }

module _ (g list : List ℕ) (c : ℕ) (r : ClassesLent g list) where
  module _ (l : c < length list) (p : ℕ) (e : p ≡ get_or list c 0) where
    here : class g c ≡ some p
    here = found g list c r.heads l ∙ ap some (sym e)

    pub source_escaped : (b : ℕ) → b ≡ field_b g p → kind_of g p ≡ 5 → SourceOf g c (Escaped b)
    source_escaped b f k = from_escaped g c p b ((escaped_class_iff g c p).1 (here, k)) f

    pub source_plain : (kind_of g p ≡ 5 → ⊥) → SourceOf g c (Plain c)
    unfolding escaped_class
    source_plain k = from_itself g c (on_some none _ here ∙ only_no _ _ (ne_eqb _ 5 k))

  pub source_none : length list ≤ c → SourceOf g c (Plain c)
  unfolding escaped_class
  source_none l = from_itself g c (on_none none _ (unfound g list c r.heads l))

-- which text a plain class admits
pub admitted_plain : (g : List ℕ) (n : ℕ) (text : List ℕ) → admitted g (Plain n) text ≡ is_plain_lexeme g n text
unfolding admitted
admitted_plain g n text = refl

on_nothing : {A : Type 0} (o : Option A) (f : A → Bool) → ((a : A) → f a ≡ false) → on_found o false f ≡ false
unfolding on_found
on_nothing none f h = refl
on_nothing (some a) f h = h a

-- a class that there isn't has no lexemes; one that there is has those of its record
module _ (g list table text : List ℕ) (q : LexemesReady g list table) (r : Source) (n : ℕ) (e : n ≡ plain_in r) where
  pub admits_none : length list ≤ n → false ≡ admitted g r text
  unfolding admitted
  admits_none l = sym (go r (rw e at l))
    where
      go : (o : Source) → length list ≤ plain_in o → admitted g o text ≡ false
      go (Plain m) k = plain_none g m text (unfound g list m q.heads k)
      go (Escaped m) k = on_nothing _ _ (λ x. plain_none g m x (unfound g list m q.heads k))

  module _ (l : n < length list) (p : ℕ) (k : p ≡ get_or list n 0) (m : ℕ) (b : Bool) where
    there : class g n ≡ some p
    there = found g list n q.heads l ∙ ap some (sym k)

    pub admits_plain : r ≡ Plain m → ((c : ℕ) → class g c ≡ some p → b ≡ is_plain_lexeme g c text) → b ≡ admitted g r text
    unfolding admitted
    admits_plain f h = let j : n ≡ m = e ∙ ap plain_in f in rw (f, ← j) (h n there)

    pub admits_escaped : r ≡ Escaped m → ((c : ℕ) → class g c ≡ some p → b ≡ on_found (unescaped text) false (is_plain_lexeme g c)) → b ≡ admitted g r text
    unfolding admitted
    admits_escaped f h = let j : n ≡ m = e ∙ ap plain_in f in rw (f, ← j) (h n there)

-- a lexeme of a class is what the class's source admits
pub source_admits : (g : List ℕ) (c : ℕ) (r : Source) (text : List ℕ) → SourceOf g c r → admitted g r text ≡ is_lexeme g c text
unfolding is_lexeme plain_of exists admitted
source_admits g c (Plain n) text h = go (escaped_class g c) refl
  where
    go : (o : Option ℕ) → escaped_class g c ≡ o → is_plain_lexeme g n text ≡ on_found (escaped_class g c) (is_plain_lexeme g c text) λ p. on_found (unescaped text) false (is_plain_lexeme g (field_b g p))
    go none e = ap (λ (m : ℕ). is_plain_lexeme g m text) (h.plain ∙ on_none c _ e) ∙ sym (on_none (is_plain_lexeme g c text) _ e)
    go (some p) e = absurd (false≢true (h.escaped ∙ ap exists e))
source_admits g c (Escaped n) text h = go (escaped_class g c) refl
  where
    go : (o : Option ℕ) → escaped_class g c ≡ o
        → on_found (unescaped text) false (is_plain_lexeme g n) ≡ on_found (escaped_class g c) (is_plain_lexeme g c text) λ p. on_found (unescaped text) false (is_plain_lexeme g (field_b g p))
    go none e = absurd (true≢false (h.escaped ∙ ap exists e))
    go (some p) e = ap (λ (m : ℕ). on_found (unescaped text) false (is_plain_lexeme g m)) (h.plain ∙ on_some c _ e) ∙ sym (on_some (is_plain_lexeme g c text) _ e)
