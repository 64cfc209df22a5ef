-- What a visited node is handed: of an element's record, and what no visit asks for. Assumes nothing.
use Prim.Native.Nat.{ℕ, zero, suc}
use mathlib.Core.Path.{◌≡◌, refl}
use mathlib.Core.List.{List}
use mathlib.Core.Bool.{Bool, true, false, cond, true≢false, false≢true}
use mathlib.Core.Option.{Option, none, some}
use native.Mathlib.Omega.{arith}
use lib.Dec.{eqb}
use borrow.Author.Tests.{ne_eqb}
use Rattle.rules.specs.Faults.{on_found}
use Rattle.rules.specs.Records.{field_a, field_b, field_c, text_of}
use Rattle.rules.specs.Grammar.{nonterminal, text_length, element_numbered, element_at}
use Rattle.rules.specs.Templates.{form_of}
use Rattle.rules.specs.Walk.{Input, State, End, stuck, Asked, piece, filled_by, written_for, visit_form, reached, visit}
use Rattle.rules.specs.declared.Form.{Form}
use Rattle.rules.specs.declared.Form.TheVariants.{Build, Literal, Place, Expand, If, For, Sequence, Match, Unknown}
use Rattle.stream.specs.Record.{Fetched}
use Rattle.stream.specs.declared.record.Record.{Record}
use Rattle.records.specs.Sizes.{repeats}
use Rattle.walk.specs.declared.at.At.{At}
use Rattle.walk.specs.declared.separator.Separator.{Separator}
use Rattle.walk.specs.Nodes.{element_for, filled_at, fills_at, Between}

-- no visit asks for the number of a nonterminal
found_same : {A : Type 0} (o : Option A) (next next' : A → End) → ((a : A) → next a ≡ next' a) → on_found o stuck next ≡ on_found o stuck next'
unfolding on_found
found_same none next next' h = refl
found_same (some a) next next' h = h a

reached_same : (b : Bool) (p : ℕ) (next next' : State → End) (s : State) → ((s : State) → next s ≡ next' s) → reached b p next s ≡ reached b p next' s
unfolding reached
reached_same true p next next' s h = h _
reached_same false p next next' s h = refl

module _ (i : Input) (n m : ℕ) where
  form_any : (form : Form) (self : Asked → ℕ → List ℕ → State → End) → ((p : ℕ) (env : List ℕ) (s : State) → self (piece (nonterminal n)) p env s ≡ self (piece (nonterminal m)) p env s)
      → (p : ℕ) (env : List ℕ) (s : State) → visit_form i form self (piece (nonterminal n)) p env s ≡ visit_form i form self (piece (nonterminal m)) p env s
  unfolding visit_form filled_by written_for
  form_any Build self h p env s = refl
  form_any Literal self h p env s = refl
  form_any Place self h p env s = refl
  form_any Expand self h p env s = refl
  form_any If self h p env s = found_same _ _ _ (λ w. found_same _ _ _ (λ yes?. h _ env s))
  form_any For self h p env s = refl
  form_any Sequence self h p env s = refl
  form_any Match self h p env s = found_same _ _ _ (λ w. found_same _ _ _ (λ c. found_same _ _ _ (λ arm. h arm _ s)))
  form_any Unknown self h p env s = refl

  pub visit_any : (k p : ℕ) (env : List ℕ) (s : State) → visit i k (piece (nonterminal n)) p env s ≡ visit i k (piece (nonterminal m)) p env s
  unfolding visit
  visit_any zero p env s = refl
  visit_any (suc k) p env s = reached_same _ p _ _ s (form_any (form_of i.templates p) (visit i k) (visit_any k) p env)

-- what the position of an element asks for
pub element_there : (g : List ℕ) (e : ℕ) → (e ≡ 0 → ⊥) → element_for g e ≡ element_at g e
unfolding element_for
element_there g e h = rw (ne_eqb e 0 h)

-- a sequence fills a repetition, or its position asks for none

module _ (g : List ℕ) (p e : ℕ) where
  number_no : (a : ℕ) → repeats a ≡ false → filled_by p (piece (element_numbered g a e)) ≡ none
  unfolding filled_by element_numbered repeats
  number_no zero h = refl
  number_no (suc zero) h = refl
  number_no (suc (suc zero)) h = refl
  number_no (suc (suc (suc zero))) h = absurd (true≢false h)
  number_no (suc (suc (suc (suc zero)))) h = absurd (true≢false h)
  number_no (suc (suc (suc (suc (suc a))))) h = refl

  number_yes : (a : ℕ) → repeats a ≡ true
      → filled_by p (piece (element_numbered g a e))
      ≡ some (record { sequence = p; nonterminal = field_b g e; separator = text_of g (cond (eqb a 0) (field_b g e) (cond (eqb a 4) (field_c g e) 0)) e })
  unfolding filled_by element_numbered text_of repeats
  number_yes zero h = absurd (false≢true h)
  number_yes (suc zero) h = absurd (false≢true h)
  number_yes (suc (suc zero)) h = absurd (false≢true h)
  number_yes (suc (suc (suc zero))) h = refl
  number_yes (suc (suc (suc (suc zero)))) h = refl
  number_yes (suc (suc (suc (suc (suc a))))) h = absurd (false≢true (rw (ne_eqb (suc (suc (suc (suc (suc a))))) 3 (λ e. omega arith), ne_eqb (suc (suc (suc (suc (suc a))))) 4 (λ e. omega arith)) at h))

module _ (g : List ℕ) (at : At) {r : Record} (f : Fetched g at.element r) where
  pub fills_no : fills_at at.element r ≡ false → filled_by at.node (piece (element_for g at.element)) ≡ none
  unfolding fills_at element_for element_at filled_by
  fills_no = go (eqb at.element 0)
    where
      go : (b : Bool) → cond b false (repeats r.a) ≡ false
          → filled_by at.node (piece (cond b (nonterminal 0) (element_numbered g (field_a g at.element) at.element))) ≡ none
      go true h = refl
      go false h = number_no g at.node at.element _ (rw f.a at h)

  pub fills_yes : (x : Separator) → Between at r x → fills_at at.element r ≡ true → filled_by at.node (piece (element_for g at.element)) ≡ some (filled_at g x)
  unfolding fills_at element_for element_at filled_at text_length
  fills_yes x between = rw (between.sequence, between.element, between.length.is g at.element f) (go (eqb at.element 0))
    where
      go : (b : Bool) → cond b false (repeats r.a) ≡ true
          → filled_by at.node (piece (cond b (nonterminal 0) (element_numbered g (field_a g at.element) at.element)))
          ≡ some (record { sequence = at.node; nonterminal = field_b g at.element; separator = text_of g (text_length g at.element) at.element })
      go true h = absurd (false≢true h)
      go false h = number_yes g at.node at.element _ (rw f.a at h)
