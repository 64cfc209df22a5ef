-- Laws of types by number and of paths. Assumes nothing.
use Prim.Native.Nat.{ℕ, zero, suc, ◌+◌, ◌≤◌, ◌<◌}
use mathlib.Core.Path.{◌≡◌, refl, sym, ap, ◌∙◌}
use mathlib.Core.List.{List}
use mathlib.Core.Bool.{false}
use mathlib.Core.Option.{Option, none, some}
use native.Mathlib.Omega.{arith}
use lib.ListN.{length, drop}
use Rattle.std.specs.Prelude.{Option as Maybe, Some, None, option_copied}
use Rattle.std.specs.Borrow.{Bor}
use Rattle.std.specs.Slice.{IsItemAt}
use Rattle.rules.specs.Faults.{on_found}
use Rattle.rules.specs.Blocks.{stream_length}
use Rattle.rules.specs.Records.{field_a, field_b, nth}
use Rattle.rules.specs.Templates.{no_type, types, type, type_numbered, type_at, type_of, variable}
use Rattle.rules.specs.Typing.{text_class, is_yes_no, item_type, field_types, case_types, type_along, path_type}
use Rattle.laws.specs.Faults.{on_some, on_none}
use Rattle.laws.specs.Lists.{nth_some, nth_none}
use Rattle.laws.specs.Rows.{row_some, row_none}
use Rattle.stream.specs.Record.{Fetched}
use Rattle.stream.specs.declared.record.Record.{Record}
use Rattle.records.specs.Paths.{steps_in, StepIn}
use Rattle.records.proofs.PathLaws.{steps_are, steps_done, steps_more}
use Rattle.typing.specs.Answers.{found, kind_form}
use Rattle.typing.specs.declared.Kind.{Kind}
use Rattle.typing.specs.declared.Kind.TheVariants.{Text, YesNo, Items, Fields, Cases, Missing}

-- an entry of a table, as it was lent

pub entry_lent : (xs : List ℕ) (i : ℕ) (r : Maybe (Bor ℕ)) → IsItemAt xs i r → found (option_copied r) ≡ nth xs i
entry_lent xs i None h = sym (nth_none xs i h.3)
entry_lent xs i (Some x) h = ap some (h.4 (omega arith) 0) ∙ sym (nth_some xs i h.3.0)

pub lent_there : (xs : List ℕ) (i : ℕ) (r : Maybe (Bor ℕ)) {q : Maybe ℕ} {n : ℕ} → IsItemAt xs i r → q ≡ option_copied r → q ≡ Some n → nth xs i ≡ some n
lent_there xs i r h e k = sym (entry_lent xs i r h) ∙ ap found (sym e ∙ k)

pub lent_missing : (xs : List ℕ) (i : ℕ) (r : Maybe (Bor ℕ)) {q : Maybe ℕ} → IsItemAt xs i r → q ≡ option_copied r → q ≡ None → nth xs i ≡ none
lent_missing xs i r h e k = sym (entry_lent xs i r h) ∙ ap found (sym e ∙ k)

-- types

pub no_form : (t : List ℕ) (a p : ℕ) → (a ≡ 0 → ⊥) → (a ≡ 1 → ⊥) → (a ≡ 2 → ⊥) → (a ≡ 3 → ⊥) → (a ≡ 4 → ⊥) → no_type ≡ type_numbered t a p
unfolding type_numbered
no_form t zero p h0 h1 h2 h3 h4 = absurd (h0 refl)
no_form t (suc zero) p h0 h1 h2 h3 h4 = absurd (h1 refl)
no_form t (suc (suc zero)) p h0 h1 h2 h3 h4 = absurd (h2 refl)
no_form t (suc (suc (suc zero))) p h0 h1 h2 h3 h4 = absurd (h3 refl)
no_form t (suc (suc (suc (suc zero)))) p h0 h1 h2 h3 h4 = absurd (h4 refl)
no_form t (suc (suc (suc (suc (suc a))))) p h0 h1 h2 h3 h4 = refl

module _ (t tys : List ℕ) (n : ℕ) (he : tys ≡ types t) where
  pub type_missing : nth tys n ≡ none → no_type ≡ type_of t n
  unfolding type_of type
  type_missing h = sym (on_none no_type (type_at t) (rw (← he) h))

  pub type_found : (p : ℕ) → nth tys n ≡ some p → type_at t p ≡ type_of t n
  unfolding type_of type
  type_found p h = sym (on_some no_type (type_at t) (rw (← he) h))

-- a kind that is not the one that is looked for

pub no_text : (t : List ℕ) (K : Kind) → ((c : ℕ) → K ≡ Text c → ⊥) → text_class (kind_form t K) ≡ none
unfolding text_class
no_text t (Text c) h = absurd (h c refl)
no_text t YesNo h = refl
no_text t (Items ty) h = refl
no_text t (Fields p d) h = refl
no_text t (Cases p d) h = refl
no_text t Missing h = refl

pub no_yes_no : (t : List ℕ) (K : Kind) → (K ≡ YesNo → ⊥) → is_yes_no (kind_form t K) ≡ false
unfolding is_yes_no
no_yes_no t (Text c) h = refl
no_yes_no t YesNo h = absurd (h refl)
no_yes_no t (Items ty) h = refl
no_yes_no t (Fields p d) h = refl
no_yes_no t (Cases p d) h = refl
no_yes_no t Missing h = refl

pub no_items : (t : List ℕ) (K : Kind) → ((ty : ℕ) → K ≡ Items ty → ⊥) → item_type (kind_form t K) ≡ none
unfolding item_type
no_items t (Text c) h = refl
no_items t YesNo h = refl
no_items t (Items ty) h = absurd (h ty refl)
no_items t (Fields p d) h = refl
no_items t (Cases p d) h = refl
no_items t Missing h = refl

pub no_fields : (t : List ℕ) (K : Kind) → ((p d : ℕ) → K ≡ Fields p d → ⊥) → field_types (kind_form t K) ≡ none
unfolding field_types
no_fields t (Text c) h = refl
no_fields t YesNo h = refl
no_fields t (Items ty) h = refl
no_fields t (Fields p d) h = absurd (h p d refl)
no_fields t (Cases p d) h = refl
no_fields t Missing h = refl

pub no_cases : (t : List ℕ) (K : Kind) → ((p d : ℕ) → K ≡ Cases p d → ⊥) → case_types (kind_form t K) ≡ none
unfolding case_types
no_cases t (Text c) h = refl
no_cases t YesNo h = refl
no_cases t (Items ty) h = refl
no_cases t (Fields p d) h = refl
no_cases t (Cases p d) h = absurd (h p d refl)
no_cases t Missing h = refl

module _ (t : List ℕ) (n p d j : ℕ) (is : type_of t n ≡ kind_form t (Fields p d)) where
  pub field_some : j < d → (b : ℕ) → b ≡ field_b t (p + 1 + j) → some b ≡ on_found (field_types (type_of t n)) none (λ tys. nth tys j)
  unfolding field_types on_found
  field_some h b e = sym (rw is (row_some (field_b t) d (p + 1) j h ∙ ap some (sym e)))

  pub field_none : d ≤ j → none ≡ on_found (field_types (type_of t n)) none (λ tys. nth tys j)
  unfolding field_types on_found
  field_none h = sym (rw is (row_none (field_b t) d (p + 1) j h))

-- following a path: what is left after i of the n steps that its record holds

on_on : (F : Option (List ℕ)) (j : ℕ) (k : ℕ → Option ℕ) {o : Option ℕ} → on_found F none (λ tys. nth tys j) ≡ o
    → on_found F none (λ tys. on_found (nth tys j) none k) ≡ on_found o none k
unfolding on_found
on_on none j k e = rw (← e)
on_on (some tys) j k e = rw e

module _ (t : List ℕ) (r : Record) (n : ℕ) (e : n ≡ length (steps_in r)) (ty i : ℕ) where
  pub path_done : n ≤ i → type_along t (drop i (steps_in r)) ty ≡ some ty
  unfolding type_along
  path_done h = rw (steps_done r n i e h)

  module _ (more : i < n) (j : ℕ) (k : StepIn r i j) where
    path_more : (o : Option ℕ) → on_found (field_types (type_of t ty)) none (λ tys. nth tys j) ≡ o
        → type_along t (drop i (steps_in r)) ty ≡ on_found o none (type_along t (drop (i + 1) (steps_in r)))
    unfolding type_along
    path_more o g = rw (steps_more r n i j e more k) (on_on _ j _ g)

    pub path_go : (next : ℕ) → on_found (field_types (type_of t ty)) none (λ tys. nth tys j) ≡ some next
        → type_along t (drop i (steps_in r)) ty ≡ type_along t (drop (i + 1) (steps_in r)) next
    unfolding on_found
    path_go next g = path_more (some next) g

    pub path_stop : on_found (field_types (type_of t ty)) none (λ tys. nth tys j) ≡ none → type_along t (drop i (steps_in r)) ty ≡ none
    unfolding on_found
    path_stop g = path_more none g

module _ (t vars : List ℕ) (p : ℕ) (r : Record) (f : Fetched t p r) (k : ℕ) (is : k ≡ r.a) where
  variable_is : variable t p ≡ k
  unfolding variable field_a
  variable_is = sym (is ∙ f.a)

  pub path_missing : nth vars k ≡ none → none ≡ path_type t vars p
  unfolding path_type
  path_missing h = sym (on_none none _ (rw variable_is h))

  pub path_starts : stream_length t ≡ none → (ty : ℕ) → nth vars k ≡ some ty → type_along t (steps_in r) ty ≡ path_type t vars p
  unfolding path_type
  path_starts s ty h = rw (steps_are t p r f s) (sym (on_some none _ (rw variable_is h)))
