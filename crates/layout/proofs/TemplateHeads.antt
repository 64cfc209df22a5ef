-- The records of templates, by the tests of the code: rows of one kind, heads of nodes.
use Prim.Native.Nat.{ℕ, ◌+◌, ◌-◌, ◌%◌, ◌≤◌, ◌<◌}
use mathlib.Core.Path.{◌≡◌, refl, ap, sym, ◌∙◌}
use mathlib.Core.List.{List, append-nil}
use mathlib.Core.Bool.{Bool, true, false, ◌&&◌}
use mathlib.Core.Option.{Option, none}
use native.Mathlib.Omega.{arith}
use native.Mathlib.Nat.{add_assoc}
use borrow.Author.Tests.{eq-eqb, ne_eqb}
use lib.ListN.{drop}
use lib.Dec.{eqb, leb}
use Rattle.rules.specs.Faults.{on_found, only_if}
use Rattle.rules.specs.Records.{byte_of, kind_of, field_b, field_d, records_from, zeros}
use Rattle.rules.specs.Templates.{form_numbered}
use Rattle.rules.specs.Layout.{then_read, in_row, naming_end, path_end}
use Rattle.rules.specs.declared.Form.{Form}
use Rattle.rules.specs.declared.Form.TheVariants.{Build, Literal, Place, Expand, If, For, Sequence, Match, Unknown}
use Rattle.stream.specs.declared.record.Record.{Record}
use Rattle.stream.specs.declared.record.Place as place
use Rattle.stream.specs.Record.{bytes_of, Fetched, place_of}
use Rattle.layout.specs.declared.tree.Head.{Head}
use Rattle.std.specs.Prelude.{Some, None}
use Rattle.std.specs.Prelude as code
use Rattle.layout.specs.Tree.{Node, text_head, path_head, bare_path_head, form_head, form_below, head_end, below, Headed, CountsOn, HeadIn}
use Rattle.layout.specs.Template.{naming, path_record}
use Rattle.layout.proofs.CommonLaws.{record_bytes, fetched_zeros}
use Rattle.laws.specs.Reads.{in_row_go, in_row_broken}
use Rattle.stream.proofs.RecordLaws.{eight_bytes}
use Rattle.records.proofs.NodeLaws.{form_is}
use Rattle.layout.proofs.GrammarLaws.{row_end}
use Rattle.layout.proofs.TreeTurns.{wrong, right, as_head}

-- One record of a kind

module _ (t : List ℕ) (p : ℕ) (r : Record) (f : Fetched t p r) where
  path_zeros : zeros (drop (3 + r.b % 256) (bytes_of r)) ≡ zeros (drop (3 + byte_of t p 2) (records_from t 1 p))
  unfolding records_from record_bytes
  path_zeros =
      ap (λ (j : ℕ). zeros (drop (3 + j) (bytes_of r))) (sym (eight_bytes t p r f).byte2)
      ∙ fetched_zeros t p r f (3 + byte_of t p 2)
      ∙ ap (λ (xs : List ℕ). zeros (drop (3 + byte_of t p 2) xs)) (sym (append-nil (record_bytes t p)))

  path_is : path_record r ≡ eqb (kind_of t p) 6 && (leb (byte_of t p 2) 5 && zeros (drop (3 + byte_of t p 2) (records_from t 1 p)))
  unfolding path_record
  path_is = rw (path_zeros, f.kind, sym (eight_bytes t p r f).byte2)

  pub a_path : (z : Bool) → z ≡ path_record r → only_if z (p + 1) ≡ path_end t p
  unfolding path_end
  a_path z e = ap (λ (b : Bool). only_if b (p + 1)) (e ∙ path_is)

  pub a_naming : (kind : ℕ) (z : Bool) → z ≡ naming r kind → only_if z (p + 1) ≡ naming_end t kind p
  unfolding naming naming_end
  a_naming kind z e = rw (e, f.kind, f.a, f.c, f.d)

-- Rows: k of n records are passed

module _ (one : ℕ → Option ℕ) (n k p : ℕ) (l : k < n) (z : Bool) (e : only_if z (p + k + 1) ≡ one (p + k)) where
  pub record_wrong : z ≡ false → only_if false (p + n) ≡ in_row one (n - k) (p + k)
  unfolding only_if
  record_wrong w = sym (in_row_broken one n k (p + k) l (sym e ∙ rw w))

  pub record_right : z ≡ true → in_row one (n - (k + 1)) (p + (k + 1)) ≡ in_row one (n - k) (p + k)
  unfolding only_if
  record_right w = rw (← add_assoc p k 1) (sym (in_row_go one n k (p + k) (p + k + 1) l (sym e ∙ rw w)))

pub records_done : (one : ℕ → Option ℕ) (n k p : ℕ) → k ≤ n → n ≤ k → only_if true (p + n) ≡ in_row one (n - k) (p + k)
unfolding only_if
records_done one n k p l m = sym (row_end one n k p l m)

pub place_next : (at : place.Place) (p k : ℕ) → at ≡ place_of (p + k + 1) → at ≡ place_of (p + (k + 1))
place_next at p k e = e ∙ ap place_of (add_assoc p k 1)

-- places that heads are read from
pub room_near : {s : List ℕ} {at : place.Place} {r : Record} {n : ℕ} → HeadIn s at r n → CountsOn s at 65536
room_near a = record { sized = a.sized; index = a.within.index; place_is = a.within.place_is; near = omega (arith, a.within.near) }

-- Heads of nodes

-- a head that a path follows
module _ (t : List ℕ) (p : ℕ) (r : Record) (f : Fetched t p r) (n : ℕ) where
  pub path_b : (r.b ≡ 0 → ⊥) → Headed p None (path_head t p) n
  unfolding path_head then_read on_found only_if
  path_b b = wrong p _ n (rw (ne_eqb (field_b t p) 0 (λ e. b (f.b ∙ e))))

  module _ (b : r.b ≡ 0) (z : Bool) (e : only_if z (p + 1 + 1) ≡ path_end t (p + 1)) where
    head_is : path_head t p ≡ only_if z (p + 1 + 1)
    unfolding path_head then_read on_found only_if
    head_is = rw (eq-eqb (field_b t p) 0 (sym f.b ∙ b)) (sym e)

    pub path_right : z ≡ true → Headed p (Some (record { own = 2; below = n })) (path_head t p) n
    unfolding only_if
    path_right w = right p _ 2 n n (head_is ∙ rw (w, add_assoc p 1 1)) refl

    pub path_wrong : z ≡ false → Headed p None (path_head t p) n
    unfolding only_if
    path_wrong w = wrong p _ n (head_is ∙ rw w)

  -- one that counts nothing
  pub bare_path : r.d ≡ 0 → (h : code.Option Head) → Headed p h (path_head t p) n → Headed p h (bare_path_head t p) n
  unfolding path_head bare_path_head
  bare_path d h is = as_head (ap (λ (b : Bool). then_read (only_if b (p + 1)) (path_end t)) (rw (eq-eqb (field_d t p) 0 (sym f.d ∙ d)) (and_yes (eqb (field_b t p) 0)))) refl is
    where
      and_yes : (b : Bool) → b && true ≡ b
      and_yes true = refl
      and_yes false = refl

  pub bare_d : (r.d ≡ 0 → ⊥) → Headed p None (bare_path_head t p) n
  unfolding bare_path_head then_read on_found only_if
  bare_d d = wrong p _ n (rw (ne_eqb (field_d t p) 0 (λ e. d (f.d ∙ e))) (and_none (eqb (field_b t p) 0)))
    where
      and_none : (b : Bool) → then_read (only_if (b && false) (p + 1)) (path_end t) ≡ none
      and_none true = refl
      and_none false = refl

-- a head and its d paths
module _ (t : List ℕ) (p d : ℕ) (e : d ≡ field_d t p) (z : Bool) (h : only_if z (p + 1 + d) ≡ in_row (path_end t) d (p + 1)) where
  row_is : in_row (path_end t) (field_d t p) (p + 1) ≡ only_if z (p + 1 + d)
  row_is = rw (← e) (sym h)

  pub expand_right : z ≡ true → Headed p (Some (record { own = (1 + d); below = 0 })) (in_row (path_end t) (field_d t p) (p + 1)) 0
  unfolding only_if
  expand_right w = right p _ (1 + d) 0 0 (row_is ∙ rw (w, add_assoc p 1 d)) refl

  pub expand_wrong : z ≡ false → Headed p None (in_row (path_end t) (field_d t p) (p + 1)) 0
  unfolding only_if
  expand_wrong w = wrong p _ 0 (row_is ∙ rw w)

-- a node by its form, as form_of answers it
module _ (t : List ℕ) (p : ℕ) (r : Record) (f : Fetched t p r) where
  pub no_node : (r.kind ≡ 5 → ⊥) → Headed p None (head_end Node t p) (below Node t p)
  unfolding head_end then_read on_found only_if
  no_node k = wrong p _ _ (rw (ne_eqb (kind_of t p) 5 (λ e. k (f.kind ∙ e))))

  module _ (k : r.kind ≡ 5) {form : Form} (is-form : form ≡ form_numbered r.a) where
    end_at_lem : head_end Node t p ≡ form_head t form p
    unfolding head_end then_read on_found only_if
    end_at_lem = rw (eq-eqb (kind_of t p) 5 (sym f.kind ∙ k), ← form_is t p r f form is-form)

    below_at_lem : below Node t p ≡ form_below t form p
    unfolding below
    below_at_lem = rw (← form_is t p r f form is-form)

    -- the head as its form has it
    as_form : (other : Form) → form ≡ other → {h : code.Option Head} → Headed p h (form_head t other p) (form_below t other p) → Headed p h (head_end Node t p) (below Node t p)
    as_form other e is = as_head (end_at_lem ∙ ap (λ (x : Form). form_head t x p) e) (below_at_lem ∙ ap (λ (x : Form). form_below t x p) e) is

    pub a_build : form ≡ Build → Headed p (Some (record { own = 1; below = r.d })) (head_end Node t p) (below Node t p)
    unfolding form_head form_below
    a_build e = as_form Build e (right p _ 1 r.d _ refl f.d)

    pub a_literal : form ≡ Literal → r.d ≡ 0 → (h : code.Option Head) → Headed p h (text_head t p) 0 → Headed p h (head_end Node t p) (below Node t p)
    unfolding form_head form_below then_read on_found only_if
    a_literal e d h is = as_form Literal e (as_head (rw (eq-eqb (field_d t p) 0 (sym f.d ∙ d))) refl is)

    pub not_literal : form ≡ Literal → (r.d ≡ 0 → ⊥) → Headed p None (head_end Node t p) (below Node t p)
    unfolding form_head then_read on_found only_if
    not_literal e d = as_form Literal e (wrong p _ _ (rw (ne_eqb (field_d t p) 0 (λ e. d (f.d ∙ e)))))

    pub a_place : form ≡ Place → (h : code.Option Head) → Headed p h (bare_path_head t p) 0 → Headed p h (head_end Node t p) (below Node t p)
    unfolding form_head form_below
    a_place e h is = as_form Place e is

    pub an_expand : form ≡ Expand → (h : code.Option Head) → Headed p h (in_row (path_end t) (field_d t p) (p + 1)) 0 → Headed p h (head_end Node t p) (below Node t p)
    unfolding form_head form_below
    an_expand e h is = as_form Expand e is

    pub an_if : form ≡ If → (h : code.Option Head) → Headed p h (bare_path_head t p) 2 → Headed p h (head_end Node t p) (below Node t p)
    unfolding form_head form_below
    an_if e h is = as_form If e is

    pub a_for : form ≡ For → (h : code.Option Head) → Headed p h (bare_path_head t p) 1 → Headed p h (head_end Node t p) (below Node t p)
    unfolding form_head form_below
    a_for e h is = as_form For e is

    pub a_sequence : form ≡ Sequence → r.b ≡ 0 → Headed p (Some (record { own = 1; below = r.d })) (head_end Node t p) (below Node t p)
    unfolding form_head form_below only_if
    a_sequence e b = as_form Sequence e (right p _ 1 r.d _ (rw (eq-eqb (field_b t p) 0 (sym f.b ∙ b))) f.d)

    pub not_sequence : form ≡ Sequence → (r.b ≡ 0 → ⊥) → Headed p None (head_end Node t p) (below Node t p)
    unfolding form_head only_if
    not_sequence e b = as_form Sequence e (wrong p _ _ (rw (ne_eqb (field_b t p) 0 (λ e. b (f.b ∙ e)))))

    pub a_match : form ≡ Match → (h : code.Option Head) → Headed p h (path_head t p) r.d → Headed p h (head_end Node t p) (below Node t p)
    unfolding form_head form_below
    a_match e h is = as_form Match e (as_head refl (sym f.d) is)

    pub unknown : form ≡ Unknown → Headed p None (head_end Node t p) (below Node t p)
    unfolding form_head
    unknown e = as_form Unknown e (wrong p _ _ refl)
