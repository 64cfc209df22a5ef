-- Laws of variables, fields and paths, in step with the code. Assumes nothing.
use Prim.Native.Nat.{ℕ, ◌+◌, ◌≤◌, ◌<◌}
use mathlib.Core.Path.{◌≡◌, sym, ap, ◌∙◌}
use mathlib.Core.List.{List, [], ◌∷◌, ◌++◌}
use mathlib.Core.Option.{Option, none, some, none-ne-some, some-injective}
use native.Mathlib.Omega.{arith}
use lib.ListN.{length, get_or, drop}
use borrow.Author.Tests.{eq-eqb, ne_eqb, le-leb}
use Rattle.rules.specs.Faults.{on_found}
use Rattle.rules.specs.Blocks.{stream_length}
use Rattle.rules.specs.Records.{kind_of, field_a, field_d, nth}
use Rattle.rules.specs.Templates.{variable}
use Rattle.rules.specs.Value.{value_size, children, values_below, as_record, content}
use Rattle.rules.specs.Walk.{value_along, path_value}
use Rattle.laws.specs.Faults.{on_some, on_none, only_yes, only_no}
use Rattle.laws.specs.Lists.{nth_some, nth_none, nth_more}
use Rattle.laws.specs.Rows.{length_heads}
use Rattle.stream.specs.Record.{Fetched}
use Rattle.stream.specs.declared.record.Record.{Record}
use Rattle.records.specs.Paths.{steps_in, StepIn}
use Rattle.records.specs.Children.{Stands, below, ChildAt, Children}
use Rattle.records.proofs.PathLaws.{steps_are, steps_done, steps_more}
use Rattle.std.specs.declared.option.Option as answer
use Rattle.std.specs.Prelude.{Some, None, option_copied}
use Rattle.std.specs.Slice.{IsItemAt}
use denote.Ref.{Bor}
use native.Mathlib.Nat.{le_refl}
use Rattle.walk.specs.Lookups.{lookup_of, Finds}
use Rattle.walk.specs.Frames.{Held}

-- what an answer says: of an entry of a list, and of a value that was found

pub entry_is : (xs : List ℕ) (i : ℕ) (r : answer.Option (Bor ℕ)) (o : answer.Option ℕ) → IsItemAt xs i r → o ≡ option_copied r → lookup_of o ≡ nth xs i
entry_is xs i None o h e = rw e (sym (nth_none xs i h.3))
entry_is xs i (Some x) o h e = rw e (ap some (h.4 (le_refl i) 0) ∙ sym (nth_some xs i h.3.0))

pub value_stands : {v : List ℕ} {o : Option ℕ} {w : ℕ} → Finds v o (Some w) → Stands v w
value_stands f = f.stands _ (sym f.is)

pub finds_nothing : {v : List ℕ} {o : Option ℕ} → o ≡ none → Finds v o None
finds_nothing e = record { is = sym e; stands = λ w h. absurd (none-ne-some w (sym e ∙ h)) }

pub finds_value : {v : List ℕ} (w : ℕ) {o : Option ℕ} → o ≡ some w → Stands v w → Finds v o (Some w)
finds_value w e l = record { is = sym e; stands = λ x h. let z : w ≡ x = some-injective w x (sym e ∙ h) in rw z at l }

-- variables

pub held_none : (v : List ℕ) → Held v []
unfolding nth
held_none v = record { each = λ k w e. absurd (none-ne-some w e) }

pub held_more : (v env : List ℕ) (w : ℕ) → Held v env → Stands v w → Held v (env ++ w ∷ [])
held_more v env w h l = record { each = λ k x e. nth_more env w k x e (Stands v) h.each l }

-- the children of a list or a record, by the table

module _ (v firsts places : List ℕ) (table : Children v firsts places) (w : ℕ) (value : Stands v w) (parent : (3 ≤ kind_of v w) × (kind_of v w ≤ 4)) (j : ℕ) (more : j < field_d v w) where
  nth_child : nth (values_below v w) j ≡ some (get_or (children v w) j 0)
  unfolding values_below children
  nth_child = rw (ne_eqb (kind_of v w) 5 (λ e. omega (arith, parent.1)), le-leb 3 (kind_of v w) parent.0) (nth_some (children v w) j (rw (length_heads (value_size v) (field_d v w) (w + 1)) more))

  pub child_there : ChildAt firsts places w j (get_or (children v w) j 0)
  child_there = table.each w j (get_or (children v w) j 0) value nth_child

  pub child_stands : Stands v (get_or (children v w) j 0)
  child_stands = below w j (get_or (children v w) j 0) value nth_child

-- the content of a case, by the table

module _ (v firsts places : List ℕ) (table : Children v firsts places) (w : ℕ) (value : Stands v w) (case : kind_of v w ≡ 5) where
  nth_content : nth (values_below v w) 0 ≡ some (content w)
  unfolding values_below nth
  nth_content = rw case

  pub content_there : ChildAt firsts places w 0 (content w)
  content_there = table.each w 0 (content w) value nth_content

  pub content_stands : Stands v (content w)
  content_stands = below w 0 (content w) value nth_content

-- the fields of a record

module _ (v : List ℕ) (w j k d : ℕ) (hk : k ≡ kind_of v w) (hd : d ≡ field_d v w) where
  pub field_other : (k ≡ 4 → ⊥) → on_found (as_record v w) none (λ ws. nth ws j) ≡ none
  unfolding as_record
  field_other h = on_none none _ (only_no _ _ (ne_eqb _ _ (λ e. h (hk ∙ e))))

  module _ (h : k ≡ 4) where
    field_in : on_found (as_record v w) none (λ ws. nth ws j) ≡ nth (children v w) j
    unfolding as_record
    field_in = on_some none _ (only_yes _ _ (eq-eqb _ _ (sym hk ∙ h)))

    count_is : length (children v w) ≡ d
    unfolding children
    count_is = length_heads (value_size v) (field_d v w) (w + 1) ∙ sym hd

    pub field_past : d ≤ j → on_found (as_record v w) none (λ ws. nth ws j) ≡ none
    field_past l = field_in ∙ nth_none (children v w) j (omega (arith, count_is))

    module _ (more : j < d) (firsts places : List ℕ) (table : Children v firsts places) (value : Stands v w) where
      parent : (3 ≤ kind_of v w) × (kind_of v w ≤ 4)
      parent = (omega arith, omega arith)

      inside : j < field_d v w
      inside = omega arith

      pub field_there : (w < length firsts) × (get_or firsts w 0 + j < length places)
      field_there = let c = child_there v firsts places table w value parent j inside in (c.head, c.entry)

      pub field_found : (c : ℕ) → c ≡ get_or places (get_or firsts w 0 + j) 0 → Finds v (on_found (as_record v w) none (λ ws. nth ws j)) (Some c)
      field_found c e =
          let is : c ≡ get_or (children v w) j 0 = e ∙ (child_there v firsts places table w value parent j inside).is in
          finds_value c
          (field_in ∙ nth_some (children v w) j (omega (arith, count_is)) ∙ ap some (sym is))
          (rw is (child_stands v firsts places table w value parent j inside))

-- following the steps of a path: what is left after i of them leads from w where the whole path does

pub record InSteps (t v env : List ℕ) (p : ℕ) (path : Record) (w i : ℕ) : Type 0 where
  pub same : value_along v (drop i (steps_in path)) w ≡ path_value t v env p
  pub stands : Stands v w

module _ {t : List ℕ} (v env : List ℕ) {p : ℕ} {path : Record} (f : Fetched t p path) (k : ℕ) (is : k ≡ path.a) where
  pub path_missing : nth env k ≡ none → Finds v (path_value t v env p) None
  unfolding path_value variable field_a
  path_missing h = finds_nothing (on_none none _ (rw (← f.a, ← is) h))

  pub steps_start : stream_length t ≡ none → Held v env → (w : ℕ) → nth env k ≡ some w → InSteps t v env p path w 0
  unfolding path_value variable field_a
  steps_start s held w h = record {
    same = ap (λ (js : List ℕ). value_along v js w) (steps_are t p path f s) ∙ sym (on_some none _ (rw (← f.a, ← is) h));
    stands = held.each k w h;
  }

on_on : (F : Option (List ℕ)) (j : ℕ) (k : ℕ → Option ℕ) {o : Option ℕ} → on_found F none (λ ws. nth ws j) ≡ o
    → on_found F none (λ ws. on_found (nth ws j) none k) ≡ on_found o none k
unfolding on_found
on_on none j k e = rw (← e)
on_on (some ws) j k e = rw e

module _ {t v env : List ℕ} {p : ℕ} {path : Record} {w i : ℕ} (inv : InSteps t v env p path w i) (n : ℕ) (e : n ≡ length (steps_in path)) where
  pub steps_end : n ≤ i → Finds v (path_value t v env p) (Some w)
  unfolding value_along
  steps_end h = finds_value w (sym inv.same ∙ rw (steps_done path n i e h)) inv.stands

  module _ (more : i < n) (j : ℕ) (step : StepIn path i j) where
    along : (o : Option ℕ) → on_found (as_record v w) none (λ ws. nth ws j) ≡ o → on_found o none (value_along v (drop (i + 1) (steps_in path))) ≡ path_value t v env p
    unfolding value_along
    along o h = sym (rw (steps_more path n i j e more step) (on_on _ j _ h)) ∙ inv.same

    pub steps_stop : on_found (as_record v w) none (λ ws. nth ws j) ≡ none → Finds v (path_value t v env p) None
    unfolding on_found
    steps_stop h = finds_nothing (sym (along none h))

    pub steps_next : (next : ℕ) → on_found (as_record v w) none (λ ws. nth ws j) ≡ some next → Stands v next → InSteps t v env p path next (i + 1)
    unfolding on_found
    steps_next next h l = record { same = along (some next) h; stands = l }
