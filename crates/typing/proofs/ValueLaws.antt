-- Laws of a value and of what stands below it, in step with the code. Assumes nothing.
use Prim.Native.Nat.{ℕ, zero, suc, ◌+◌, ◌-◌, ◌*◌, ◌≤◌, ◌<◌}
use mathlib.Core.Path.{◌≡◌, refl, sym, ap, ◌∙◌}
use mathlib.Core.List.{List, [], ◌∷◌, map}
use mathlib.Core.Bool.{Bool, true, false, false≢true}
use mathlib.Core.Option.{Option, none, some}
use native.Mathlib.Omega.{arith}
use native.Mathlib.Nat.{add-zero}
use lib.ListN.{length}
use lib.Dec.{eqb, ltb}
use borrow.Author.Tests.{eq-eqb, ne_eqb, eqb-true, eqb-false, ltb-true, ltb-false}
use Rattle.std.specs.Prelude.{Result, Ok, Err}
use Rattle.rules.specs.Faults.{every, on_found, only_if, exists, at}
use Rattle.rules.specs.Records.{kind_of, field_a, field_b, field_d, text_of, heads, row, nth}
use Rattle.rules.specs.Lexeme.{is_plain_lexeme}
use Rattle.rules.specs.Templates.{text, yes_no, list, fields, cases, no_type, type_of}
use Rattle.rules.specs.Value.{value_size, children, content, as_text, as_yes_no, as_list, as_record, as_case}
use Rattle.rules.specs.Limits.{deepest}
use Rattle.rules.specs.Typing.{Typed, typed, has_form, has_type, paired, typed_of, typed_below, mistyped, declared_type, value_typing}
use Rattle.laws.specs.Faults.{every_one, every_next, every_stop, every_end, if_exists, on_some, on_none, at_none, at_some, tree_deep, tree_wrong, tree_right}
use Rattle.laws.specs.Lists.{length_map}
use Rattle.laws.specs.Rows.{length_heads, row_some, row_none}
use Rattle.stream.specs.Fault.{fault_of}
use Rattle.stream.specs.Record.{Fetched}
use Rattle.stream.specs.Text.{text_in, Begins}
use Rattle.stream.proofs.BlockLaws.{found, unfound}
use Rattle.stream.specs.declared.record.Record.{Record}
use Rattle.stream.specs.declared.text.Text.{Text as StreamText}
use Rattle.records.specs.Sizes.{ValueSize}
use Rattle.lexeme.specs.declared.Source.TheVariants.{Plain}
use Rattle.lexeme.specs.Sources.{admitted}
use Rattle.lexeme.proofs.SourceLaws.{admitted_plain}
use Rattle.typing.specs.Answers.{kind_form, child_count, kind_below, child_type, row_of, typed_in}
use Rattle.typing.specs.declared.Kind.{Kind}
use Rattle.typing.specs.declared.Kind.TheVariants.{Text, YesNo, Items, Fields, Cases, Missing}
use Rattle.typing.proofs.RowLaws.{map_row, turns_start, turns_done, turns_more}

-- the value's own test, by the kind of its type

pub missing_is : (g v : List ℕ) (w : ℕ) → false ≡ has_form g v no_type w
unfolding has_form
missing_is g v w = refl

module _ (g v : List ℕ) (w : ℕ) (r : Record) (f : Fetched v w r) where
  text_is : (c : ℕ) → r.kind ≡ 1 → is_plain_lexeme g c (text_of v (field_b v w) w) ≡ has_form g v (text c) w
  unfolding has_form as_text on_found only_if
  text_is c h = sym (rw (eq-eqb _ _ (sym f.kind ∙ h)))

  -- the same of the text as it was read, which comes from a plain class
  pub text_read : (c : ℕ) (x : StreamText) {n : ℕ} → Begins v (text_of v r.b w) n x → r.kind ≡ 1
      → admitted g (Plain c) (text_in v x) ≡ has_form g v (text c) w
  text_read c x b h = admitted_plain g c (text_in v x) ∙ ap (is_plain_lexeme g c) (b.text ∙ ap (λ (n : ℕ). text_of v n w) f.b) ∙ text_is c h

  pub text_other : (c : ℕ) → (r.kind ≡ 1 → ⊥) → false ≡ has_form g v (text c) w
  unfolding has_form as_text on_found only_if
  text_other c h = sym (rw (ne_eqb _ _ (λ e. h (f.kind ∙ e))))

  pub yes_no_is : eqb r.kind 2 ≡ has_form g v yes_no w
  unfolding has_form as_yes_no
  yes_no_is = rw f.kind (sym (if_exists _ _))

  pub items_is : (ty : ℕ) → eqb r.kind 3 ≡ has_form g v (list ty) w
  unfolding has_form as_list
  items_is ty = rw f.kind (sym (if_exists _ _))

  pub fields_is : (t : List ℕ) (h n : ℕ) → r.kind ≡ 4 → eqb r.d n ≡ has_form g v (kind_form t (Fields h n)) w
  unfolding has_form as_record on_found only_if children row
  fields_is t h n e = sym (rw (eq-eqb _ _ (sym f.kind ∙ e), length_heads, length_map, length_heads, ← f.d))

  pub fields_other : (t : List ℕ) (h n : ℕ) → (r.kind ≡ 4 → ⊥) → false ≡ has_form g v (kind_form t (Fields h n)) w
  unfolding has_form as_record on_found only_if
  fields_other t h n e = sym (rw (ne_eqb _ _ (λ k. e (f.kind ∙ k))))

  cases_there : (t : List ℕ) (h n a : ℕ) → exists (nth (map (field_b t) (row n (h + 1))) a) ≡ ltb a n
  unfolding exists
  cases_there t h n a = go (ltb a n) refl
    where
      go : (b : Bool) → ltb a n ≡ b → exists (nth (map (field_b t) (row n (h + 1))) a) ≡ b
      go true e = rw (row_some (field_b t) n (h + 1) a (ltb-true a n e))
      go false e = rw (row_none (field_b t) n (h + 1) a (ltb-false a n e))

  pub cases_is : (t : List ℕ) (h n : ℕ) → r.kind ≡ 5 → ltb r.a n ≡ has_form g v (kind_form t (Cases h n)) w
  unfolding has_form as_case on_found only_if
  cases_is t h n e = sym (rw (eq-eqb _ _ (sym f.kind ∙ e), ← f.a) (cases_there t h n r.a))

  pub cases_other : (t : List ℕ) (h n : ℕ) → (r.kind ≡ 5 → ⊥) → false ≡ has_form g v (kind_form t (Cases h n)) w
  unfolding has_form as_case on_found only_if
  cases_other t h n e = sym (rw (ne_eqb _ _ (λ k. e (f.kind ∙ k))))

-- what stands below a value

items_from : (t v : List ℕ) (ty n i p : ℕ) → map (typed ty) (heads (value_size v) n p) ≡ row_of (typed_in t (Items ty)) (value_size v) n i p
unfolding typed_in child_type
items_from t v ty n i p = map_row _ _ _ (λ j q. refl) n i p

fields_from : (t v : List ℕ) (h m n i p : ℕ) → paired (map (field_b t) (row n (h + 1 + i))) (heads (value_size v) n p) ≡ row_of (typed_in t (Fields h m)) (value_size v) n i p
unfolding paired row heads row_of typed_in child_type
fields_from t v h m zero i p = refl
fields_from t v h m (suc n) i p =
    let e : h + 1 + i + 1 ≡ h + 1 + (i + 1) = omega arith in
    ap (λ (l : List Typed). typed (field_b t (h + 1 + i)) p ∷ l) (rw e (fields_from t v h m n (i + 1) (p + value_size v p)))

-- by the kinds of the values that have nothing of the sort below them

pub no_children : (K : Kind) (d : ℕ) → ((ty : ℕ) → K ≡ Items ty → ⊥) → ((p n : ℕ) → K ≡ Fields p n → ⊥) → ((p n : ℕ) → K ≡ Cases p n → ⊥) → 0 ≡ child_count K d
unfolding child_count
no_children (Text c) d h k l = refl
no_children YesNo d h k l = refl
no_children (Items ty) d h k l = absurd (h ty refl)
no_children (Fields p n) d h k l = absurd (k p n refl)
no_children (Cases p n) d h k l = absurd (l p n refl)
no_children Missing d h k l = refl

pub same_below : (t : List ℕ) (K : Kind) (a : ℕ) → ((p n : ℕ) → K ≡ Cases p n → ⊥) → K ≡ kind_below t K a
unfolding kind_below
same_below t (Text c) a h = refl
same_below t YesNo a h = refl
same_below t (Items ty) a h = refl
same_below t (Fields p n) a h = refl
same_below t (Cases p n) a h = absurd (h p n refl)
same_below t Missing a h = refl

pub no_child_type : (t : List ℕ) (K : Kind) (i : ℕ) → ((ty : ℕ) → K ≡ Items ty → ⊥) → ((p n : ℕ) → K ≡ Fields p n → ⊥) → 0 ≡ child_type t K i
unfolding child_type
no_child_type t (Text c) i h k = refl
no_child_type t YesNo i h k = refl
no_child_type t (Items ty) i h k = absurd (h ty refl)
no_child_type t (Fields p n) i h k = absurd (k p n refl)
no_child_type t (Cases p n) i h k = refl
no_child_type t Missing i h k = refl

-- a value that has its kind's form has these below it

fields_count : (t v : List ℕ) (h n w : ℕ) → length (children v w) ≡ length (map (field_b t) (row n (h + 1))) → field_d v w ≡ n
unfolding children row
fields_count t v h n w e = sym (length_heads (value_size v) (field_d v w) (w + 1)) ∙ e ∙ length_map (field_b t) (heads (λ q. 1) n (h + 1)) ∙ length_heads (λ q. 1) n (h + 1)

list_below : (g v : List ℕ) (w ty : ℕ) → has_form g v (list ty) w ≡ true → map (typed ty) (children v w) ≡ typed_of v (list ty) w
unfolding has_form typed_of as_list on_found only_if
list_below g v w ty e = let k : eqb (kind_of v w) 3 ≡ true = sym (if_exists _ _) ∙ e in sym (rw k)

record_below : (g v : List ℕ) (w : ℕ) (tys : List ℕ) (b : Bool) → eqb (kind_of v w) 4 ≡ b → has_form g v (fields tys) w ≡ true
    → (length (children v w) ≡ length tys) × (paired tys (children v w) ≡ typed_of v (fields tys) w)
unfolding has_form typed_of as_record on_found only_if
record_below g v w tys true k e = (eqb-true _ _ (rw k at e), sym (rw k))
record_below g v w tys false k e = let z : false ≡ true = rw k at e in (cc, cc)

-- the one child of a case, which is as an item of its case's type
case_below : (t v : List ℕ) (h n w a : ℕ) → kind_of v w ≡ 5 → a ≡ field_a v w → a < n
    → typed (field_b t (h + 1 + a)) (w + 1) ∷ [] ≡ typed_of v (cases (map (field_b t) (row n (h + 1)))) w
unfolding typed_of as_case content on_found only_if
case_below t v h n w a k e l = sym (rw (k, ← e, row_some (field_b t) n (h + 1) a l))

pub below_are : (g t v : List ℕ) (w : ℕ) (r : Record) → Fetched v w r → (K : Kind) → has_form g v (kind_form t K) w ≡ true
    → row_of (typed_in t (kind_below t K r.a)) (value_size v) (child_count K r.d) 0 (w + 1) ≡ typed_of v (kind_form t K) w
unfolding child_count kind_below row_of typed_in child_type typed_of children
below_are g t v w r f (Text c) e = refl
below_are g t v w r f YesNo e = refl
below_are g t v w r f (Items ty) e = sym (items_from t v ty r.d 0 (w + 1)) ∙ rw f.d (list_below g v w ty e)
below_are g t v w r f (Fields h n) e =
    let k = record_below g v w (map (field_b t) (row n (h + 1))) (eqb (kind_of v w) 4) refl e in
    let d : r.d ≡ n = f.d ∙ fields_count t v h n w k.0 in
    sym (fields_from t v h n r.d 0 (w + 1))
    ∙ ap (λ (m : ℕ). paired (map (field_b t) (row m (h + 1 + 0))) (heads (value_size v) r.d (w + 1))) d
    ∙ ap (λ (m : ℕ). paired (map (field_b t) (row n (h + 1 + 0))) (heads (value_size v) m (w + 1))) f.d
    ∙ rw (add-zero (h + 1)) k.1
below_are g t v w r f (Cases h n) e = go (eqb r.kind 5) refl
  where
    go : (b : Bool) → eqb r.kind 5 ≡ b → typed (field_b t (h + 1 + r.a)) (w + 1) ∷ [] ≡ typed_of v (cases (map (field_b t) (row n (h + 1)))) w
    go true k =
        let z : r.kind ≡ 5 = eqb-true _ _ k in
        case_below t v h n w r.a (sym f.kind ∙ z) f.a (ltb-true _ _ (cases_is g v w r f t h n z ∙ e))
    go false k = absurd (false≢true (cases_other g v w r f t h n (eqb-false _ _ k) ∙ e))
below_are g t v w r f Missing e = refl

-- a row of values, turn by turn: what is left after i of n. The next of them is child i of a value of kind K

abbrev mistyped_row : List ℕ → List ℕ → List ℕ → ℕ → Kind → ℕ → ℕ → ℕ → Option Typed
mistyped_row g t v left K n i p = every (mistyped g t v left) (row_of (typed_in t K) (value_size v) n i p)

pub record ValueTurn (g t v : List ℕ) (left : ℕ) (K : Kind) (first n next i : ℕ) : Type 0 where
  pub here : next ≤ first + i * 65535
  pub rest : mistyped_row g t v left K (n - i) i next ≡ mistyped_row g t v left K n 0 first

pub turn_start : (g t v : List ℕ) (left : ℕ) (K : Kind) (first n : ℕ) → ValueTurn g t v left K first n first 0
turn_start g t v left K first n = record { here = omega arith; rest = turns_start _ _ (every (mistyped g t v left)) n first }

module _ {g t v : List ℕ} {left : ℕ} {K : Kind} {first n next i : ℕ} (T : ValueTurn g t v left K first n next i) where
  pub turn_end : n ≤ i → none ≡ at (λ x. x.value) (mistyped_row g t v left K n 0 first)
  unfolding at
  turn_end h = ap (at (λ x. x.value)) (every_end _ T.rest (turns_done _ _ _ _ _ h))

  module _ (more : i < n) where
    turn_stop : (x : Typed) → mistyped g t v left (typed_in t K i next) ≡ some x → some x.value ≡ at (λ x. x.value) (mistyped_row g t v left K n 0 first)
    unfolding at
    turn_stop x e = ap (at (λ x. x.value)) (every_stop _ T.rest (turns_more _ _ _ _ _ more _ refl) e)

    turn_next : mistyped g t v left (typed_in t K i next) ≡ none → {r : Record} → Fetched v next r → {c : ℕ} → ValueSize r c → ValueTurn g t v left K first n (next + c) (i + 1)
    turn_next e f s = record {
      here = omega (arith, T.here, s.small);
      rest = every_next _ T.rest (turns_more _ _ _ _ _ more _ (s.is v next f)) e;
    }

    pub turn_deep : left ≡ 0 → some next ≡ at (λ x. x.value) (mistyped_row g t v left K n 0 first)
    unfolding mistyped typed_in typed
    turn_deep h = turn_stop (typed_in t K i next) (tree_deep (has_type g t v) (typed_below t v) left (typed_in t K i next) h)

    module _ (deep : left ≡ 0 → ⊥) {ty : ℕ} (is : ty ≡ child_type t K i) (L : Kind) (kind : kind_form t L ≡ type_of t ty) {b : Bool} (own : b ≡ has_form g v (kind_form t L) next) where
      has_type_lem : has_type g t v (typed_in t K i next) ≡ b
      unfolding has_type typed_in typed
      has_type_lem = rw (← is, ← kind) (sym own)

      pub turn_own : b ≡ false → some next ≡ at (λ x. x.value) (mistyped_row g t v left K n 0 first)
      unfolding mistyped typed_in typed
      turn_own h = turn_stop (typed_in t K i next) (tree_wrong (has_type g t v) (typed_below t v) left (typed_in t K i next) (omega (arith, deep)) (has_type_lem ∙ h))

      module _ (right : b ≡ true) {r : Record} (f : Fetched v next r) {m : ℕ} (count : m ≡ child_count L r.d) where
        value_below : mistyped g t v left (typed_in t K i next) ≡ mistyped_row g t v (left - 1) (kind_below t L r.a) m 0 (next + 1)
        unfolding mistyped typed_below typed_in typed
        value_below =
            tree_right (has_type g t v) (typed_below t v) left (typed_in t K i next) (omega (arith, deep)) (has_type_lem ∙ right)
            ∙ rw (← is, ← kind, count) (ap (every (mistyped g t v (left - 1))) (sym (below_are g t v next r f L (sym own ∙ right))))

        pub turn_leaf : m ≡ 0 → {c : ℕ} → ValueSize r c → ValueTurn g t v left K first n (next + c) (i + 1)
        unfolding row_of every
        turn_leaf z s = turn_next (value_below ∙ rw z) f s

        -- by what the check of the row below has answered
        module _ {M : Kind} (below : M ≡ kind_below t L r.a) (one : Result Unit ℕ)
            (says : fault_of one ≡ at (λ x. x.value) (mistyped_row g t v (left - 1) M m 0 (next + 1))) where
          says_so : fault_of one ≡ at (λ x. x.value) (mistyped_row g t v (left - 1) (kind_below t L r.a) m 0 (next + 1))
          says_so = says ∙ rw below

          pub turn_right : {u : Unit} → one ≡ Ok u → {c : ℕ} → ValueSize r c → ValueTurn g t v left K first n (next + c) (i + 1)
          turn_right h s = turn_next (value_below ∙ (at_none _ _).0 (unfound _ _ _ says_so h)) f s

          pub turn_wrong : {q : ℕ} → one ≡ Err q → some q ≡ at (λ x. x.value) (mistyped_row g t v left K n 0 first)
          turn_wrong h =
              let x = at_some _ _ _ (found _ _ _ says_so h) in
              ap some (sym x.2) ∙ turn_stop x.0 (value_below ∙ x.1)

-- the whole value

pub undeclared : (g t v : List ℕ) → declared_type t ≡ none → some 0 ≡ value_typing g t v
unfolding value_typing
undeclared g t v h = sym (on_none (some 0) _ h)

pub declared : (g t v : List ℕ) (ty : ℕ) → declared_type t ≡ some ty
    → at (λ x. x.value) (every (mistyped g t v 200) (row_of (typed_in t (Items ty)) (value_size v) 1 0 0)) ≡ value_typing g t v
unfolding value_typing deepest row_of typed_in child_type
declared g t v ty h = ap (at (λ x. x.value)) (every_one (mistyped g t v 200) (typed ty 0)) ∙ sym (on_some (some 0) _ h)
