-- Nodes and values are such trees: their heads go forward, and the recursion of crate rules is the one of TreeLaws.
use Prim.Native.Nat.{ℕ, zero, suc, ◌+◌, ◌<◌}
use mathlib.Core.Path.{◌≡◌, refl, ap, sym, ◌∙◌, fun_ext}
use mathlib.Core.List.{List}
use mathlib.Core.Bool.{Bool, true, false, ◌&&◌}
use mathlib.Core.Option.{Option, none, some, none-ne-some}
use native.Mathlib.Omega.{arith}
use native.Mathlib.Nat.{add-zero}
use borrow.Author.Tests.{eqb-true, eq-eqb}
use lib.Dec.{eqb}
use Rattle.rules.specs.Faults.{on_found, only_if}
use Rattle.rules.specs.Records.{kind_of, field_a, field_b, field_c, field_d, units, padding_of, zeros}
use Rattle.rules.specs.Templates.{form_of}
use Rattle.rules.specs.Value.{value_size}
use Rattle.rules.specs.Layout.{then_read, in_row, text_end, path_end, form_end, sized, node_end, children_end, case_end, kind_end, value_end}
use Rattle.rules.specs.declared.Form.{Form}
use Rattle.rules.specs.declared.Form.TheVariants.{Build, Literal, Place, Expand, If, For, Sequence, Match, Unknown}
use Rattle.layout.specs.Tree.{Thing, Node, Value, text_head, path_head, bare_path_head, form_head, form_below, kind_head, kind_below, head_end, below, thing_end}
use Rattle.laws.specs.Reads.{only_some, then_some, some_then}
use Rattle.layout.proofs.TreeLaws.{tree_end, end_sized}

-- A row of records

pub row_ends : (one : ℕ → Option ℕ) → ((p q : ℕ) → one p ≡ some q → p + 1 ≡ q) → (n p q : ℕ) → in_row one n p ≡ some q → p + n ≡ q
unfolding in_row
row_ends one f zero p q e = add-zero p ∙ cc
row_ends one f (suc n) p q e =
    let h = then_some (one p) (in_row one n) q e in
    omega (arith, f p h.0 h.1, row_ends one f n h.0 q h.2)

pub path_ends : (t : List ℕ) (p q : ℕ) → path_end t p ≡ some q → p + 1 ≡ q
unfolding path_end
path_ends t p q e = (only_some _ (p + 1) q e).1

text_grows : (s : List ℕ) (p q : ℕ) → text_head s p ≡ some q → p < q
unfolding text_end text_head
text_grows s p q e =
    let h = then_some (text_end s (field_b s p) p) (λ q. only_if (eqb (p + value_size s p) q) q) q e in
    omega (arith, (only_some (zeros (padding_of s (field_b s p) p)) (p + 1 + units (field_b s p)) h.0 h.1).1, (only_some (eqb (p + value_size s p) h.0) h.0 q h.2).1)

-- Heads go forward

-- a test, and then a text or a path
then_text : (s : List ℕ) (b : Bool) (p q : ℕ) → then_read (only_if b p) (text_head s) ≡ some q → p < q
then_text s b p q e =
    let h = then_some (only_if b p) (text_head s) q e in
    omega (arith, (only_some b p h.0 h.1).1, text_grows s h.0 q h.2)

then_path : (s : List ℕ) (b : Bool) (p q : ℕ) → then_read (only_if b (p + 1)) (path_end s) ≡ some q → p < q
then_path s b p q e =
    let h = then_some (only_if b (p + 1)) (path_end s) q e in
    omega (arith, (only_some b (p + 1) h.0 h.1).1, path_ends s h.0 q h.2)

then_next : (b : Bool) (p q : ℕ) → only_if b (p + 1) ≡ some q → p < q
then_next b p q e = omega (arith, (only_some b (p + 1) q e).1)

form_grows : (t : List ℕ) (f : Form) (p q : ℕ) → form_head t f p ≡ some q → p < q
unfolding form_head path_head bare_path_head
form_grows t Build p q e = let w : p + 1 ≡ q = cc in omega arith
form_grows t Literal p q e = then_text t _ p q e
form_grows t Place p q e = then_path t _ p q e
form_grows t Expand p q e = omega (arith, row_ends (path_end t) (path_ends t) (field_d t p) (p + 1) q e)
form_grows t If p q e = then_path t _ p q e
form_grows t For p q e = then_path t _ p q e
form_grows t Sequence p q e = then_next _ p q e
form_grows t Match p q e = then_path t _ p q e
form_grows t Unknown p q e = absurd (none-ne-some q e)

kind_grows : (v : List ℕ) (kind p q : ℕ) → kind_head v kind p ≡ some q → p < q
unfolding kind_head
kind_grows v zero p q e = absurd (none-ne-some q e)
kind_grows v (suc zero) p q e = then_text v _ p q e
kind_grows v (suc (suc zero)) p q e = then_next _ p q e
kind_grows v (suc (suc (suc zero))) p q e = then_next _ p q e
kind_grows v (suc (suc (suc (suc zero)))) p q e = then_next _ p q e
kind_grows v (suc (suc (suc (suc (suc zero))))) p q e = then_next _ p q e
kind_grows v (suc (suc (suc (suc (suc (suc kind)))))) p q e = absurd (none-ne-some q e)

pub head_grows : (thing : Thing) (s : List ℕ) (p q : ℕ) → head_end thing s p ≡ some q → p < q
unfolding head_end
head_grows Node t p q e =
    let h = then_some (only_if (eqb (kind_of t p) 5) p) (λ p. form_head t (form_of t p) p) q e in
    omega (arith, (only_some (eqb (kind_of t p) 5) p h.0 h.1).1, form_grows t (form_of t h.0) h.0 q h.2)
head_grows Value v p q e = kind_grows v (kind_of v p) p q e

-- The recursion

then_then : (o : Option ℕ) (f g : ℕ → Option ℕ) → then_read (then_read o f) g ≡ then_read o (λ q. then_read (f q) g)
unfolding then_read on_found
then_then none f g = refl
then_then (some q) f g = refl

-- what is read after a test
after_test : (b : Bool) (p r : ℕ) (f g : ℕ → Option ℕ) → (b ≡ true → f p ≡ g r) → then_read (only_if b p) f ≡ then_read (only_if b r) g
unfolding then_read on_found only_if
after_test true p r f g h = h refl
after_test false p r f g h = refl

-- a thing's head, n things below it, and the place z where it ends by its size
closed : ℕ → ℕ → Option ℕ
closed z e = only_if (eqb z e) e

whole : Option ℕ → (ℕ → Option ℕ) → ℕ → ℕ → Option ℕ
whole head one n z = then_read head (λ q. then_read (in_row one n q) (closed z))

whole_none : (one : ℕ → Option ℕ) (n z : ℕ) → whole none one n z ≡ none
unfolding whole then_read on_found
whole_none one n z = refl

-- with nothing below; with nothing below and the size held against the head's own end
whole_leaf : (head : Option ℕ) (one : ℕ → Option ℕ) (z : ℕ) → then_read head (closed z) ≡ whole head one 0 z
unfolding whole in_row then_read on_found
whole_leaf none one z = refl
whole_leaf (some q) one z = refl

closed_twice : (o : Option ℕ) (z : ℕ) → then_read o (closed z) ≡ then_read (then_read o (closed z)) (closed z)
unfolding closed then_read on_found only_if
closed_twice none z = refl
closed_twice (some q) z = go (eqb z q) refl
  where
    go : (b : Bool) → eqb z q ≡ b → only_if (eqb z q) q ≡ then_read (only_if (eqb z q) q) (closed z)
    go true e = rw (e, e)
    go false e = rw e

-- a text after a test
text_split : (s : List ℕ) (one : ℕ → Option ℕ) (b : Bool) (p : ℕ)
    → then_read (only_if b p) (λ q. then_read (text_end s (field_b s p) q) (closed (p + value_size s p))) ≡ whole (then_read (only_if b p) (text_head s)) one 0 (p + value_size s p)
unfolding text_head closed
text_split s one b p =
    after_test b p p _ (λ r. then_read (text_head s r) (closed (p + value_size s p))) (λ e. closed_twice (text_end s (field_b s p) p) (p + value_size s p))
    ∙ sym (then_then (only_if b p) (text_head s) (closed (p + value_size s p)))
    ∙ whole_leaf (then_read (only_if b p) (text_head s)) one (p + value_size s p)

-- what stands below a node's head is its own records, and then nodes
path_split : (t : List ℕ) (b : Bool) (node : ℕ → Option ℕ) (n p : ℕ)
    → then_read (then_read (only_if b (p + 1)) (λ q. then_read (path_end t q) (in_row node n))) (closed (p + value_size t p))
    ≡ whole (then_read (only_if b (p + 1)) (path_end t)) node n (p + value_size t p)
unfolding whole
path_split t b node n p =
    ap (λ (o : Option ℕ). then_read o (closed (p + value_size t p))) (sym (then_then (only_if b (p + 1)) (path_end t) (in_row node n)))
    ∙ then_then (then_read (only_if b (p + 1)) (path_end t)) (in_row node n) (closed (p + value_size t p))

form_split : (t : List ℕ) (f : Form) (node : ℕ → Option ℕ) (p : ℕ)
    → then_read (form_end t f node p) (closed (p + value_size t p)) ≡ whole (form_head t f p) node (form_below t f p) (p + value_size t p)
unfolding form_end form_head form_below whole path_head bare_path_head
form_split t Build node p = sym (some_then (some (p + 1)) (λ q. then_read (in_row node (field_d t p) q) (closed (p + value_size t p))) (p + 1) refl)
form_split t Literal node p = then_then (only_if (eqb (field_d t p) 0) p) (text_end t (field_b t p)) (closed (p + value_size t p)) ∙ text_split t node (eqb (field_d t p) 0) p
form_split t Place node p = whole_leaf _ node (p + value_size t p)
form_split t Expand node p = whole_leaf _ node (p + value_size t p)
form_split t If node p = path_split t _ node 2 p
form_split t For node p = path_split t _ node 1 p
form_split t Sequence node p = then_then (only_if (eqb (field_b t p) 0) (p + 1)) (in_row node (field_d t p)) (closed (p + value_size t p))
form_split t Match node p = path_split t _ node (field_d t p) p
form_split t Unknown node p = whole_leaf none node (p + value_size t p)

size_field : (s : List ℕ) (p kind : ℕ) → kind_of s p ≡ kind → eqb kind 2 ≡ false → p + field_c s p ≡ p + value_size s p
unfolding value_size
size_field s p kind e h = rw (e, h)

size_one : (s : List ℕ) (p : ℕ) → kind_of s p ≡ 2 → p + value_size s p ≡ p + 1
unfolding value_size
size_one s p e = rw e

node_level : (t : List ℕ) (node : ℕ → Option ℕ) (p : ℕ)
    → then_read (only_if (eqb (kind_of t p) 5) p) (λ p. sized t p (form_end t (form_of t p) node p)) ≡ whole (head_end Node t p) node (below Node t p) (p + value_size t p)
unfolding head_end below sized whole closed
node_level t node p =
    let f : Form = form_of t p in
    after_test (eqb (kind_of t p) 5) p p _ (λ r. whole (form_head t (form_of t r) r) node (form_below t f p) (p + value_size t p))
    (λ e. ap (λ (z : ℕ). then_read (form_end t f node p) (closed z)) (size_field t p 5 (eqb-true (kind_of t p) 5 e) refl) ∙ form_split t f node p)
    ∙ sym (then_then (only_if (eqb (kind_of t p) 5) p) (λ p. form_head t (form_of t p) p) _)

-- a value's head and what stands below it, by its kind
module _ (v : List ℕ) (value : ℕ → Option ℕ) (p : ℕ) where
  children_split : p + field_c v p ≡ p + value_size v p
      → children_end v value p ≡ whole (only_if (eqb (field_a v p) 0 && eqb (field_b v p) 0) (p + 1)) value (field_d v p) (p + value_size v p)
  unfolding children_end sized whole closed
  children_split z =
      after_test (eqb (field_a v p) 0 && eqb (field_b v p) 0) p (p + 1) _ _
      (λ e. ap (λ (z : ℕ). then_read (in_row value (field_d v p) (p + 1)) (closed z)) z)

  case_split : p + field_c v p ≡ p + value_size v p
      → case_end v value p ≡ whole (only_if (eqb (field_b v p) 0 && eqb (field_d v p) 0) (p + 1)) value 1 (p + value_size v p)
  unfolding case_end sized whole closed
  case_split z =
      after_test (eqb (field_b v p) 0 && eqb (field_d v p) 0) p (p + 1) _ _ (λ e. ap (λ (z : ℕ). then_read (in_row value 1 (p + 1)) (closed z)) z)

  leaf_split : (b : Bool) → only_if b (p + 1) ≡ whole (only_if b (p + 1)) value 0 (p + 1)
  unfolding whole closed in_row then_read on_found only_if
  leaf_split true = rw (eq-eqb (p + 1) (p + 1) refl)
  leaf_split false = refl

  kind_split : (kind : ℕ) → kind_of v p ≡ kind → kind_end v kind value p ≡ whole (kind_head v kind p) value (kind_below v kind p) (p + value_size v p)
  unfolding kind_end kind_head kind_below sized closed
  kind_split zero e = sym (whole_none value 0 (p + value_size v p))
  kind_split (suc zero) e =
      after_test (eqb (field_a v p) 0 && eqb (field_d v p) 0) p p _ _
      (λ h. ap (λ (z : ℕ). then_read (text_end v (field_b v p) p) (closed z)) (size_field v p 1 e refl))
      ∙ text_split v value (eqb (field_a v p) 0 && eqb (field_d v p) 0) p
  kind_split (suc (suc zero)) e = leaf_split _ ∙ ap (whole (kind_head v 2 p) value 0) (sym (size_one v p e))
  kind_split (suc (suc (suc zero))) e = children_split (size_field v p 3 e refl)
  kind_split (suc (suc (suc (suc zero)))) e = children_split (size_field v p 4 e refl)
  kind_split (suc (suc (suc (suc (suc zero))))) e = case_split (size_field v p 5 e refl)
  kind_split (suc (suc (suc (suc (suc (suc kind)))))) e = sym (whole_none value 0 (p + value_size v p))

pub thing_is : (thing : Thing) (s : List ℕ) (k p : ℕ) → thing_end thing s k p ≡ tree_end (head_end thing s) (value_size s) (below thing s) k p
unfolding thing_end node_end value_end tree_end head_end below whole closed
thing_is Node s zero p = refl
thing_is Node s (suc k) p =
    node_level s (node_end s k) p
    ∙ ap (λ (one : ℕ → Option ℕ). whole (head_end Node s p) one (below Node s p) (p + value_size s p)) (fun_ext (thing_is Node s k))
thing_is Value s zero p = refl
thing_is Value s (suc k) p =
    kind_split s (value_end s k) p (kind_of s p) refl
    ∙ ap (λ (one : ℕ → Option ℕ). whole (head_end Value s p) one (below Value s p) (p + value_size s p)) (fun_ext (thing_is Value s k))

pub thing_sized : (thing : Thing) (s : List ℕ) (k p q : ℕ) → thing_end thing s k p ≡ some q → (p < q) × (p + value_size s p ≡ q)
thing_sized thing s k p q e =
    end_sized (head_end thing s) (value_size s) (below thing s) (head_grows thing s) k p q (sym (thing_is thing s k p) ∙ e)
