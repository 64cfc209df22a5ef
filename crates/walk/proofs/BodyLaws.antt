-- The nodes of the templates' bodies: what stands below one is in the same body. Assumes nothing.
use Prim.Native.Nat.{ℕ, zero, suc, ◌+◌, ◌-◌, ◌*◌, ◌≤◌, ◌<◌}
use mathlib.Core.Path.{◌≡◌, refl, sym, subst}
use mathlib.Core.List.{List, []}
use mathlib.Core.Bool.{Bool, true, false, cond}
use mathlib.Core.Option.{some}
use native.Mathlib.Omega.{arith}
use Rattle.rules.specs.Records.{field_c, field_d, heads, nth}
use Rattle.rules.specs.Templates.{templates, body, form_of, nodes, first, second, arms, nodes_of, nodes_below}
use Rattle.rules.specs.declared.Form.{Form}
use Rattle.rules.specs.declared.Form.TheVariants.{Build, Expand, If, For, Sequence, Match}
use Rattle.laws.specs.Faults.{In, here, later, nth_in, Below, itself, under}
use Rattle.laws.specs.Rows.{heads_more}
use Rattle.stream.specs.Record.{Fetched}
use Rattle.stream.specs.declared.record.Record.{Record}
use Rattle.stream.proofs.RecordLaws.{eight_bytes}
use Rattle.walk.specs.Bodies.{FewPaths, InBody, NodeBelow}

below_more : {A : Type 0} {f : A → List A} {x y z : A} {d : ℕ} → Below f x d y → In z (f y) → Below f x (suc d) z
below_more (itself x) i = under x _ _ _ i (itself _)
below_more (under x c y d j b) i = under x c _ _ j (below_more b i)

pub body_first : (t : List ℕ) (n q : ℕ) → nth (templates t) n ≡ some q → InBody t (body t q)
body_first t n q h = record { template = q; depth = 0; named = nth_in (templates t) n q h; stands = itself _ }

pub body_more : {t : List ℕ} {node child : ℕ} → InBody t node → In child (nodes_below t node) → InBody t child
body_more b i = record { template = b.template; depth = suc b.depth; named = b.named; stands = below_more b.stands i }

pub body_paths : {t : List ℕ} {node : ℕ} → FewPaths t → InBody t node → form_of t node ≡ Expand → field_d t node ≤ 8
body_paths few b f = few.each b.template b.depth _ b.named b.stands f

-- what stands directly below a node, by its form

module _ (t : List ℕ) (p : ℕ) where
  of_form : (form : Form) → form_of t p ≡ form → {c : ℕ} → In c (nodes_of t form p) → In c (nodes_below t p)
  unfolding nodes_below
  of_form form f {c} i = subst (λ (x : Form). In c (nodes_of t x p)) (sym f) i

  pub for_below : form_of t p ≡ For → NodeBelow t p (p + 2)
  unfolding nodes_of first
  for_below f = record { stands = of_form For f (here []); near = omega arith }

  branch_in : (b : Bool) → In (cond b (first p) (second t p)) (nodes_of t If p)
  unfolding nodes_of
  branch_in true = here _
  branch_in false = later _ _ (here _)

  pub if_below : form_of t p ≡ If → (b : Bool) (c : ℕ) → c ≡ cond b (first p) (second t p) → c ≤ p + 65537 → NodeBelow t p c
  if_below f b c e l = record { stands = rw e (of_form If f (branch_in b)); near = omega arith }

  -- a match: its arm for the case y
  pub match_below : form_of t p ≡ Match → (y b : ℕ) → nth (arms t p) y ≡ some b → b ≤ p + 2 + 65535 * y → y < 65536 → NodeBelow t p b
  unfolding nodes_of
  match_below f y b e l m = record { stands = of_form Match f (nth_in (arms t p) y b e); near = omega arith }

-- a walk along a row of nodes below a node, of which i are passed

pub record Along (t : List ℕ) (node count item i : ℕ) : Type 0 where
  pub few : count ≤ 65535
  pub each : (c : ℕ) → In c (heads (field_c t) (count - i) item) → In c (nodes_below t node)
  pub near : item ≤ node + 1 + i * 65535

pub count_small : {s : List ℕ} {i : ℕ} {r : Record} → Fetched s i r → r.d < 65536
count_small {s} {i} {r} f = let e = eight_bytes s i r f in omega (arith, e.byte7, f.small 7)

pub size_small : {s : List ℕ} {i : ℕ} {r : Record} → Fetched s i r → r.c < 65536
size_small {s} {i} {r} f = let e = eight_bytes s i r f in omega (arith, e.byte5, f.small 5)

along_start : (t : List ℕ) (node : ℕ) (head : Record) (form : Form) → form_of t node ≡ form → nodes_of t form node ≡ nodes t node → Fetched t node head → Along t node head.d (node + 1) 0
unfolding nodes
along_start t node head form e same f =
    let z : head.d - 0 ≡ head.d = omega arith in
    record { few = omega (arith, count_small f); each = λ c i. of_form t node form e (rw same (rw (z, f.d) at i)); near = omega arith }

pub along_sequence : {t : List ℕ} {node : ℕ} {head : Record} → form_of t node ≡ Sequence → Fetched t node head → Along t node head.d (node + 1) 0
unfolding nodes_of
along_sequence {t} {node} {head} e = along_start t node head Sequence e refl

pub along_build : {t : List ℕ} {node : ℕ} {head : Record} → form_of t node ≡ Build → Fetched t node head → Along t node head.d (node + 1) 0
unfolding nodes_of
along_build {t} {node} {head} e = along_start t node head Build e refl

-- what comes after the first of a row
rest_in : (size : ℕ → ℕ) (p : ℕ) {c : ℕ} (m k : ℕ) → k ≡ m - 1 → In c (heads size k (p + size p)) → In c (heads size m p)
unfolding heads
rest_in size p zero k e i = rw e at i
rest_in size p (suc m) k e i = let z : k ≡ m = omega arith in later p _ (rw z at i)

module _ {t : List ℕ} {node count item i : ℕ} (a : Along t node count item i) where
  pub along_below : i < count → NodeBelow t node item
  along_below more = record {
    stands = a.each item (rw (heads_more (field_c t) count i item more (field_c t item) refl) (here _));
    near = omega (arith, a.near, a.few);
  }

  pub along_next : (size : ℕ) → size ≡ field_c t item → size < 65536 → Along t node count (item + size) (i + 1)
  along_next size e l =
      let z : count - (i + 1) ≡ count - i - 1 = omega arith in
      record {
        few = a.few;
        each = λ c j. a.each c (rest_in (field_c t) item (count - i) (count - (i + 1)) z (rw e at j));
        near = omega (arith, a.near);
      }
