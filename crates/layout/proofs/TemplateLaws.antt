-- Types and templates as long as their kind comes, and the layout of a whole template set.
use Prim.Native.Nat.{ℕ, ◌+◌, ◌≤◌, ◌<◌}
use mathlib.Core.Path.{◌≡◌, refl, ap, sym, ◌∙◌}
use mathlib.Core.List.{List}
use mathlib.Core.Bool.{Bool, true, false}
use Rattle.std.specs.Prelude.{Some, None, MatchOption}
use Rattle.std.specs.Prelude as code
use Rattle.layout.specs.Grammar.{end_of}
use mathlib.Core.Option.{Option, none, some}
use native.Mathlib.Omega.{arith}
use borrow.Author.Tests.{eqb-true, eqb-false, eq-eqb, ne_eqb, le-leb, lt-leb, leb-false}
use lib.Dec.{eqb, leb}
use Rattle.rules.specs.Faults.{need, on_found, only_if}
use Rattle.rules.specs.Blocks.{stream_length}
use Rattle.rules.specs.Records.{record_count, kind_of, field_a, field_c, field_d, of_kind}
use Rattle.rules.specs.Layout.{then_read, in_row, while_is, naming_end, type_end, sized, node_end, template_end, templates_end, tail_right, layout_fault, templates_layout}
use Rattle.stream.specs.declared.record.Record.{Record}
use Rattle.stream.specs.Record.{Fetched}
use Rattle.layout.specs.Tree.{Node, thing_end, fills}
use Rattle.layout.specs.Template.{types_end, rest_right, within}
use Rattle.layout.proofs.CommonLaws.{tail_past}
use Rattle.layout.proofs.GrammarLaws.{inside, ThingsLeft, left_start, left_stop, left_go, left_broken, of_another, kind_stands}
use Rattle.laws.specs.Reads.{only_some, then_some}
use Rattle.layout.proofs.TreeThings.{row_ends, thing_sized}

naming_ends : (t : List ℕ) (kind p q : ℕ) → naming_end t kind p ≡ some q → p + 1 ≡ q
unfolding naming_end
naming_ends t kind p q e = (only_some _ (p + 1) q e).1

-- Types, from p on: what is left to read is the whole

abbrev pub TypesLeft : List ℕ → ℕ → Type 0
TypesLeft t p = (n : ℕ) × ThingsLeft t (of_kind t 1) (λ n. type_end t) (types_end t) n p

pub types_start : (t : List ℕ) → TypesLeft t 0
unfolding types_end
types_start t = (0, left_start 0)

module _ {t : List ℕ} (w : stream_length t ≡ none) {p : ℕ} {r : Record} (f : Fetched t p r) (h : TypesLeft t p) where
  pub types_stop : (r.kind ≡ 1 → ⊥) → some p ≡ types_end t
  types_stop k = left_stop (of_another f 1 k) h.1

  module _ (k : r.kind ≡ 1) (z : Bool) (e : only_if z (p + 1 + field_d t p) ≡ type_end t p) where
    pub types_broken : z ≡ false → none ≡ types_end t
    unfolding only_if
    types_broken i = left_broken (kind_stands f w 0 k) h.1 (sym e ∙ rw i)

    pub types_go : z ≡ true → TypesLeft t (p + (1 + r.d))
    unfolding only_if
    types_go i =
        let q : p + 1 + field_d t p ≡ p + (1 + r.d) = omega (arith, f.d) in
        (h.0 + 1, left_go (kind_stands f w 0 k) h.1 (p + (1 + r.d)) (sym e ∙ rw (i, q)) (omega arith))

-- One template

-- a place where a thing must end by its size, and a limit that this is within
closed_within : (o : Option ℕ) (e n : ℕ) → e ≤ n
    → on_found o false (λ q. eqb q e) ≡ on_found (then_read o (λ q. only_if (eqb e q) q)) false (λ q. leb q n)
unfolding on_found then_read only_if
closed_within none e n l = refl
closed_within (some q) e n l = go (eqb q e) refl
  where
    go : (b : Bool) → eqb q e ≡ b → b ≡ on_found (only_if (eqb e q) q) false (λ q. leb q n)
    go true b = let z : q ≡ e = eqb-true q e b in rw (eq-eqb e q (sym z)) (sym (le-leb q n (omega arith)))
    go false b = rw (ne_eqb e q (λ z. eqb-false q e b (sym z)))

within_not : (t : List ℕ) (o : Option ℕ) → ((q : ℕ) → o ≡ some q → record_count t < q) → false ≡ within t o
unfolding within on_found
within_not t none l = refl
within_not t (some q) l = sym (lt-leb q (record_count t) (l q refl))

sized_after : (t : List ℕ) (p c : ℕ) → c ≡ field_c t p → (z : Bool) → z ≡ true → (q : ℕ) (next : ℕ → Option ℕ)
    → sized t p (then_read (only_if z q) next) ≡ then_read (next q) (λ q. only_if (eqb (p + c) q) q)
unfolding sized then_read on_found only_if
sized_after t p c e z h q next = rw h (ap (λ (c : ℕ). on_found (next q) none (λ q. only_if (eqb (p + c) q) q)) (sym e))

-- a template's end, by its parts
template_parts : (t : List ℕ) (p q : ℕ) → template_end t p ≡ some q → (p < q) × (p + field_c t p ≡ q)
unfolding template_end sized thing_end
template_parts t p q e =
    let h = then_some (only_if (eqb (field_d t p) 0) p) _ q e in
    let i = (only_some (eqb (field_d t p) 0) p h.0 h.1).1 in
    let g = then_some (then_read (in_row (naming_end t 4) (field_a t h.0) (h.0 + 1)) (node_end t (record_count t))) _ q h.2 in
    let b = then_some (in_row (naming_end t 4) (field_a t h.0) (h.0 + 1)) (node_end t (record_count t)) g.0 g.1 in
    let c = only_some (eqb (h.0 + field_c t h.0) g.0) g.0 q g.2 in
    let row = row_ends (naming_end t 4) (naming_ends t 4) (field_a t h.0) (h.0 + 1) b.0 b.1 in
    let body = (thing_sized Node t (record_count t) b.0 g.0 b.2).0 in
    (omega arith, rw i (eqb-true (h.0 + field_c t h.0) g.0 c.0 ∙ c.1))

module _ (t : List ℕ) (p : ℕ) (r : Record) (f : Fetched t p r) where
  pub template_past : record_count t < p + r.c → false ≡ within t (template_end t p)
  template_past l = within_not t (template_end t p) (λ q e. omega (arith, (template_parts t p q e).1, f.c))

  pub template_d : (r.d ≡ 0 → ⊥) → false ≡ within t (template_end t p)
  unfolding template_end within on_found then_read only_if
  template_d d = rw (ne_eqb (field_d t p) 0 (λ e. d (f.d ∙ e)))

  module _ (d : r.d ≡ 0) (z : Bool) (h : only_if z (p + 1 + r.a) ≡ in_row (naming_end t 4) r.a (p + 1)) where
    end_is : template_end t p ≡ sized t p (then_read (only_if z (p + 1 + r.a)) (node_end t (record_count t)))
    unfolding template_end then_read on_found only_if
    end_is = rw (eq-eqb (field_d t p) 0 (sym f.d ∙ d), ← f.a, h)

    pub template_row : z ≡ false → false ≡ within t (template_end t p)
    unfolding within sized on_found then_read only_if
    template_row e = rw (end_is, e)

    pub template_body : z ≡ true → p + r.c ≤ record_count t → (b : Bool) → b ≡ fills Node t (p + 1 + r.a) (p + r.c) → b ≡ within t (template_end t p)
    unfolding within fills thing_end sized
    template_body e l b is =
        is
        ∙ closed_within (node_end t (record_count t) (p + 1 + r.a)) (p + r.c) (record_count t) l
        ∙ ap (λ (o : Option ℕ). on_found o false (λ q. leb q (record_count t)))
        (sym (end_is ∙ sized_after t p r.c f.c z e (p + 1 + r.a) (node_end t (record_count t))))

-- Templates, from p on, and what comes after them: of what is left from q on

abbrev pub TemplatesLeft : List ℕ → ℕ → ℕ → Type 0
TemplatesLeft t p q = (n : ℕ) × ThingsLeft t (of_kind t 3) (λ n. template_end t) (while_is (of_kind t 3) (λ n. template_end t) (record_count t) 0 p) n q

ends_at : (t : List ℕ) (p e : ℕ) → some e ≡ while_is (of_kind t 3) (λ n. template_end t) (record_count t) 0 p → tail_right t e ≡ rest_right t p
unfolding rest_right on_found
ends_at t p e h = rw (← h)

module _ {t : List ℕ} (w : stream_length t ≡ none) (p : ℕ) {q : ℕ} {r : Record} (f : Fetched t q r) (h : TemplatesLeft t p q) where
  pub templates_stop : (r.kind ≡ 3 → ⊥) → tail_right t q ≡ rest_right t p
  templates_stop k = ends_at t p q (left_stop (of_another f 3 k) h.1)

  module _ (k : r.kind ≡ 3) where
    pub templates_wrong : false ≡ within t (template_end t q) → false ≡ rest_right t p
    unfolding rest_right within on_found
    templates_wrong z = go (template_end t q) refl
      where
        go : (o : Option ℕ) → template_end t q ≡ o → false ≡ rest_right t p
        go none i = rw (← left_broken (kind_stands f w 2 k) h.1 i)
        go (some e) i =
            let m : record_count t < e = leb-false e (record_count t) (sym (rw i at z)) in
            let g = left_go (kind_stands f w 2 k) h.1 e i (template_parts t q e i).0 in
            tail_past t e (omega arith) (record_count t) refl m ∙ ends_at t p e (left_stop (ne_eqb (kind_of t e) 3 (λ j. absurd (let n = inside t w e 2 j in omega arith))) g)

    pub templates_go : true ≡ within t (template_end t q) → (q < q + r.c) × TemplatesLeft t p (q + r.c)
    unfolding within on_found
    templates_go z = go (template_end t q) refl
      where
        go : (o : Option ℕ) → template_end t q ≡ o → (q < q + r.c) × TemplatesLeft t p (q + r.c)
        go none i = absurd (let x : ◌≡◌ {A = ℕ} 0 1 = cc (rw i at z) in omega arith)
        go (some e) i =
            let j = template_parts t q e i in
            let y : e ≡ q + r.c = omega (arith, j.1, f.c) in
            (omega (arith, j.0), (h.0 + 1, left_go (kind_stands f w 2 k) h.1 (q + r.c) (i ∙ ap some y) (omega (arith, j.0))))

-- The whole

pub types_then : (t : List ℕ) (o : code.Option ℕ) (r : Bool) → end_of o ≡ types_end t → MatchOption o (r ≡ false) (λ p. r ≡ rest_right t p) → need r 0 ≡ templates_layout t
unfolding types_end rest_right templates_layout layout_fault templates_end then_read on_found
types_then t (Some p) r e h = rw (← e, h)
types_then t None r e h = rw (← e, h)
