-- Laws of templates: their parameters, the declared type, and all of them. Assumes nothing.
use Prim.Native.Nat.{ℕ, zero, suc, ◌+◌, ◌-◌, ◌≤◌, ◌<◌}
use mathlib.Core.Path.{◌≡◌, refl, sym, ap, ◌∙◌}
use mathlib.Core.List.{List, ◌++◌, map, append_assoc, append-nil}
use mathlib.Core.Option.{Option, none, some, some-ne-none, none-ne-some}
use native.Mathlib.Omega.{arith}
use lib.ListN.{length, get_or, take, set}
use borrow.Author.Tests.{leb-true}
use Rattle.std.specs.Prelude.{Result, Ok, Err}
use Rattle.rules.specs.Faults.{need, both, every, tree, exists, at}
use Rattle.rules.specs.Records.{field_a, field_b, heads, row, nth}
use Rattle.rules.specs.Templates.{templates, template, parameter_heads, parameters, body}
use Rattle.rules.specs.Limits.{deepest, looped, looped_below, few_loops, template_limits, templates_limits}
use Rattle.rules.specs.Typing.{Site, site, misfit, body_site, only, declared_type, templates_typing}
use Rattle.rules.specs.declared.Position.{Position}
use Rattle.rules.specs.declared.Position.TheVariants.{Nonterminal}
use Rattle.laws.specs.Faults.{need_none, both_none, every_in, nth_in, on_some, on_none, at_none}
use Rattle.laws.specs.Lists.{nth_some}
use Rattle.laws.specs.Rows.{row_all, row_more, row_done}
use Rattle.typing.specs.Answers.{site_of, judged, Offence, offence}
use Rattle.typing.specs.Asks.{FrameReady, BodyOf}
use Rattle.typing.specs.declared.Frame.{Frame}
use Rattle.typing.specs.declared.Misfit.{Misfit}
use Rattle.typing.proofs.AnswerLaws.{one_more, fine, wrong}

-- the types of the parameters: what is in the slots, and what is left after i of them

module _ (f : ℕ → ℕ) (p n : ℕ) where
  pub types_start : map f (row (n - 0) (p + 0)) ≡ map f (row n p)
  types_start = ap (map f) (row_all n p)

  pub types_next : (i : ℕ) (slots : List ℕ) (v : ℕ) → i < n → i < length slots → v ≡ f (p + i)
      → take (i + 1) (set slots i v) ++ map f (row (n - (i + 1)) (p + (i + 1))) ≡ take i slots ++ map f (row (n - i) (p + i))
  types_next i slots v l h k = rw (one_more slots i v h, append_assoc, row_more n p i l, k)

  pub types_end_lem : (i : ℕ) (slots : List ℕ) {X : List ℕ} → n ≤ i → i ≤ n → take i slots ++ map f (row (n - i) (p + i)) ≡ X → take n slots ≡ X
  types_end_lem i slots h k q =
      let d : n ≡ i = omega arith in
      ap (λ (m : ℕ). take m slots) d
      ∙ sym (append-nil (take i slots))
      ∙ ap (λ (l : List ℕ). take i slots ++ map f l) (sym (row_done n p i h))
      ∙ q

-- the frame of a body

pub body_of : (t : List ℕ) (q n b : ℕ) → q < 65536 → n ≡ field_a t q → b ≡ field_b t q → n ≤ 8
    → BodyOf t q (record { node = q + 1 + n; position = Nonterminal b; count = n })
unfolding body
body_of t q n b l e h few = record { node_is = rw e; position_is = rw h; count_is = e; near = omega arith }

body_site_lem : (t : List ℕ) (q : ℕ) (f : Frame) (scope : List ℕ) → BodyOf t q f → take f.count scope ≡ map (field_b t) (row f.count (q + 1)) → site_of scope f ≡ body_site t q
unfolding body_site site parameters parameter_heads
body_site_lem t q f scope b k = rw (k, b.node_is, b.position_is, b.count_is)

-- the declared type

only_one : (f : ℕ → ℕ) (a p : ℕ) → (a ≡ 1 → ⊥) → only (map f (row a p)) ≡ none
unfolding only row heads
only_one f zero p h = refl
only_one f (suc zero) p h = absurd (h refl)
only_one f (suc (suc a)) p h = refl

module _ (t hs : List ℕ) (he : hs ≡ templates t) where
  pub declared_missing : nth hs 0 ≡ none → none ≡ declared_type t
  unfolding declared_type template
  declared_missing h = sym (on_none none _ (rw (← he) h))

  module _ (q a : ℕ) (hq : nth hs 0 ≡ some q) (ha : a ≡ field_a t q) where
    declared_only : declared_type t ≡ only (map (field_b t) (row a (q + 1)))
    unfolding declared_type template parameters parameter_heads
    declared_only = on_some {a = q} none _ (rw (← he) hq) ∙ rw (← ha)

    pub declared_other : (a ≡ 1 → ⊥) → none ≡ declared_type t
    declared_other h = sym (declared_only ∙ only_one (field_b t) a (q + 1) h)

    pub declared_is : a ≡ 1 → (b : ℕ) → b ≡ field_b t (q + 1) → some b ≡ declared_type t
    unfolding only row heads
    declared_is h b e = sym (declared_only ∙ rw (h, ← e))

-- all templates

-- what is wrong in the body of the template at q
abbrev pub wrong_in : List ℕ → List ℕ → ℕ → Option ℕ
wrong_in g t q = at (λ x. x.node) (misfit g t 200 (body_site t q))

module _ (g t : List ℕ) where
  pub whole_missing : declared_type t ≡ none → some 0 ≡ templates_typing g t
  unfolding templates_typing both need exists
  whole_missing h = sym (rw h)

  pub whole_is : (hs : List ℕ) → hs ≡ templates t → (ty : ℕ) → declared_type t ≡ some ty → every (wrong_in g t) hs ≡ templates_typing g t
  unfolding templates_typing both need exists deepest
  whole_is hs he ty h = sym (rw (h, he))

place_none : (o : Option Site) → offence o ≡ none → at (λ x. x.node) o ≡ none
unfolding offence at
place_none none e = refl
place_none (some x) e = absurd (some-ne-none _ e)

place_some : (o : Option Site) (p : ℕ) (position : Position) → offence o ≡ some (p, position) → at (λ x. x.node) o ≡ some p
unfolding offence at
place_some none p position e = absurd (none-ne-some _ e)
place_some (some x) p position e = ap (at (λ (o : Offence). o.0)) e

module _ (g t : List ℕ) (q : ℕ) (f : Frame) (b : BodyOf t q f) (scope : List ℕ) (types : take f.count scope ≡ map (field_b t) (row f.count (q + 1)))
    (one : Result Unit Misfit) (checked : judged one ≡ offence (misfit g t 200 (site_of scope f))) where
  body_checked : judged one ≡ offence (misfit g t 200 (body_site t q))
  body_checked = checked ∙ ap (λ (s : Site). offence (misfit g t 200 s)) (body_site_lem t q f scope b types)

  pub body_right : {u : Unit} → one ≡ Ok u → wrong_in g t q ≡ none
  body_right h = place_none _ (fine body_checked h)

  pub body_wrong : {m : Misfit} → one ≡ Err m → wrong_in g t q ≡ some m.node
  body_wrong h = place_some _ _ _ (wrong body_checked h)

-- refusal 4: at most 8 parameters, and no limit is met in a body

module _ (t hs : List ℕ) (he : hs ≡ templates t) (limits : templates_limits t ≡ none) (i : ℕ) (more : i < length hs) where
  template_limits_lem : (field_a t (get_or hs i 0) ≤ 8) × (tree few_loops (looped_below t) 200 (looped 0 (body t (get_or hs i 0))) ≡ none)
  unfolding templates_limits template_limits deepest
  template_limits_lem =
      let w = both_none _ _ (every_in (template_limits t) (rw he limits) (nth_in hs i (get_or hs i 0) (nth_some hs i more))) in
      (leb-true _ _ (need_none _ _ w.0), (at_none _ _).0 w.1)

  pub few_parameters : field_a t (get_or hs i 0) ≤ 8
  few_parameters = template_limits_lem.0

  pub body_ready : (f : Frame) → BodyOf t (get_or hs i 0) f → FrameReady 200 t f
  body_ready f b = record {
    near = b.near;
    loops = 0;
    few = omega (arith, b.count_is, few_parameters);
    limits = rw b.node_is template_limits_lem.1;
  }
