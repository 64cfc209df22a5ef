-- The arm of a match: the one for its case, with the case's content as the last variable. Assumes nothing.
use Prim.Native.Nat.{ℕ, zero, suc, ◌+◌, ◌-◌, ◌*◌, ◌≤◌, ◌<◌}
use mathlib.Core.Path.{◌≡◌, refl, sym, ap, ◌∙◌}
use mathlib.Core.List.{List, [], ◌∷◌, ◌++◌}
use mathlib.Core.Option.{none, some}
use native.Mathlib.Omega.{arith}
use lib.ListN.{length, get_or}
use Rattle.rules.specs.Records.{kind_of, field_c, field_d, heads, after, nth}
use Rattle.rules.specs.Templates.{first, arms}
use Rattle.rules.specs.Value.{content}
use Rattle.rules.specs.Answers.{input}
use Rattle.rules.specs.Walk.{path_value, piece, visit}
use Rattle.rules.specs.declared.Form.TheVariants.{Match}
use Rattle.laws.specs.Rows.{one_less, nth_heads}
use Rattle.stream.specs.Record.{Fetched}
use Rattle.stream.specs.declared.record.Record.{Record}
use Rattle.stream.proofs.RecordLaws.{eight_bytes}
use Rattle.records.specs.Children.{Stands}
use Rattle.walk.specs.declared.at.At.{At}
use Rattle.walk.specs.declared.state.Run.{Run}
use Rattle.walk.specs.Frames.{frame, Bound}
use Rattle.walk.specs.Run.{state_of, VisitedFrom}
use Rattle.walk.specs.Nodes.{below_at, bound_at, element_for, visit_at, form_at}
use Rattle.walk.specs.Asks.{Sources, Visitable, Formed}
use Rattle.walk.proofs.PathLaws.{held_more, content_there, content_stands}
use Rattle.walk.proofs.FrameLaws.{take_less}
use Rattle.walk.proofs.RunLaws.{ran_is}
use Rattle.walk.proofs.BodyLaws.{body_more, match_below}
use Rattle.walk.proofs.FormLaws.{match_is}

-- the arms one by one: y of n are passed
module _ (size : ℕ → ℕ) (y i p : ℕ) where
  pub after_more : i < y → (c : ℕ) → c ≡ size p → after size (y - i) p ≡ after size (y - (i + 1)) (p + c)
  unfolding after
  after_more l c e = rw (one_less y i l, e)

  pub after_done : y ≤ i → p ≡ after size (y - i) p
  unfolding after
  after_done l = let e : y - i ≡ 0 = omega arith in rw e

nth_after : (size : ℕ → ℕ) (n p j : ℕ) → j < n → nth (heads size n p) j ≡ some (after size j p)
unfolding nth heads after
nth_after size zero p j l = absurd (omega arith)
nth_after size (suc n) p zero l = refl
nth_after size (suc n) p (suc j) l = nth_after size n (p + size p) j (omega arith)

-- the head of a match counts its arms
module _ {t : List ℕ} {p : ℕ} {head : Record} (f : Fetched t p head) (y : ℕ) where
  pub no_arm : head.d ≤ y → nth (arms t p) y ≡ none
  unfolding arms
  no_arm l = nth_heads (field_c t) (field_d t p) (first p) y (omega (arith, f.d))

  pub an_arm : y < head.d → {b : ℕ} → b ≡ after (field_c t) y (first p) → nth (arms t p) y ≡ some b
  unfolding arms
  an_arm l e = nth_after (field_c t) (field_d t p) (first p) y (omega (arith, f.d)) ∙ ap some (sym e)

-- the path of the match finds the value at w, which is a case; its arm is at b
module _ {s : Sources} {at : At} {out sc : List ℕ} (formed : Formed Match s at out sc) {w : ℕ} (stands : Stands s.value w)
    {case : Record} (f : Fetched s.value w case) (k : case.kind ≡ 5) where
  is_case : kind_of s.value w ≡ 5
  is_case = sym f.kind ∙ k

  pub arm_there : (w < length s.firsts) × (get_or s.firsts w 0 + 0 < length s.places)
  arm_there =
      let c = content_there s.value s.firsts s.places formed.visitable.lent.value_lent.children w stands is_case in
      (c.head, c.entry)

  module _ {b : ℕ} (arm : nth (arms s.templates at.node) case.a ≡ some b) (inside : ℕ) (is : inside ≡ get_or s.places (get_or s.firsts w 0 + 0) 0)
      (sc₁ : List ℕ) (bound : Bound at.frame.base at.frame.vars inside sc sc₁) {there inner : At} (e₁ : there ≡ below_at at b at.element) (e₂ : inner ≡ bound_at there) where
    inside_is : inside ≡ content w
    inside_is = is ∙ (content_there s.value s.firsts s.places formed.visitable.lent.value_lent.children w stands is_case).is

    inside_stands : Stands s.value inside
    inside_stands = rw inside_is (content_stands s.value s.firsts s.places formed.visitable.lent.value_lent.children w stands is_case)

    inner_is : inner ≡ bound_at (below_at at b at.element)
    inner_is = rw (e₂, e₁)

    pub arm_visitable : b ≤ at.node + 2 + 65535 * case.a → length sc₁ ≡ length sc → Visitable s inner out sc₁
    arm_visitable l lens =
        let e = eight_bytes s.value w case f in
        let below = match_below s.templates at.node formed.is case.a b arm l (omega (arith, e.byte1, f.small 1)) in
        rw inner_is (record {
          lent = formed.visitable.lent;
          near = omega (arith, formed.level, formed.visitable.near, below.near);
          in_body = body_more formed.visitable.in_body below.stands;
          alive = omega (arith, formed.level, formed.visitable.alive);
          stored = omega (arith, formed.visitable.stored, lens);
          held = λ h. rw bound.more (held_more s.value (frame at.frame.base at.frame.vars sc) inside (formed.visitable.held formed.level) inside_stands);
          room = formed.visitable.room;
        })

    pub arm_falls : inner.fuel - inner.steps ≤ at.fuel - at.steps
    arm_falls = rw inner_is (omega arith)

    pub arm_visited : path_value s.templates s.value (frame at.frame.base at.frame.vars sc) (at.node + 1) ≡ some w → {r : Run} {out' sc' : List ℕ}
        → VisitedFrom (visit_at s.grammar s.templates s.value inner out sc₁) inner r out out' sc₁ sc'
        → VisitedFrom (form_at Match s.grammar s.templates s.value at out sc) at r out out' sc sc'
    arm_visited got {r} {out'} {sc'} v =
        let v' : VisitedFrom (visit_at s.grammar s.templates s.value (bound_at (below_at at b at.element)) out sc₁) (bound_at (below_at at b at.element)) r out out' sc₁ sc' = rw inner_is at v in
        let same : frame at.frame.base (at.frame.vars + 1) sc₁ ≡ frame at.frame.base at.frame.vars sc ++ content w ∷ [] = bound.more ∙ rw inside_is in
        record {
          ran = ran_is
              (ap (λ (env : List ℕ). visit (input s.grammar s.templates s.value at.fuel out) (at.left - 1) (piece (element_for s.grammar at.element)) b env (state_of at.steps at.bytes out)) same
              ∙ match_is s.grammar s.templates s.value at.fuel out _ _ at.node _ _ w got _ f.kind k case.a f.a b arm)
              v'.ran;
          kept = take_less (at.frame.base + at.frame.vars) (at.frame.base + (at.frame.vars + 1)) sc' sc₁ (omega arith) v'.kept ∙ bound.kept;
        }
