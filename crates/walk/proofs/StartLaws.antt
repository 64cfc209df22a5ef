-- The whole walk: its first visit, of template 0's body with the value as its one variable, and what it leaves. Assumes nothing.
use Prim.Native.Nat.{ℕ, ◌≤◌, ◌<◌}
use mathlib.Core.Path.{◌≡◌, refl, sym, ap, ◌∙◌}
use mathlib.Core.List.{List, [], ◌++◌}
use mathlib.Core.Option.{none, some}
use native.Mathlib.Omega.{arith}
use lib.ListN.{length, take, drop, replicate, take-append-drop}
use Rattle.rules.specs.Records.{nth}
use Rattle.rules.specs.Templates.{templates, template, body}
use Rattle.rules.specs.Limits.{deepest}
use Rattle.rules.specs.Answers.{input, scratch_needed}
use Rattle.rules.specs.Walk.{stuck, start, walk}
use Rattle.laws.specs.Faults.{on_none, on_some}
use Rattle.records.specs.Children.{whole}
use Rattle.walk.specs.declared.at.At.{At}
use Rattle.walk.specs.declared.state.Run.{Run}
use Rattle.walk.specs.Frames.{Bound}
use Rattle.walk.specs.Run.{Grown, Ran, VisitedFrom, Walked}
use Rattle.walk.specs.Nodes.{start_at, ended_at, element_for, visit_at}
use Rattle.walk.specs.Asks.{Sources, Walkable, Visitable, most_stored}
use Rattle.walk.proofs.PathLaws.{held_none, held_more}
use Rattle.walk.proofs.RunLaws.{ran_is, ran_stuck}
use Rattle.walk.proofs.BodyLaws.{body_first}
use Rattle.walk.proofs.AskedLaws.{visit_any}

-- what a run leaves: its text, then the output as it was
left_output : (steps bytes : ℕ) (r : Run) (out out' : List ℕ) → Grown steps bytes r out out' → out' ≡ take r.bytes out' ++ drop r.bytes out
left_output steps bytes r out out' g = sym (take-append-drop r.bytes out') ∙ ap (λ (l : List ℕ). take r.bytes out' ++ l) g.rest

ran_walked : {g t v : List ℕ} {fuel : ℕ} {r : Run} {out out' sc sc' : List ℕ} (sc₁ : List ℕ) → Ran (walk (input g t v fuel out)) 0 0 r out out'
    → length sc₁ ≡ length sc → sc' ≡ replicate (length sc₁) 0 → Walked g t v fuel r out out' sc sc'
ran_walked {r = r} {out = out} {out' = out'} sc₁ ran lens zeros = record {
  meets = ran.meets;
  inside = ran.grown.inside;
  output = left_output 0 0 r out out' ran.grown;
  cleared = zeros ∙ ap (λ (n : ℕ). replicate n 0) lens;
}

module _ {s : Sources} {sc : List ℕ} (walkable : Walkable s sc) where
  pub scratch_room : most_stored ≤ length sc
  unfolding scratch_needed deepest
  scratch_room = omega (arith, walkable.scratch_lent)

  pub start_missing : {fuel : ℕ} {r : Run} {out sc' : List ℕ} {at : At} → nth s.template_heads 0 ≡ none → at ≡ start_at 0 fuel → r ≡ ended_at 99 at → sc' ≡ replicate (length sc) 0
      → Walked s.grammar s.templates s.value fuel r out out sc sc'
  unfolding walk template input
  start_missing {fuel = fuel} {out = out} h e w zeros =
      ran_walked sc
      (ran_stuck (start_at 0 fuel) (omega arith) (w ∙ rw e) (on_none stuck _ (rw (← walkable.lent.templates_are) h)))
      refl zeros

  -- the body of template 0 is at b
  module _ {q : ℕ} (first : nth s.template_heads 0 ≡ some q) (b : ℕ) (hb : b ≡ body s.templates q) {sc₁ : List ℕ} (bound : Bound 0 0 0 sc sc₁) (lens : length sc₁ ≡ length sc) (fuel : ℕ)
      {at : At} (is : at ≡ start_at b fuel) where
    found : nth (templates s.templates) 0 ≡ some q
    found = ap (λ (l : List ℕ). nth l 0) (sym walkable.lent.templates_are) ∙ first

    pub start_visitable : b < 65792 → (out : List ℕ) → Visitable s at out sc₁
    start_visitable l out = rw is (record {
      lent = walkable.lent;
      near = omega arith;
      in_body = rw hb (body_first s.templates 0 q found);
      alive = omega arith;
      stored = omega (arith, scratch_room, lens);
      held = λ m. rw bound.more (held_more s.value [] 0 (held_none s.value) whole);
      room = omega arith;
    })

    walk_is : (out : List ℕ) → visit_at s.grammar s.templates s.value (start_at b fuel) out sc₁ ≡ walk (input s.grammar s.templates s.value fuel out)
    unfolding walk template input deepest start element_for
    walk_is out = rw (bound.more, hb) (visit_any _ _ _ _ _ _ _ ∙ sym (on_some stuck _ found))

    pub start_walked : {r : Run} {out out' sc₂ sc' : List ℕ} → VisitedFrom (visit_at s.grammar s.templates s.value at out sc₁) at r out out' sc₁ sc₂
        → length sc₂ ≡ length sc₁ → sc' ≡ replicate (length sc₂) 0 → Walked s.grammar s.templates s.value fuel r out out' sc sc'
    start_walked {r = r} {out = out} {out' = out'} {sc₂ = sc₂} v l zeros =
        let v' : VisitedFrom (visit_at s.grammar s.templates s.value (start_at b fuel) out sc₁) (start_at b fuel) r out out' sc₁ sc₂ = rw is at v in
        ran_walked sc₂ (ran_is (walk_is out) v'.ran) (l ∙ lens) zeros
