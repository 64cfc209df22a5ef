-- The visits that are no loops: a build's piece, an expand's body, an if's branch, and a visit's own form. Assumes nothing.
use Prim.Native.Nat.{ℕ, zero, suc, ◌+◌, ◌-◌, ◌≤◌, ◌<◌}
use mathlib.Core.Path.{◌≡◌, refl, sym, ap, subst, ◌∙◌}
use mathlib.Core.List.{List}
use mathlib.Core.Bool.{Bool, true, false, cond}
use mathlib.Core.Option.{none, some}
use native.Mathlib.Omega.{arith}
use native.Mathlib.Nat.{le_refl}
use lib.ListN.{length}
use lib.Dec.{eqb, ltb}
use borrow.Author.Tests.{ltb-true, lt-ltb}
use Rattle.rules.specs.Faults.{only_if}
use Rattle.rules.specs.Records.{field_b, field_d, row, nth}
use Rattle.rules.specs.Templates.{form_numbered, form_of, body, first, second}
use Rattle.rules.specs.Answers.{input}
use Rattle.rules.specs.Walk.{stuck, path_values, Asked, piece, visit}
use Rattle.rules.specs.declared.Form.{Form}
use Rattle.rules.specs.declared.Form.TheVariants.{Expand, If}
use Rattle.stream.specs.Record.{Fetched}
use Rattle.stream.specs.declared.record.Record.{Record}
use Rattle.records.proofs.NodeLaws.{form_is}
use Rattle.walk.specs.declared.at.At.{At}
use Rattle.walk.specs.declared.state.Run.{Run}
use Rattle.walk.specs.Frames.{frame, Passed}
use Rattle.walk.specs.Run.{state_of, VisitedFrom}
use Rattle.walk.specs.declared.state.Stop.{Stop}
use Rattle.std.specs.Prelude.{Err}
use mathlib.Core.Logic.{inl, inr}
use Rattle.walk.specs.Run.{stopped_of}
use Rattle.walk.specs.Nodes.{Entered, behind_of, counted_at, below_at, framed_at, ended_at, element_for, asked_at, visit_at, form_asked_at, form_at}
use Rattle.walk.specs.Asks.{Sources, Visitable, Formed}
use Rattle.walk.proofs.FrameLaws.{take_less}
use Rattle.walk.proofs.RunLaws.{ran_is, ran_ended, ran_stuck, visited_is, visited_ran, visited_counted}
use Rattle.walk.proofs.BodyLaws.{body_first, body_paths, if_below}
use Rattle.walk.proofs.AskedLaws.{visit_any}
use Rattle.walk.proofs.FormLaws.{expand_none, expand_lost, expand_is, visit_spent, visit_deep, visit_form_lem, visit_blind}
use Rattle.walk.proofs.LoopLaws.{visitable_below}

-- an if: its branch is at b

module _ {s : Sources} {at : At} {out sc : List ℕ} (formed : Formed If s at out sc) {b : ℕ} {there : At} (is : there ≡ below_at at b at.element) where
  pub branch_visitable : (a : ℕ) → b ≡ cond (eqb a 1) (first at.node) (second s.templates at.node) → b ≤ at.node + 65537 → Visitable s there out sc
  branch_visitable a e l = rw is (visitable_below formed b at.element (if_below s.templates at.node formed.is (eqb a 1) b e l))

  pub branch_visited : visit_at s.grammar s.templates s.value (below_at at b at.element) out sc ≡ form_at If s.grammar s.templates s.value at out sc → {r : Run} {out' sc' : List ℕ}
      → VisitedFrom (visit_at s.grammar s.templates s.value there out sc) there r out out' sc sc' → VisitedFrom (form_at If s.grammar s.templates s.value at out sc) at r out out' sc sc'
  branch_visited e v = visited_is e (rw is at v)

pub falls_there : (at : At) {there : At} (node element : ℕ) → there ≡ below_at at node element → there.fuel - there.steps ≤ at.fuel - at.steps
falls_there at node element is = rw is (omega arith)

-- an expand: the template is found, whose body is at b

module _ {s : Sources} {at : At} {out sc : List ℕ} (formed : Formed Expand s at out sc) (n : ℕ) (hn : n ≡ field_b s.templates at.node) where
  pub expand_missing : nth s.template_heads n ≡ none → form_at Expand s.grammar s.templates s.value at out sc ≡ stuck
  expand_missing l = expand_none s.grammar s.templates s.value at.fuel out _ _ at.node _ _ s.template_heads n formed.visitable.lent.templates_are hn l

  module _ {q : ℕ} (found : nth s.template_heads n ≡ some q) (count : ℕ) (hc : count ≡ field_d s.templates at.node) where
    pub count_few : count ≤ 8
    count_few = omega (arith, body_paths formed.visitable.lent.few_paths formed.visitable.in_body formed.is)

    pub expand_room : ltb 1 at.left ≡ true → at.frame.base + at.frame.vars + count ≤ length sc
    expand_room m = let l : 1 < at.left = ltb-true 1 at.left m in omega (arith, count_few, formed.visitable.alive, formed.visitable.stored)

    module _ {r : Bool} {sc₁ : List ℕ} (passed : Passed s.templates s.value at.frame.base at.frame.vars (at.node + 1) count (ltb 1 at.left) r sc sc₁) (lens : length sc₁ ≡ length sc) where
      pub enter_lost : r ≡ false → {u : Run} → u ≡ ended_at 99 at → VisitedFrom (form_at Expand s.grammar s.templates s.value at out sc) at u out out sc sc₁
      unfolding only_if
      enter_lost e w =
          let p : path_values s.templates s.value (frame at.frame.base at.frame.vars sc) (row count (at.node + 1)) ≡ none = passed.is ∙ rw e in
          record {
            ran = ran_stuck at formed.visitable.room w
                (expand_lost s.grammar s.templates s.value at.fuel out _ _ at.node _ _ s.template_heads n _ count formed.visitable.lent.templates_are hn found hc p);
            kept = passed.kept;
          }

      module _ (yes : r ≡ true) (b : ℕ) (hb : b ≡ body s.templates q) {there inner : At} (e₁ : there ≡ below_at at b 0) (e₂ : inner ≡ framed_at there (behind_of at.frame count)) where
        -- a level below has its variables stored
        stored : 1 ≤ at.left - 1 → frame (at.frame.base + at.frame.vars) count sc₁ ≡ passed.values
        stored l = passed.next yes (lt-ltb 1 at.left (omega arith))

        pub enter_visitable : b < 65792 → Visitable s inner out sc₁
        enter_visitable l = rw (e₂, e₁) (record {
          lent = formed.visitable.lent;
          near = omega (arith, formed.level, formed.visitable.near);
          in_body = rw hb (body_first s.templates n q (ap (λ (ts : List ℕ). nth ts n) (sym formed.visitable.lent.templates_are) ∙ found));
          alive = omega (arith, formed.level, count_few, formed.visitable.alive);
          stored = omega (arith, formed.visitable.stored, lens);
          held = λ m. rw (stored m) passed.held;
          room = formed.visitable.room;
        })

        pub enter_falls : inner.fuel - inner.steps ≤ at.fuel - at.steps
        enter_falls = rw (e₂, e₁) (omega arith)

        whole : visit (input s.grammar s.templates s.value at.fuel out) (at.left - 1) (piece (element_for s.grammar 0)) b passed.values (state_of at.steps at.bytes out) ≡ form_at Expand s.grammar s.templates s.value at out sc
        unfolding only_if element_for
        whole =
            visit_any _ _ _ _ _ _ _ ∙ expand_is s.grammar s.templates s.value at.fuel out _ _ at.node _ _ s.template_heads n _ count formed.visitable.lent.templates_are hn found hc
            passed.values (passed.is ∙ rw yes) b hb

        -- the body's visit has the variables that were found, or reads none
        entered : (left : ℕ) → at.left - 1 ≡ left → visit_at s.grammar s.templates s.value (framed_at (below_at at b 0) (behind_of at.frame count)) out sc₁ ≡ form_at Expand s.grammar s.templates s.value at out sc
        entered zero h = visit_blind s.grammar s.templates s.value at.fuel out (at.left - 1) _ b _ passed.values _ h ∙ whole
        entered (suc k) h =
            ap (λ (env : List ℕ). visit (input s.grammar s.templates s.value at.fuel out) (at.left - 1) (piece (element_for s.grammar 0)) b env (state_of at.steps at.bytes out)) (stored (omega (arith, h))) ∙ whole

        pub enter_visited : {u : Run} {out' sc' : List ℕ} → VisitedFrom (visit_at s.grammar s.templates s.value inner out sc₁) inner u out out' sc₁ sc'
            → VisitedFrom (form_at Expand s.grammar s.templates s.value at out sc) at u out out' sc sc'
        enter_visited {u} {out'} {sc'} v =
            let v' : VisitedFrom (visit_at s.grammar s.templates s.value (framed_at (below_at at b 0) (behind_of at.frame count)) out sc₁) (framed_at (below_at at b 0) (behind_of at.frame count)) u out out' sc₁ sc' = rw (e₂, e₁) at v in
            record {
              ran = ran_is (entered (at.left - 1) refl) v'.ran;
              kept = take_less (at.frame.base + at.frame.vars) (at.frame.base + at.frame.vars + count) sc' sc₁ (omega arith) v'.kept ∙ passed.kept;
            }

-- a visit that a limit ends

module _ {s : Sources} {at : At} {out sc : List ℕ} (visitable : Visitable s at out sc) (asked : Asked) where
  pub spent_visited : {r : Run} → at.fuel ≤ at.steps → r ≡ ended_at 10 at → VisitedFrom (asked_at asked s.grammar s.templates s.value at out sc) at r out out sc sc
  spent_visited h w =
      visited_ran _ sc (ran_ended 10 at at.steps visitable.room (le_refl _) w
      (visit_spent s.grammar s.templates s.value at.fuel out asked at.node _ at.steps at.bytes out at.left h))

  -- its step is counted
  module _ (spare : at.steps < at.fuel) {here : At} (is : here ≡ counted_at at) where
    pub deepest_visited : {r : Run} → at.left ≡ 0 → r ≡ ended_at 11 here → VisitedFrom (asked_at asked s.grammar s.templates s.value at out sc) at r out out sc sc
    deepest_visited e w =
        visited_ran _ sc (ran_ended 11 (counted_at at) at.steps visitable.room (omega arith) (w ∙ rw is)
        (visit_deep s.grammar s.templates s.value at.fuel out asked at.node _ at.steps at.bytes out at.left spare e))

    module _ (level : 1 ≤ at.left) {form : Form} (f : form_of s.templates at.node ≡ form) where
      pub form_asked : {u : Run} {out' sc' : List ℕ} → VisitedFrom (form_asked_at form asked s.grammar s.templates s.value here out sc) here u out out' sc sc'
          → VisitedFrom (asked_at asked s.grammar s.templates s.value at out sc) at u out out' sc sc'
      form_asked v =
          visited_counted (visited_is (visit_form_lem s.grammar s.templates s.value at.fuel out asked at.node _ at.steps at.bytes out at.left spare (λ z. omega arith) form f) (rw is at v))

  pub stopped_visited : (x : Stop) → Entered at (Err x) → VisitedFrom (asked_at asked s.grammar s.templates s.value at out sc) at (stopped_of x) out out sc sc
  stopped_visited x (inl h) = spent_visited h.1 (ap stopped_of h.0)
  stopped_visited x (inr h) = deepest_visited h.1 refl h.2 (ap stopped_of h.0)

module _ {s : Sources} {at : At} {out sc : List ℕ} (visitable : Visitable s at out sc) (spare : at.steps < at.fuel) {here : At} (is : here ≡ counted_at at) where
  pub form_falls : here.fuel - here.steps < at.fuel - at.steps
  form_falls = rw is (omega arith)

  -- the node's form, by the head that is fetched where its step is counted
  pub form_here : {head : Record} → Fetched s.templates here.node head → (form : Form) → form ≡ form_numbered head.a → form_of s.templates at.node ≡ form
  form_here {head} f form e = sym (form_is s.templates at.node head (rw is at f) form e)

  module _ (level : 1 ≤ at.left) {form : Form} (f : form_of s.templates at.node ≡ form) where
    pub form_formed : Formed form s here out sc
    form_formed = rw is (record {
      is = f;
      level = omega arith;
      visitable = record {
        lent = visitable.lent;
        near = visitable.near;
        in_body = visitable.in_body;
        alive = visitable.alive;
        stored = visitable.stored;
        held = visitable.held;
        room = visitable.room;
      };
    })

    pub form_visited : {u : Run} {out' sc' : List ℕ} → VisitedFrom (form_at form s.grammar s.templates s.value here out sc) here u out out' sc sc'
        → VisitedFrom (visit_at s.grammar s.templates s.value at out sc) at u out out' sc sc'
    form_visited {u} {out'} {sc'} v =
        let e : here.element ≡ at.element = rw is in
        form_asked visitable _ spare is level f
        (subst (λ (n : ℕ). VisitedFrom (form_asked_at form (piece (element_for s.grammar n)) s.grammar s.templates s.value here out sc) here u out out' sc sc') e v)
