-- The elements of a build, in step with the code: a keyword is written, and the next child visited for any other. Assumes nothing.
use Prim.Native.Nat.{ℕ, ◌+◌, ◌-◌, ◌*◌, ◌≤◌, ◌<◌}
use mathlib.Core.Path.{◌≡◌, refl, sym, ap, ◌∙◌}
use mathlib.Core.List.{List}
use mathlib.Core.Bool.{Bool, true, false, cond}
use mathlib.Core.Option.{some}
use native.Mathlib.Omega.{arith}
use lib.ListN.{length}
use lib.Dec.{eqb, ltb}
use borrow.Author.Tests.{lt-ltb, le-ltb, eq-eqb, ne_eqb}
use Rattle.rules.specs.Records.{field_a, field_b, field_c, text_of}
use Rattle.rules.specs.Grammar.{element_at, production}
use Rattle.rules.specs.Walk.{State, End, stuck, write, piece}
use Rattle.rules.specs.declared.Form.TheVariants.{Build}
use Rattle.stream.specs.Record.{Fetched}
use Rattle.stream.specs.declared.record.Record.{Record}
use Rattle.records.specs.Sizes.{ElementSize}
use Rattle.walk.specs.declared.at.At.{At}
use Rattle.walk.specs.declared.state.Run.{Run}
use Rattle.walk.specs.Run.{state_of, Visited, RanFrom, VisitedFrom}
use Rattle.walk.specs.Nodes.{after_at, below_at, ended_at, visit_at, form_at, write_at}
use Rattle.walk.specs.Asks.{Sources, Visitable, Formed}
use Rattle.walk.proofs.RunLaws.{visited_ran, ran_stuck, Going, going_start, going_end, going_stop, going_next, after_after, going_there}
use Rattle.walk.proofs.BodyLaws.{Along, count_small, along_build, along_below, along_next}
use Rattle.walk.proofs.AskedLaws.{element_there}
use Rattle.walk.proofs.FormLaws.{pieces_left, pieces_done, pieces_more, build_is}
use Rattle.walk.proofs.LoopLaws.{visits, formed_after, below_visitable, below_falls, below_visited}

-- the elements of a build, with the children that are left

abbrev pub build_left : Sources → At → List ℕ → List ℕ → ℕ → ℕ → ℕ → ℕ → State → End
build_left s at out₀ s₀ = pieces_left (write (length out₀) at.node) (λ e. visits s at out₀ s₀ (piece e)) s.grammar s.templates

pub record InBuild (s : Sources) (at : At) (out₀ s₀ : List ℕ) (place count children : ℕ) (out sc : List ℕ) (element child used : ℕ) (here : At) (taken : ℕ) : Type 0 where
  pub along : Along s.templates at.node children child used
  pub place_few : place ≤ 65535
  pub count_few : count ≤ 65535
  pub used_few : used ≤ taken
  pub some : 1 ≤ element
  pub near : element ≤ place + 1 + taken * 8193
  pub is : here ≡ after_at at (ended_at 0 here)
  pub going : Going (build_left s at out₀ s₀ (count - taken) element (children - used) child) (form_at Build s.grammar s.templates s.value at out₀ s₀) at out₀ s₀ (ended_at 0 here) out sc

-- after the element with record e the build goes on behind it
pub record BuildTurn (s : Sources) (at : At) (out₀ s₀ : List ℕ) (place count children : ℕ) (e : Record) (out sc : List ℕ) (element child used : ℕ) (here : At) (r : Run) (taken : ℕ) : Type 0 where
  pub goes : {there : At} → there ≡ after_at here r → (size : ℕ) → ElementSize e size → InBuild s at out₀ s₀ place count children out sc (element + size) child used there (taken + 1)

module _ {s : Sources} {at : At} {out₀ s₀ : List ℕ} (formed : Formed Build s at out₀ s₀) where
  pub build_start : {head first : Record} → Fetched s.templates at.node head → (place : ℕ) → production s.grammar head.b ≡ some place → place < 65536 → Fetched s.grammar place first
      → InBuild s at out₀ s₀ place first.d head.d out₀ s₀ (place + 1) (at.node + 1) 0 at 0
  build_start {head} {first} f place hq l h =
      let a : first.d - 0 ≡ first.d = omega arith in
      let b : head.d - 0 ≡ head.d = omega arith in
      record {
        along = along_build formed.is f;
        place_few = omega arith;
        count_few = omega (arith, count_small h);
        used_few = omega arith;
        some = omega arith;
        near = omega arith;
        is = refl;
        going = going_start refl formed.visitable.room
            (ap (λ (m : ℕ). build_left s at out₀ s₀ m (place + 1) (head.d - 0) (at.node + 1) (state_of at.steps at.bytes out₀)) a
            ∙ ap (λ (m : ℕ). build_left s at out₀ s₀ first.d (place + 1) m (at.node + 1) (state_of at.steps at.bytes out₀)) b
            ∙ build_is s.grammar s.templates s.value at.fuel out₀ _ _ at.node _ _ head.b place first.d head.d f.b hq h.d f.d);
      }

  module _ {place count kids : ℕ} {out sc : List ℕ} {element child used : ℕ} {here : At} {taken : ℕ} (inv : InBuild s at out₀ s₀ place count kids out sc element child used here taken) where
    pub build_end : count ≤ taken → VisitedFrom (form_at Build s.grammar s.templates s.value at out₀ s₀) at (ended_at 0 here) out₀ out s₀ sc
    build_end h = going_end inv.going (pieces_done _ _ s.grammar s.templates count taken element kids used child h)

    module _ (more : taken < count) {e : Record} (f : Fetched s.grammar element e) where
      pub write_asks : here.bytes ≤ length out
      write_asks = (formed_after formed inv.going).visitable.room

      -- either way: what it came to ends the build, or the build goes on
      module _ {b : Bool} (way : eqb (field_a s.grammar element) 0 ≡ b) {u : Run} {out' sc' : List ℕ} (v : Visited
          (cond b (write (length out₀) at.node (text_of s.grammar (field_b s.grammar element) element) (state_of here.steps here.bytes out)) (cond (ltb used kids) (visits s at out₀ s₀ (piece (element_at s.grammar element)) child (state_of here.steps here.bytes out)) stuck))
          here.steps here.bytes u out out' (at.frame.base + at.frame.vars) sc sc') (len : length out' ≡ length out) where
        piece_stop : (u.number ≡ 0 → ⊥) → VisitedFrom (form_at Build s.grammar s.templates s.value at out₀ s₀) at u out₀ out' s₀ sc'
        piece_stop z = going_stop inv.going _ (pieces_more _ _ s.grammar s.templates count taken element kids used child more b way _) v len z

        piece_next : u.number ≡ 0 → length sc' ≡ length sc → (size : ℕ) → ElementSize e size → Going
            (cond b (build_left s at out₀ s₀ (count - (taken + 1)) (element + size) (kids - used) child) (build_left s at out₀ s₀ (count - (taken + 1)) (element + size) (kids - (used + 1)) (child + field_c s.templates child)))
            (form_at Build s.grammar s.templates s.value at out₀ s₀) at out₀ s₀ u out' sc'
        piece_next z lens size hs =
            rw (hs.is s.grammar element f)
            (going_next inv.going _ (pieces_more _ _ s.grammar s.templates count taken element kids used child more b way _) v len z lens)

      -- a keyword
      module _ (k : e.a ≡ 0) {u : Run} {out' : List ℕ} (v : RanFrom (write_at here (text_of s.grammar e.b element) out) here u out out') (len : length out' ≡ length out) where
        is_keyword : eqb (field_a s.grammar element) 0 ≡ true
        is_keyword = eq-eqb _ _ (sym f.a ∙ k)

        written : Visited
            (write (length out₀) at.node (text_of s.grammar (field_b s.grammar element) element) (state_of here.steps here.bytes out))
            here.steps here.bytes u out out' (at.frame.base + at.frame.vars) sc sc
        written = visited_ran _ sc (rw (inv.is, inv.going.len, f.b) at v)

        pub keyword_stop : (u.number ≡ 0 → ⊥) → VisitedFrom (form_at Build s.grammar s.templates s.value at out₀ s₀) at u out₀ out' s₀ sc
        keyword_stop z = piece_stop is_keyword written len z

        pub keyword_turn : u.number ≡ 0 → BuildTurn s at out₀ s₀ place count kids e out' sc element child used here u taken
        keyword_turn z = record {
          goes = λ e₂ size hs. record {
            along = inv.along;
            place_few = inv.place_few;
            count_few = inv.count_few;
            used_few = omega (arith, inv.used_few);
            some = omega (arith, inv.some);
            near = omega (arith, inv.near, hs.small);
            is = after_after at here u inv.is e₂;
            going = going_there here (piece_next is_keyword written len z refl size hs) e₂;
          };
        }

      -- any other: it is stuck where no child is left
      module _ (k : e.a ≡ 0 → ⊥) where
        is_other : eqb (field_a s.grammar element) 0 ≡ false
        is_other = ne_eqb _ _ (λ y. k (f.a ∙ y))

        pub child_missing : kids ≤ used → {u : Run} → u ≡ ended_at 99 here → VisitedFrom (form_at Build s.grammar s.templates s.value at out₀ s₀) at u out₀ out s₀ sc
        child_missing l w =
            piece_stop is_other (visited_ran _ sc (ran_stuck here {out = out} {e = cond (ltb used kids) (visits s at out₀ s₀ (piece (element_at s.grammar element)) child (state_of here.steps here.bytes out)) stuck} write_asks w (rw (le-ltb used kids l)))) refl
            (λ z. let n : 99 ≡ 0 = sym (ap (λ (x : Run). x.number) w) ∙ z in omega arith)

        module _ (l : used < kids) {there : At} (e₂ : there ≡ below_at here child element) where
          pub child_visitable : Visitable s there out sc
          child_visitable = below_visitable formed inv.going inv.is e₂ (along_below inv.along l)

          pub child_falls : there.fuel - there.steps ≤ at.fuel - at.steps
          child_falls = below_falls formed inv.going inv.is e₂

          module _ {u : Run} {out' sc' : List ℕ} (v : VisitedFrom (visit_at s.grammar s.templates s.value there out sc) there u out out' sc sc') (len : length out' ≡ length out) where
            child_visited : Visited (cond (ltb used kids) (visits s at out₀ s₀ (piece (element_at s.grammar element)) child (state_of here.steps here.bytes out)) stuck) here.steps here.bytes u out out' (at.frame.base + at.frame.vars) sc sc'
            child_visited =
                rw (lt-ltb used kids l, ← element_there s.grammar element (λ z. omega (arith, inv.some))) (below_visited formed inv.going inv.is e₂ v)

            pub child_stop : (u.number ≡ 0 → ⊥) → VisitedFrom (form_at Build s.grammar s.templates s.value at out₀ s₀) at u out₀ out' s₀ sc'
            child_stop z = piece_stop is_other child_visited len z

            pub child_turn : u.number ≡ 0 → length sc' ≡ length sc → (records : ℕ) → records ≡ field_c s.templates child → records < 65536
                → BuildTurn s at out₀ s₀ place count kids e out' sc' element (child + records) (used + 1) here u taken
            child_turn z lens records c l = record {
              goes = λ e₃ size hs. record {
                along = along_next inv.along records c l;
                place_few = inv.place_few;
                count_few = inv.count_few;
                used_few = omega (arith, inv.used_few);
                some = omega (arith, inv.some);
                near = omega (arith, inv.near, hs.small);
                is = after_after at here u inv.is e₃;
                going = rw c (going_there here (piece_next is_other child_visited len z lens size hs) e₃);
              };
            }
