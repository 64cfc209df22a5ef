-- The loops of the walk: what they keep from turn to turn, and what the visit of a turn is lent. Assumes nothing.
use Prim.Native.Nat.{ℕ, zero, suc, ◌+◌, ◌-◌, ◌*◌, ◌≤◌, ◌<◌, ◌^◌}
use mathlib.Core.Path.{◌≡◌, refl, ap, subst, ◌∙◌}
use mathlib.Core.List.{List}
use mathlib.Core.Bool.{true, false}
use native.Mathlib.Omega.{arith}
use lib.ListN.{length}
use Rattle.rules.specs.Records.{field_c, heads}
use Rattle.rules.specs.Grammar.{nonterminal}
use Rattle.rules.specs.Templates.{form_numbered, form_of, is_for}
use Rattle.rules.specs.Answers.{input}
use Rattle.rules.specs.Walk
use Rattle.rules.specs.Walk.{State, End, and_then, Asked, piece, separate, visit_item, in_order, listed, items_of, visit_in, visit}
use Rattle.rules.specs.declared.Form.{Form}
use Rattle.rules.specs.declared.Form.TheVariants.{For, Sequence}
use Rattle.laws.specs.Rows.{heads_done, heads_more, heads_all}
use Rattle.stream.specs.Record.{Fetched}
use Rattle.stream.specs.declared.record.Record.{Record}
use Rattle.walk.specs.declared.at.At.{At}
use Rattle.walk.specs.declared.separator.Separator.{Separator}
use Rattle.walk.specs.declared.state.Run.{Run}
use Rattle.walk.specs.Bodies.{NodeBelow}
use Rattle.walk.specs.Frames.{frame}
use Rattle.walk.specs.Run.{state_of, Visited, RanFrom, VisitedFrom}
use Rattle.walk.specs.Nodes.{after_at, below_at, ended_at, element_for, asked_at, visit_at, form_at, filled_at, fills_at, Between, separate_at}
use Rattle.walk.specs.Turns.{Turned}
use Rattle.walk.specs.Asks.{Sources, Follows, Visitable, Formed}
use Rattle.walk.proofs.FrameLaws.{frame_kept}
use Rattle.walk.proofs.RunLaws.{visited_is, visited_ran, visited_stuck, Going, going_start, going_end, going_stop, going_next, after_after, going_there}
use Rattle.walk.proofs.BodyLaws.{body_more, Along, size_small, along_sequence, along_below, along_next}
use Rattle.walk.proofs.AskedLaws.{visit_any, fills_no, fills_yes}
use Rattle.walk.proofs.SeparatorLaws.{then_then, Apart}
use Rattle.walk.proofs.FormLaws.{order_done, order_more, sequence_none, sequence_is, visit_same}

module _ {form : Form} {s : Sources} {at : At} {out sc : List ℕ} (formed : Formed form s at out sc) where
  pub vars_inside : at.frame.base + at.frame.vars < length sc
  vars_inside = omega (arith, formed.level, formed.visitable.alive, formed.visitable.stored)

  pub follows : Follows s.templates s.value s.firsts s.places at.frame.base at.frame.vars sc
  follows = record {
    sized = formed.visitable.lent.templates_sized;
    value_lent = formed.visitable.lent.value_lent;
    inside = omega (arith, vars_inside);
    held = formed.visitable.held formed.level;
  }

  -- a node below, with the same variables
  pub visitable_below : (child element : ℕ) → NodeBelow s.templates at.node child → Visitable s (below_at at child element) out sc
  visitable_below child element b = record {
    lent = formed.visitable.lent;
    near = omega (arith, formed.level, formed.visitable.near, b.near);
    in_body = body_more formed.visitable.in_body b.stands;
    alive = omega (arith, formed.visitable.alive);
    stored = formed.visitable.stored;
    held = λ l. formed.visitable.held formed.level;
    room = formed.visitable.room;
  }

-- the definition's visits of the nodes below, in the terms of the start
abbrev pub visits : Sources → At → List ℕ → List ℕ → Asked → ℕ → State → End
visits s at out₀ s₀ asked node = visit (input s.grammar s.templates s.value at.fuel out₀) (at.left - 1) asked node (frame at.frame.base at.frame.vars s₀)

-- after the run so far
module _ {form : Form} {s : Sources} {at : At} {out₀ s₀ : List ℕ} (formed : Formed form s at out₀ s₀)
    {rest : State → End} {whole : End} {r : Run} {out sc : List ℕ} (inv : Going rest whole at out₀ s₀ r out sc) where
  pub same_frame : frame at.frame.base at.frame.vars sc ≡ frame at.frame.base at.frame.vars s₀
  same_frame = frame_kept at.frame.base at.frame.vars s₀ sc (omega (arith, vars_inside formed)) inv.lens inv.kept

  pub formed_after : Formed form s (after_at at r) out sc
  formed_after = record {
    is = formed.is;
    level = formed.level;
    visitable = record {
      lent = formed.visitable.lent;
      near = formed.visitable.near;
      in_body = formed.visitable.in_body;
      alive = formed.visitable.alive;
      stored = omega (arith, formed.visitable.stored, inv.lens);
      held = λ l. rw same_frame (formed.visitable.held l);
      room = omega (arith, inv.grown.inside, inv.len);
    };
  }

  -- a node below, and what its visit comes to
  module _ {node element : ℕ} {here there : At} (e₁ : here ≡ after_at at r) (e₂ : there ≡ below_at here node element) where
    pub below_visitable : NodeBelow s.templates at.node node → Visitable s there out sc
    below_visitable b = rw (e₂, e₁) (visitable_below formed_after node element b)

    pub below_falls : there.fuel - there.steps ≤ at.fuel - at.steps
    below_falls = rw (e₂, e₁) (omega (arith, inv.grown.steps_grow))

    pub below_node : there.node ≡ node
    below_node = rw e₂

    pub asked_visited : (asked : Asked) {u : Run} {out' sc' : List ℕ} → VisitedFrom (asked_at asked s.grammar s.templates s.value there out sc) there u out out' sc sc'
        → Visited (visits s at out₀ s₀ asked node (state_of r.steps r.bytes out)) r.steps r.bytes u out out' (at.frame.base + at.frame.vars) sc sc'
    asked_visited asked v = visited_is (visit_same s.grammar s.templates s.value at.fuel (at.left - 1) asked node out out₀ _ _ _ inv.len same_frame) (rw (e₂, e₁) at v)

    pub below_visited : {u : Run} {out' sc' : List ℕ} → VisitedFrom (visit_at s.grammar s.templates s.value there out sc) there u out out' sc sc'
        → Visited (visits s at out₀ s₀ (piece (element_for s.grammar element)) node (state_of r.steps r.bytes out)) r.steps r.bytes u out out' (at.frame.base + at.frame.vars) sc sc'
    below_visited {u} {out'} {sc'} v =
        let e : there.element ≡ element = rw e₂ in
        asked_visited _ (subst (λ (n : ℕ). VisitedFrom (asked_at (piece (element_for s.grammar n)) s.grammar s.templates s.value there out sc) there u out out' sc sc') e v)

-- a record's form is that of a for, or is not

pub is_for_lem : {t : List ℕ} {p : ℕ} {r : Record} → Fetched t p r → r.a ≡ 5 → form_of t p ≡ For
unfolding form_of form_numbered
is_for_lem f e = rw (← f.a, e)

other_form : (a : ℕ) → (a ≡ 5 → ⊥) → is_for (form_numbered a) ≡ false
unfolding is_for form_numbered
other_form zero h = refl
other_form (suc zero) h = refl
other_form (suc (suc zero)) h = refl
other_form (suc (suc (suc zero))) h = refl
other_form (suc (suc (suc (suc zero)))) h = refl
other_form (suc (suc (suc (suc (suc zero))))) h = absurd (h refl)
other_form (suc (suc (suc (suc (suc (suc zero)))))) h = refl
other_form (suc (suc (suc (suc (suc (suc (suc zero))))))) h = refl
other_form (suc (suc (suc (suc (suc (suc (suc (suc a)))))))) h = refl

not_for : {t : List ℕ} {p : ℕ} {r : Record} → Fetched t p r → (r.a ≡ 5 → ⊥) → is_for (form_of t p) ≡ false
unfolding form_of
not_for f h = other_form _ (λ e. h (f.a ∙ e))

-- the nodes of a sequence, so many items before them

abbrev pub items_left : Sources → At → List ℕ → List ℕ → Separator → ℕ → List ℕ → State → End
items_left s at out₀ s₀ x =
    let i = input s.grammar s.templates s.value at.fuel out₀ in
    let env = frame at.frame.base at.frame.vars s₀ in
    in_order (items_of i env) (visit_in i (visit i (at.left - 1)) (filled_at s.grammar x) env)

pub record InSequence (s : Sources) (at : At) (out₀ s₀ : List ℕ) (x : Separator) (count : ℕ) (out sc : List ℕ) (item items : ℕ) (here : At) (visited : ℕ) : Type 0 where
  pub along : Along s.templates at.node count item visited
  pub few : items ≤ visited * 65535
  pub is : here ≡ after_at at (ended_at 0 here)
  pub going : Going (items_left s at out₀ s₀ x items (heads (field_c s.templates) (count - visited) item)) (form_at Sequence s.grammar s.templates s.value at out₀ s₀) at out₀ s₀ (ended_at 0 here) out sc

module _ {s : Sources} {at : At} {out₀ s₀ : List ℕ} (formed : Formed Sequence s at out₀ s₀) where
  pub sequence_lost : {e : Record} → Fetched s.grammar at.element e → fills_at at.element e ≡ false → {r : Run} → r ≡ ended_at 99 at
      → VisitedFrom (form_at Sequence s.grammar s.templates s.value at out₀ s₀) at r out₀ out₀ s₀ s₀
  sequence_lost f h w =
      visited_stuck at formed.visitable.room w
      (sequence_none s.grammar s.templates s.value at.fuel out₀ _ _ at.node _ _ (fills_no s.grammar at f h))

  pub sequence_start : {e head : Record} {x : Separator} → Fetched s.grammar at.element e → fills_at at.element e ≡ true → Between at e x
      → Fetched s.templates at.node head → InSequence s at out₀ s₀ x head.d out₀ s₀ (at.node + 1) 0 at 0
  sequence_start {head = head} {x = x} fe h between f = record {
    along = along_sequence formed.is f;
    few = omega arith;
    is = refl;
    going = going_start refl formed.visitable.room
        (heads_all (λ xs. items_left s at out₀ s₀ x 0 xs (state_of at.steps at.bytes out₀)) (field_c s.templates) head.d (at.node + 1) f.d
        ∙ sequence_is s.grammar s.templates s.value at.fuel out₀ _ _ at.node _ _ (filled_at s.grammar x) (fills_yes s.grammar at fe x between h));
  }

  module _ {x : Separator} {count : ℕ} {out sc : List ℕ} {item items : ℕ} {here : At} {visited : ℕ} (inv : InSequence s at out₀ s₀ x count out sc item items here visited) where
    pub sequence_end : count ≤ visited → VisitedFrom (form_at Sequence s.grammar s.templates s.value at out₀ s₀) at (ended_at 0 here) out₀ out s₀ sc
    sequence_end h = going_end inv.going (λ y. order_done _ _ _ y (heads_done (field_c s.templates) count visited item h))

    pub items_few : visited < count → items < 2 ^ 32
    items_few h = omega (arith, inv.few, inv.along.few)

    module _ (more : visited < count) {next : Record} (f : Fetched s.templates item next) where
      -- one node of the sequence, and the nodes after it
      abbrev nodes_after : ℕ → State → End
      nodes_after n = items_left s at out₀ s₀ x n (heads (field_c s.templates) (count - (visited + 1)) (item + next.c))

      abbrev brings : ℕ
      brings = items_of (input s.grammar s.templates s.value at.fuel out₀) (frame at.frame.base at.frame.vars s₀) item

      row_more : {e : End} (y : State) → visit_in (input s.grammar s.templates s.value at.fuel out₀) (visit (input s.grammar s.templates s.value at.fuel out₀) (at.left - 1)) (filled_at s.grammar x) (frame at.frame.base at.frame.vars s₀) items item y ≡ e
          → items_left s at out₀ s₀ x items (heads (field_c s.templates) (count - visited) item) y ≡ and_then e (nodes_after (items + brings))
      row_more y way = order_more _ _ items y (heads_more (field_c s.templates) count visited item more next.c f.c) ∙ ap (λ (e : End). and_then e (nodes_after (items + brings))) way

      pub sequence_along : Along s.templates at.node count (item + next.c) (visited + 1)
      sequence_along = along_next inv.along next.c f.c (size_small f)

      pub item_below : NodeBelow s.templates at.node item
      item_below = along_below inv.along more

      -- a for among them
      module _ (k : next.a ≡ 5) {there : At} (e₂ : there ≡ below_at here item 0) where
        pub turns_visitable : Visitable s there out sc
        turns_visitable = below_visitable formed inv.going inv.is e₂ item_below

        pub turns_for : form_of s.templates there.node ≡ For
        turns_for = rw (below_node formed inv.going inv.is e₂) (is_for_lem f k)

        pub turns_falls : there.fuel - there.steps ≤ at.fuel - at.steps
        turns_falls = below_falls formed inv.going inv.is e₂

        abbrev as_for : Asked
        as_for = Walk.items (filled_at s.grammar x) items

        turns_row : (y : State) → items_left s at out₀ s₀ x items (heads (field_c s.templates) (count - visited) item) y
            ≡ and_then (visits s at out₀ s₀ as_for item y) (nodes_after (items + brings))
        unfolding visit_in is_for input
        turns_row y = row_more y (rw (is_for_lem f k))

        module _ {u : Run} {had : ℕ} {out' sc' : List ℕ} (v : Turned s.grammar s.templates s.value x items there u had out out' sc sc') (len : length out' ≡ length out) where
          turns_visited : Visited (visits s at out₀ s₀ as_for item (state_of here.steps here.bytes out)) here.steps here.bytes u out out' (at.frame.base + at.frame.vars) sc sc'
          turns_visited = asked_visited formed inv.going inv.is e₂ _ v.visited

          pub turns_stop : (u.number ≡ 0 → ⊥) → VisitedFrom (form_at Sequence s.grammar s.templates s.value at out₀ s₀) at u out₀ out' s₀ sc'
          turns_stop z = going_stop inv.going _ (turns_row _) turns_visited len z

          -- how many it brings does not hang on the output
          brought : u.number ≡ 0 → had ≡ items + brings
          unfolding items_of listed input
          brought z = rw (← same_frame formed inv.going) (rw (e₂, inv.is) at (v.more z))

          pub turns_next : u.number ≡ 0 → length sc' ≡ length sc → {onward : At} → onward ≡ after_at here u → InSequence s at out₀ s₀ x count out' sc' (item + next.c) had onward (visited + 1)
          turns_next z lens e = record {
            along = sequence_along;
            few = omega (arith, inv.few, v.few);
            is = after_after at here u inv.is e;
            going = rw (brought z) (going_there here (going_next inv.going _ (turns_row _) turns_visited len z lens) e);
          }

      -- any other node is one item
      module _ (k : next.a ≡ 5 → ⊥) where
        abbrev item_rest : State → End
        item_rest y = and_then (visits s at out₀ s₀ (piece (nonterminal (filled_at s.grammar x).nonterminal)) item y) (nodes_after (items + 1))

        apart_row : items_left s at out₀ s₀ x items (heads (field_c s.templates) (count - visited) item) (state_of here.steps here.bytes out)
            ≡ and_then (separate (length out₀) (filled_at s.grammar x) items (state_of here.steps here.bytes out)) item_rest
        unfolding visit_in visit_item items_of input
        apart_row = row_more _ refl ∙ rw (not_for f k) (then_then _ _ _)

        pub apart_room : here.bytes ≤ length out
        apart_room = (formed_after formed inv.going).visitable.room

        -- the separator before it
        module _ {u : Run} {out₁ : List ℕ} (v : RanFrom (separate_at s.grammar x items here out) here u out out₁) (len : length out₁ ≡ length out) where
          apart_visited : Visited (separate (length out₀) (filled_at s.grammar x) items (state_of here.steps here.bytes out)) here.steps here.bytes u out out₁ (at.frame.base + at.frame.vars) sc sc
          apart_visited = visited_ran _ sc (rw inv.going.len at v)

          pub apart_stop : (u.number ≡ 0 → ⊥) → VisitedFrom (form_at Sequence s.grammar s.templates s.value at out₀ s₀) at u out₀ out₁ s₀ sc
          apart_stop z = going_stop inv.going _ apart_row apart_visited len z

        -- past it, if one was due
        module _ {past : At} {out' : List ℕ} (apart : Apart s.grammar x items here out (ended_at 0 past) out') (is-past : past ≡ after_at at (ended_at 0 past)) where
          apart_going : Going item_rest (form_at Sequence s.grammar s.templates s.value at out₀ s₀) at out₀ s₀ (ended_at 0 past) out' sc
          apart_going = going_next inv.going _ apart_row (apart_visited apart.ran apart.len) apart.len refl refl

          module _ {there : At} (e₃ : there ≡ below_at past item 0) where
            pub item_visitable : Visitable s there out' sc
            item_visitable = below_visitable formed apart_going is-past e₃ item_below

            pub item_falls : there.fuel - there.steps ≤ at.fuel - at.steps
            item_falls = below_falls formed apart_going is-past e₃

            module _ {w : Run} {out'' sc' : List ℕ} (v : VisitedFrom (visit_at s.grammar s.templates s.value there out' sc) there w out' out'' sc sc') (len : length out'' ≡ length out') where
              item_visited : Visited (visits s at out₀ s₀ (piece (nonterminal (filled_at s.grammar x).nonterminal)) item (state_of past.steps past.bytes out')) past.steps past.bytes w out' out'' (at.frame.base + at.frame.vars) sc sc'
              unfolding element_for
              item_visited = visited_is (visit_any _ _ _ _ _ _ _) (below_visited formed apart_going is-past e₃ v)

              pub item_stop : (w.number ≡ 0 → ⊥) → VisitedFrom (form_at Sequence s.grammar s.templates s.value at out₀ s₀) at w out₀ out'' s₀ sc'
              item_stop y = going_stop apart_going _ refl item_visited len y

              pub item_next : w.number ≡ 0 → length sc' ≡ length sc → {onward : At} → onward ≡ after_at past w → InSequence s at out₀ s₀ x count out'' sc' (item + next.c) (items + 1) onward (visited + 1)
              item_next y lens e = record {
                along = sequence_along;
                few = omega (arith, inv.few);
                is = after_after at past w is-past e;
                going = going_there past (going_next apart_going _ refl item_visited len y lens) e;
              }
