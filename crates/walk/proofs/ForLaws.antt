-- The turns of a for: its list's items one by one, each the last variable in turn, so many items of its sequence before them. Assumes nothing.
use Prim.Native.Nat.{ℕ, ◌+◌, ◌-◌, ◌≤◌, ◌<◌}
use mathlib.Core.Path.{◌≡◌, refl, sym, ap, ◌∙◌}
use mathlib.Core.List.{List, [], ◌∷◌, ◌++◌}
use mathlib.Core.Option.{some}
use native.Mathlib.Omega.{arith}
use lib.ListN.{length, get_or, drop}
use Rattle.rules.specs.Records.{kind_of, field_d}
use Rattle.rules.specs.Grammar.{nonterminal}
use Rattle.rules.specs.Templates.{path}
use Rattle.rules.specs.Value.{value_size, children}
use Rattle.rules.specs.Answers.{input}
use Rattle.rules.specs.Walk.{State, End, and_then, path_value, Asked, piece, items, separate, visit_item, in_order, listed, items_of, visit}
use Rattle.rules.specs.declared.Form.TheVariants.{For}
use Rattle.laws.specs.Lists.{drop_done, drop_more}
use Rattle.laws.specs.Rows.{length_heads}
use Rattle.stream.specs.Record.{Fetched}
use Rattle.stream.specs.declared.record.Record.{Record}
use Rattle.records.specs.Children.{Stands}
use Rattle.walk.specs.declared.at.At.{At}
use Rattle.walk.specs.declared.separator.Separator.{Separator}
use Rattle.walk.specs.declared.state.Run.{Run}
use Rattle.walk.specs.declared.state.Stop.{Stop}
use Rattle.walk.specs.Run.{stopped_of}
use Rattle.walk.proofs.RunLaws.{stops}
use Rattle.walk.specs.Frames.{frame, Bound}
use Rattle.walk.specs.Run.{state_of, Visited, RanFrom, VisitedFrom}
use Rattle.walk.specs.Nodes.{counted_at, after_at, below_at, bound_at, ended_at, element_for, asked_at, visit_at, filled_at, separate_at, turns_at}
use Rattle.walk.specs.Turns.{Turned}
use Rattle.walk.specs.Asks.{Sources, Visitable, Formed, Listed}
use Rattle.walk.proofs.PathLaws.{held_more, child_there, child_stands}
use Rattle.walk.proofs.FrameLaws.{take_less}
use Rattle.walk.proofs.RunLaws.{visited_ran, ran_is, Going, going_start, going_end, going_stop, going_next, after_after, going_there}
use Rattle.walk.proofs.BodyLaws.{body_more, for_below, count_small}
use Rattle.walk.proofs.AskedLaws.{visit_any}
use Rattle.walk.proofs.SeparatorLaws.{then_then, Apart}
use Rattle.walk.proofs.FormLaws.{order_done, order_more, listed_is, items_listed, for_is, visit_same}
use Rattle.walk.proofs.LoopLaws.{same_frame, formed_after}

-- the definition's visits of the body, in the terms of the start, with an item as the last variable; and of the items that are left
abbrev pub turn : Sources → At → List ℕ → List ℕ → Asked → ℕ → State → End
turn s at out₀ s₀ asked item = visit (input s.grammar s.templates s.value at.fuel out₀) (at.left - 1) asked (at.node + 2) (frame at.frame.base at.frame.vars s₀ ++ item ∷ [])

abbrev pub list_left : Sources → At → List ℕ → List ℕ → Separator → ℕ → List ℕ → State → End
list_left s at out₀ s₀ x =
    in_order (λ w. 1) (λ m w. visit_item (length out₀) (visit (input s.grammar s.templates s.value at.fuel out₀) (at.left - 1)) (filled_at s.grammar x) m (at.node + 2) (frame at.frame.base at.frame.vars s₀ ++ w ∷ []))

pub record InFor (s : Sources) (at : At) (out₀ s₀ : List ℕ) (x : Separator) (before w count : ℕ) (out sc : List ℕ) (here : At) (done : ℕ) : Type 0 where
  pub most : done ≤ count
  pub is : here ≡ after_at at (ended_at 0 here)
  pub going : Going (list_left s at out₀ s₀ x (before + done) (drop done (children s.value w))) (turns_at s.grammar s.templates s.value x before at out₀ s₀) at out₀ s₀ (ended_at 0 here) out sc

module _ {s : Sources} {at : At} {out₀ s₀ : List ℕ} (formed : Formed For s at out₀ s₀) {w count : ℕ} (list : Listed s.templates s.value at s₀ w count) where
  there_listed : listed (input s.grammar s.templates s.value at.fuel out₀) (frame at.frame.base at.frame.vars s₀) at.node ≡ some (children s.value w)
  unfolding path
  there_listed = listed_is s.grammar s.templates s.value at.fuel out₀ at.node _ w list.found list.list

  length_list : length (children s.value w) ≡ count
  unfolding children
  length_list = length_heads (value_size s.value) (field_d s.value w) (w + 1) ∙ sym list.counted

  pub for_brings : items_of (input s.grammar s.templates s.value at.fuel out₀) (frame at.frame.base at.frame.vars s₀) at.node ≡ count
  for_brings = items_listed s.grammar s.templates s.value at.fuel out₀ at.node _ formed.is _ there_listed ∙ length_list

  pub for_start : {x : Separator} {before : ℕ} → InFor s at out₀ s₀ x before w count out₀ s₀ at 0
  for_start {x} {before} =
      let z : before + 0 ≡ before = omega arith in
      record {
        most = omega arith;
        is = refl;
        going = going_start refl formed.visitable.room
            (rw z (for_is s.grammar s.templates s.value at.fuel out₀ at.node _ _ (filled_at s.grammar x) before _ _ there_listed));
      }

  module _ {x : Separator} {before : ℕ} {out sc : List ℕ} {here : At} {done : ℕ} (inv : InFor s at out₀ s₀ x before w count out sc here done) where
    pub for_end : count ≤ done → VisitedFrom (turns_at s.grammar s.templates s.value x before at out₀ s₀) at (ended_at 0 here) out₀ out s₀ sc
    for_end h = (going_end inv.going (λ y. order_done _ _ _ y (drop_done (children s.value w) done (omega (arith, length_list)))))

    module _ (more : done < count) where
      parent : (3 ≤ kind_of s.value w) × (kind_of s.value w ≤ 4)
      parent = (omega (arith, list.list), omega (arith, list.list))

      inside : done < field_d s.value w
      inside = omega (arith, list.counted)

      pub for_there : (w < length s.firsts) × (get_or s.firsts w 0 + done < length s.places)
      for_there = let c = child_there s.value s.firsts s.places formed.visitable.lent.value_lent.children w list.stands parent done inside in (c.head, c.entry)

      rest_is : drop done (children s.value w) ≡ get_or (children s.value w) done 0 ∷ drop (done + 1) (children s.value w)
      rest_is = drop_more (children s.value w) done (omega (arith, length_list))

      -- the separator before the next item
      abbrev turn_rest : State → End
      turn_rest y = and_then (turn s at out₀ s₀ (piece (nonterminal (filled_at s.grammar x).nonterminal)) (get_or (children s.value w) done 0) y)
          (list_left s at out₀ s₀ x (before + (done + 1)) (drop (done + 1) (children s.value w)))

      apart_row : list_left s at out₀ s₀ x (before + done) (drop done (children s.value w)) (state_of here.steps here.bytes out)
          ≡ and_then (separate (length out₀) (filled_at s.grammar x) (before + done) (state_of here.steps here.bytes out)) turn_rest
      unfolding visit_item
      apart_row =
          let e : before + done + 1 ≡ before + (done + 1) = omega arith in
          order_more _ _ (before + done) _ rest_is ∙ rw e (then_then _ _ _)

      pub turn_room : here.bytes ≤ length out
      turn_room = (formed_after formed inv.going).visitable.room

      module _ {u : Run} {out' : List ℕ} (v : RanFrom (separate_at s.grammar x (before + done) here out) here u out out') (len : length out' ≡ length out) where
        apart_visited : Visited (separate (length out₀) (filled_at s.grammar x) (before + done) (state_of here.steps here.bytes out)) here.steps here.bytes u out out' (at.frame.base + at.frame.vars) sc sc
        apart_visited = visited_ran _ sc (rw inv.going.len at v)

        pub for_apart_stop : (u.number ≡ 0 → ⊥) → VisitedFrom (turns_at s.grammar s.templates s.value x before at out₀ s₀) at u out₀ out' s₀ sc
        for_apart_stop z = going_stop inv.going _ apart_row apart_visited len z

      -- past the separator, if one was due
      module _ {past : At} {out' : List ℕ} (apart : Apart s.grammar x (before + done) here out (ended_at 0 past) out') (is-past : past ≡ after_at at (ended_at 0 past)) where
        apart_going : Going turn_rest (turns_at s.grammar s.templates s.value x before at out₀ s₀) at out₀ s₀ (ended_at 0 past) out' sc
        apart_going = going_next inv.going _ apart_row (apart_visited apart.ran apart.len) apart.len refl refl

        -- the item is bound, and the body visited
        module _ (item : ℕ) (is : item ≡ get_or s.places (get_or s.firsts w 0 + done) 0) (sc₁ : List ℕ) (bound : Bound at.frame.base at.frame.vars item sc sc₁) (lens₁ : length sc₁ ≡ length sc)
            {there inner : At} (e₃ : there ≡ below_at past (at.node + 2) 0) (e₄ : inner ≡ bound_at there) where
          item_is : item ≡ get_or (children s.value w) done 0
          item_is = is ∙ (child_there s.value s.firsts s.places formed.visitable.lent.value_lent.children w list.stands parent done inside).is

          item_stands : Stands s.value item
          item_stands = rw item_is (child_stands s.value s.firsts s.places formed.visitable.lent.value_lent.children w list.stands parent done inside)

          stacked : frame at.frame.base (at.frame.vars + 1) sc₁ ≡ frame at.frame.base at.frame.vars s₀ ++ item ∷ []
          stacked = bound.more ∙ ap (λ (l : List ℕ). l ++ item ∷ []) (same_frame formed apart_going)

          inner_is : inner ≡ bound_at (below_at (after_at at (ended_at 0 past)) (at.node + 2) 0)
          inner_is = rw (e₄, e₃) (ap (λ (y : At). bound_at (below_at y (at.node + 2) 0)) is-past)

          pub for_visitable : Visitable s inner out' sc₁
          for_visitable = rw inner_is (record {
            lent = formed.visitable.lent;
            near = omega (arith, formed.level, formed.visitable.near);
            in_body = body_more formed.visitable.in_body (for_below s.templates at.node formed.is).stands;
            alive = omega (arith, formed.level, formed.visitable.alive);
            stored = omega (arith, formed.visitable.stored, apart_going.lens, lens₁);
            held = λ l. rw stacked (held_more s.value (frame at.frame.base at.frame.vars s₀) item (formed.visitable.held formed.level) item_stands);
            room = omega (arith, apart_going.grown.inside, apart_going.len);
          })

          pub for_falls : inner.fuel - inner.steps ≤ at.fuel - at.steps
          for_falls = rw inner_is (omega (arith, apart_going.grown.steps_grow))

          module _ {u : Run} {out'' sc' : List ℕ} (v : VisitedFrom (visit_at s.grammar s.templates s.value inner out' sc₁) inner u out' out'' sc₁ sc') (len : length out'' ≡ length out') where
            there_visited : VisitedFrom (visit_at s.grammar s.templates s.value (bound_at (below_at (after_at at (ended_at 0 past)) (at.node + 2) 0)) out' sc₁) (bound_at (below_at (after_at at (ended_at 0 past)) (at.node + 2) 0)) u out' out'' sc₁ sc'
            there_visited = rw inner_is at v

            for_visited : Visited (turn s at out₀ s₀ (piece (nonterminal (filled_at s.grammar x).nonterminal)) (get_or (children s.value w) done 0) (state_of past.steps past.bytes out')) past.steps past.bytes u out' out'' (at.frame.base + at.frame.vars) sc sc'
            unfolding element_for
            for_visited = rw (← item_is) (record {
              ran = ran_is (visit_any _ _ _ _ _ _ _ ∙ visit_same s.grammar s.templates s.value at.fuel (at.left - 1) _ (at.node + 2) out' out₀ _ _ _ apart_going.len stacked) there_visited.ran;
              kept = take_less (at.frame.base + at.frame.vars) (at.frame.base + (at.frame.vars + 1)) sc' sc₁ (omega arith) there_visited.kept ∙ bound.kept;
            })

            pub for_stop : (u.number ≡ 0 → ⊥) → VisitedFrom (turns_at s.grammar s.templates s.value x before at out₀ s₀) at u out₀ out'' s₀ sc'
            for_stop y = going_stop apart_going _ refl for_visited len y

            pub for_next : u.number ≡ 0 → length sc' ≡ length sc₁ → {onward : At} → onward ≡ after_at past u → InFor s at out₀ s₀ x before w count out'' sc' onward (done + 1)
            for_next y lens e₅ = record {
              most = omega arith;
              is = after_after at past u is-past e₅;
              going = going_there past (going_next apart_going _ refl for_visited len y (lens ∙ lens₁)) e₅;
            }

-- the for as a node of its sequence: a limit ends it or it is stuck, or its list is found

pub turned_over : {g t v : List ℕ} {x : Separator} {before : ℕ} {at : At} {out out' sc sc' : List ℕ} (y : Stop)
    → VisitedFrom (asked_at (items (filled_at g x) before) g t v at out sc) at (stopped_of y) out out' sc sc' → Turned g t v x before at (stopped_of y) 0 out out' sc sc'
turned_over y v = record { visited = v; more = λ z. absurd (stops y.why z); few = omega arith }

pub list_there : {t v : List ℕ} {at : At} {sc : List ℕ} (w : ℕ) → path_value t v (frame at.frame.base at.frame.vars sc) (at.node + 1) ≡ some w → Stands v w
    → {list : Record} → Fetched v w list → list.kind ≡ 3 → Listed t v at sc w list.d
unfolding path
list_there w found stands f k = record { found = found; stands = stands; list = sym f.kind ∙ k; counted = f.d; few = omega (arith, count_small f) }

module _ {s : Sources} (at : At) {here : At} {out sc : List ℕ} (is : here ≡ counted_at at) (formed : Formed For s here out sc) {w count : ℕ} (list : Listed s.templates s.value here sc w count) where
  brought : items_of (input s.grammar s.templates s.value at.fuel out) (frame at.frame.base at.frame.vars sc) at.node ≡ count
  brought = rw is at (for_brings formed list)

  pub turned_whole : {x : Separator} {before : ℕ} {r : Run} {out' sc' : List ℕ}
      → VisitedFrom (asked_at (items (filled_at s.grammar x) before) s.grammar s.templates s.value at out sc) at r out out' sc sc'
      → Turned s.grammar s.templates s.value x before at r (before + count) out out' sc sc'
  turned_whole {before = before} v = record { visited = v; more = λ z. ap (λ (n : ℕ). before + n) (sym brought); few = omega (arith, list.few) }
