-- Laws of the walk's definitions, by the forms of nodes, in step with the code. Assumes nothing.
use Prim.Native.Nat.{ℕ, zero, suc, ◌+◌, ◌-◌, ◌≤◌, ◌<◌}
use mathlib.Core.Path.{◌≡◌, refl, sym, ◌∙◌}
use mathlib.Core.List.{List, [], ◌∷◌, ◌++◌, map}
use mathlib.Core.Bool.{Bool, true, false, cond}
use mathlib.Core.Option.{none, some}
use native.Mathlib.Omega.{arith}
use native.Mathlib.Numerals.{add-one}
use lib.ListN.{length}
use lib.Dec.{eqb, ltb}
use borrow.Author.Tests.{eq-eqb, ne_eqb, eqb-true, eqb-false, lt-ltb, le-ltb, ltb-true, ltb-false}
use Rattle.rules.specs.Records.{kind_of, field_a, field_b, field_c, field_d, text_of, heads, row, nth}
use Rattle.rules.specs.Grammar.{production, Element, nonterminal, element_numbered, element_at, element_heads, element_size, elements}
use Rattle.rules.specs.Escape.{escape}
use Rattle.rules.specs.Templates.{templates, template, body, form_of, is_for, nodes, paths, path, first, second, arms}
use Rattle.rules.specs.Value.{children, content, as_text, as_yes_no, as_list, as_case}
use Rattle.rules.specs.Answers.{input}
use Rattle.rules.specs.Walk.{State, End, done, stuck, and_then, write, path_value, path_values, with_child, pieces, Filled, Asked, piece, items, filled_by, visit_item, in_order, listed, items_of, visit_in, written_for, visit_form, counted, reached, visit}
use Rattle.rules.specs.declared.Form.{Form}
use Rattle.rules.specs.declared.Form.TheVariants.{Build, Literal, Place, Expand, If, For, Sequence, Match, Unknown}
use Rattle.laws.specs.Faults.{on_some, on_none, only_yes, only_no}
use Rattle.laws.specs.Rows.{heads_done, heads_more}
use Rattle.walk.specs.declared.at.At.{At}
use Rattle.walk.specs.Frames.{frame}
use Rattle.walk.specs.Run.{state_of, end_numbered}
use Rattle.walk.specs.Nodes.{element_for, form_at, write_at, place_at}
use Rattle.walk.specs.Marks.{PlaceText}

-- a place

module _ (g t v : List ℕ) (at : At) (out scratch : List ℕ) where
  pub place_lost : path_value t v (frame at.frame.base at.frame.vars scratch) (at.node + 1) ≡ none → place_at g t v at out scratch ≡ stuck
  unfolding place_at path
  place_lost h = on_none stuck _ h

  module _ (w : ℕ) (h : path_value t v (frame at.frame.base at.frame.vars scratch) (at.node + 1) ≡ some w) (k : ℕ) (hk : k ≡ kind_of v w) where
    pub place_other : (k ≡ 1 → ⊥) → place_at g t v at out scratch ≡ stuck
    unfolding place_at path as_text
    place_other o = on_some stuck _ h ∙ on_none stuck _ (only_no _ _ (ne_eqb _ _ (λ e. o (hk ∙ e))))

    module _ (e : k ≡ 1) (n : ℕ) (hn : n ≡ field_b v w) where
      place_writes : (y : List ℕ) → written_for g (piece (element_for g at.element)) (text_of v n w) ≡ y → write_at at y out ≡ place_at g t v at out scratch
      unfolding place_at path as_text
      place_writes y p =
          rw (← p, hn) (sym (on_some stuck _ h ∙ on_some stuck _ (only_yes _ (text_of v (field_b v w) w) (eq-eqb _ _ (sym hk ∙ e)))))

      pub place_text : {b : Bool} → PlaceText g at.element (text_of v n w) b → b ≡ true → write_at at (text_of v n w) out ≡ place_at g t v at out scratch
      place_text p b = place_writes _ (p.is ∙ rw b)

      pub place_escaped : {b : Bool} → PlaceText g at.element (text_of v n w) b → b ≡ false → write_at at (escape (text_of v n w)) out ≡ place_at g t v at out scratch
      place_escaped p b = place_writes _ (p.is ∙ rw b)

pub place_is : (g t v : List ℕ) (at : At) (out scratch : List ℕ) → place_at g t v at out scratch ≡ form_at Place g t v at out scratch
unfolding place_at visit_form input
place_is g t v at out scratch = refl

-- rows of visits, one after the other, n items before the first

module _ (brings : ℕ → ℕ) (one : ℕ → ℕ → State → End) (n : ℕ) (s : State) where
  pub order_done : {xs : List ℕ} → xs ≡ [] → in_order brings one n xs s ≡ done s
  unfolding in_order
  order_done e = rw e

  pub order_more : {xs : List ℕ} {y : ℕ} {ys : List ℕ} → xs ≡ y ∷ ys → in_order brings one n xs s ≡ and_then (one n y s) (in_order brings one (n + brings y) ys)
  unfolding in_order
  order_more e = rw e

-- the pieces of a build: its elements, with the children that are left

module _ (put : List ℕ → State → End) (one : Element → ℕ → State → End) (g t : List ℕ) where
  unfoldable pub pieces_left : ℕ → ℕ → ℕ → ℕ → State → End
  pieces_left n e m c = pieces put one (map (element_at g) (heads (element_size g) n e)) (heads (field_c t) m c)

  module _ (n i e m j c : ℕ) where
    pub pieces_done : n ≤ i → (s : State) → pieces_left (n - i) e (m - j) c s ≡ done s
    unfolding pieces_left pieces
    pieces_done h s = rw (heads_done (element_size g) n i e h)

    other : (a : ℕ) → (a ≡ 0 → ⊥) → (es : List Element) (cs : List ℕ) (s : State)
        → pieces put one (element_numbered g a e ∷ es) cs s ≡ with_child (one (element_numbered g a e)) cs (pieces put one es) s
    unfolding pieces element_numbered
    other zero z es cs s = absurd (z refl)
    other (suc zero) z es cs s = refl
    other (suc (suc zero)) z es cs s = refl
    other (suc (suc (suc zero))) z es cs s = refl
    other (suc (suc (suc (suc zero)))) z es cs s = refl
    other (suc (suc (suc (suc (suc a))))) z es cs s = refl

    -- the next child, if there is one
    with_next : (b : Bool) → ltb j m ≡ b → (visit : ℕ → State → End) (next : List ℕ → State → End) (s : State)
        → with_child visit (heads (field_c t) (m - j) c) next s ≡ and_then (cond b (visit c s) stuck) (next (heads (field_c t) (m - (j + 1)) (c + field_c t c)))
    unfolding with_child and_then
    with_next true h visit next s = rw (heads_more (field_c t) m j c (ltb-true j m h) (field_c t c) refl)
    with_next false h visit next s = rw (heads_done (field_c t) m j c (ltb-false j m h))

    -- one element, and what is left after it: a keyword takes no child
    pub pieces_more : i < n → (b : Bool) → eqb (field_a g e) 0 ≡ b → (s : State)
        → pieces_left (n - i) e (m - j) c s ≡ and_then (cond b (put (text_of g (field_b g e) e) s) (cond (ltb j m) (one (element_at g e) c s) stuck))
        (cond b (pieces_left (n - (i + 1)) (e + element_size g e) (m - j) c) (pieces_left (n - (i + 1)) (e + element_size g e) (m - (j + 1)) (c + field_c t c)))
    unfolding pieces_left pieces element_at element_numbered
    pieces_more h true z s = rw (heads_more (element_size g) n i e h (element_size g e) refl, eqb-true (field_a g e) 0 z)
    pieces_more h false z s =
        let es = map (element_at g) (heads (element_size g) (n - (i + 1)) (e + element_size g e)) in
        rw (heads_more (element_size g) n i e h (element_size g e) refl)
        (other (field_a g e) (λ y. eqb-false _ _ z y) es (heads (field_c t) (m - j) c) s ∙ with_next (ltb j m) refl (one (element_at g e)) (pieces put one es) s)

-- the forms, of whose nodes the code has read what it needs

module _ (g t v : List ℕ) (fuel : ℕ) (out : List ℕ) (self : Asked → ℕ → List ℕ → State → End) (a : Asked) (p : ℕ) (env : List ℕ) (s : State) where
  pub sequence_none : filled_by p a ≡ none → visit_form (input g t v fuel out) Sequence self a p env s ≡ stuck
  unfolding visit_form
  sequence_none h = on_none stuck _ h

  pub sequence_is : (f : Filled) → filled_by p a ≡ some f
      → in_order (items_of (input g t v fuel out) env) (visit_in (input g t v fuel out) self f env) 0 (heads (field_c t) (field_d t p) (p + 1)) s ≡ visit_form (input g t v fuel out) Sequence self a p env s
  unfolding visit_form input nodes
  sequence_is f h = sym (on_some stuck _ h)

  pub literal_is : (n : ℕ) → n ≡ field_b t p → write (length out) p (text_of t n p) s ≡ visit_form (input g t v fuel out) Literal self a p env s
  unfolding visit_form input
  literal_is n h = rw h

  pub unknown_is : visit_form (input g t v fuel out) Unknown self a p env s ≡ stuck
  unfolding visit_form
  unknown_is = refl

  -- a build: q is the production's place
  pub build_none : (n : ℕ) → n ≡ field_b t p → production g n ≡ none → visit_form (input g t v fuel out) Build self a p env s ≡ stuck
  unfolding visit_form input
  build_none n h l = on_none stuck _ (rw (← h) l)

  pub build_is : (n q d m : ℕ) → n ≡ field_b t p → production g n ≡ some q → d ≡ field_d g q → m ≡ field_d t p
      → pieces_left (write (length out) p) (λ e c. self (piece e) c env) g t d (q + 1) m (p + 1) s ≡ visit_form (input g t v fuel out) Build self a p env s
  unfolding visit_form input pieces_left elements element_heads nodes
  build_is n q d m h hq hd hm = sym (on_some {a = q} stuck _ (rw (← h) hq) ∙ rw (hd, hm))

  -- what the path finds
  module _ (lost : path_value t v env (p + 1) ≡ none) where
    pub if_lost : visit_form (input g t v fuel out) If self a p env s ≡ stuck
    unfolding visit_form input path
    if_lost = on_none stuck _ lost

    pub match_lost : visit_form (input g t v fuel out) Match self a p env s ≡ stuck
    unfolding visit_form input path
    match_lost = on_none stuck _ lost

  module _ (w : ℕ) (got : path_value t v env (p + 1) ≡ some w) (k : ℕ) (hk : k ≡ kind_of v w) where
    pub if_other : (k ≡ 2 → ⊥) → visit_form (input g t v fuel out) If self a p env s ≡ stuck
    unfolding visit_form input path as_yes_no
    if_other o = on_some stuck _ got ∙ on_none stuck _ (only_no _ _ (ne_eqb _ _ (λ e. o (hk ∙ e))))

    pub if_is : k ≡ 2 → (y b : ℕ) → y ≡ field_a v w → b ≡ cond (eqb y 1) (first p) (second t p) → self a b env s ≡ visit_form (input g t v fuel out) If self a p env s
    unfolding visit_form input path as_yes_no
    if_is e y b ha hb = sym (on_some stuck _ got ∙ on_some stuck _ (only_yes _ (eqb (field_a v w) 1) (eq-eqb _ _ (sym hk ∙ e))) ∙ rw (← ha, ← hb))

    pub match_other : (k ≡ 5 → ⊥) → visit_form (input g t v fuel out) Match self a p env s ≡ stuck
    unfolding visit_form input path as_case
    match_other o = on_some stuck _ got ∙ on_none stuck _ (only_no _ _ (ne_eqb _ _ (λ e. o (hk ∙ e))))

    -- of a case: y is its number
    module _ (e : k ≡ 5) (y : ℕ) (hy : y ≡ field_a v w) where
      case_is : as_case v w ≡ some (record { number = y; inside = content w })
      unfolding as_case
      case_is = only_yes _ _ (eq-eqb _ _ (sym hk ∙ e)) ∙ rw (← hy)

      pub match_missing : nth (arms t p) y ≡ none → visit_form (input g t v fuel out) Match self a p env s ≡ stuck
      unfolding visit_form input path
      match_missing l = on_some stuck _ got ∙ on_some stuck _ case_is ∙ on_none stuck _ l

      pub match_is : (b : ℕ) → nth (arms t p) y ≡ some b → self a b (env ++ content w ∷ []) s ≡ visit_form (input g t v fuel out) Match self a p env s
      unfolding visit_form input path
      match_is b l = sym (on_some stuck _ got ∙ on_some stuck _ case_is ∙ on_some stuck _ l)

  -- an expand: q is the template's place
  pub expand_none : (ts : List ℕ) (n : ℕ) → ts ≡ templates t → n ≡ field_b t p → nth ts n ≡ none → visit_form (input g t v fuel out) Expand self a p env s ≡ stuck
  unfolding visit_form input template
  expand_none ts n e h l = on_none stuck _ (rw (← e, ← h) l)

  module _ (ts : List ℕ) (n q d : ℕ) (e : ts ≡ templates t) (h : n ≡ field_b t p) (hq : nth ts n ≡ some q) (hd : d ≡ field_d t p) where
    pub expand_lost : path_values t v env (row d (p + 1)) ≡ none → visit_form (input g t v fuel out) Expand self a p env s ≡ stuck
    unfolding visit_form input template paths
    expand_lost l = on_some {a = q} stuck _ (rw (← e, ← h) hq) ∙ on_none stuck _ (rw hd at l)

    pub expand_is : (ws : List ℕ) → path_values t v env (row d (p + 1)) ≡ some ws → (b : ℕ) → b ≡ body t q
        → self (piece (nonterminal (field_b t q))) b ws s ≡ visit_form (input g t v fuel out) Expand self a p env s
    unfolding visit_form input template paths
    expand_is ws l b hb = sym (on_some {a = q} stuck _ (rw (← e, ← h) hq) ∙ on_some stuck _ (rw hd at l) ∙ rw (← hb))

-- a for in its sequence: so many items came before

module _ (g t v : List ℕ) (fuel : ℕ) (out : List ℕ) (p : ℕ) (env : List ℕ) where
  -- it stands in a sequence alone
  pub for_piece : (self : Asked → ℕ → List ℕ → State → End) (e : Element) (s : State) → visit_form (input g t v fuel out) For self (piece e) p env s ≡ stuck
  unfolding visit_form
  for_piece self e s = refl

  pub listed_none : path_value t v env (p + 1) ≡ none → listed (input g t v fuel out) env p ≡ none
  unfolding listed input path
  listed_none lost = on_none none _ lost

  module _ (w : ℕ) (got : path_value t v env (p + 1) ≡ some w) where
    pub listed_other : (kind_of v w ≡ 3 → ⊥) → listed (input g t v fuel out) env p ≡ none
    unfolding listed input path as_list
    listed_other o = on_some none _ got ∙ only_no _ _ (ne_eqb _ _ o)

    pub listed_is : kind_of v w ≡ 3 → listed (input g t v fuel out) env p ≡ some (children v w)
    unfolding listed input path as_list
    listed_is e = on_some none _ got ∙ only_yes _ (children v w) (eq-eqb _ _ e)

  -- how many items it brings
  pub items_listed : form_of t p ≡ For → (ws : List ℕ) → listed (input g t v fuel out) env p ≡ some ws → items_of (input g t v fuel out) env p ≡ length ws
  unfolding items_of is_for input
  items_listed f ws h = rw f (on_some 0 length h)

  module _ (self : Asked → ℕ → List ℕ → State → End) (f : Filled) (n : ℕ) (s : State) where
    pub for_none : listed (input g t v fuel out) env p ≡ none → visit_form (input g t v fuel out) For self (items f n) p env s ≡ stuck
    unfolding visit_form
    for_none h = on_none stuck _ h

    pub for_is : (ws : List ℕ) → listed (input g t v fuel out) env p ≡ some ws
        → in_order (λ w. 1) (λ m w. visit_item (length out) self f m (p + 2) (env ++ w ∷ [])) n ws s ≡ visit_form (input g t v fuel out) For self (items f n) p env s
    unfolding visit_form input first
    for_is ws h = sym (on_some stuck _ h)

-- visits

module _ (g t v : List ℕ) (fuel : ℕ) (out : List ℕ) (a : Asked) (p : ℕ) (env : List ℕ) (steps bytes : ℕ) (out' : List ℕ) where
  pub visit_spent : (left : ℕ) → fuel ≤ steps → end_numbered 10 p (state_of steps bytes out') ≡ visit (input g t v fuel out) left a p env (state_of steps bytes out')
  unfolding end_numbered visit reached input
  visit_spent zero h = sym (rw (le-ltb steps fuel h))
  visit_spent (suc left) h = sym (rw (le-ltb steps fuel h))

  pub visit_deep : (left : ℕ) → steps < fuel → left ≡ 0 → end_numbered 11 p (state_of (steps + 1) bytes out') ≡ visit (input g t v fuel out) left a p env (state_of steps bytes out')
  unfolding end_numbered visit reached input counted
  visit_deep left h e = sym (rw (e, lt-ltb steps fuel h, add-one steps))

  pub visit_form_lem : (left : ℕ) → steps < fuel → (left ≡ 0 → ⊥) → (form : Form) → form_of t p ≡ form
      → visit_form (input g t v fuel out) form (visit (input g t v fuel out) (left - 1)) a p env (state_of (steps + 1) bytes out') ≡ visit (input g t v fuel out) left a p env (state_of steps bytes out')
  unfolding visit reached input counted
  visit_form_lem zero h e form f = absurd (e refl)
  visit_form_lem (suc left) h e form f = let d : suc left - 1 ≡ left = omega arith in rw (d, ← f, lt-ltb steps fuel h, add-one steps)

-- with no level left a visit reads no variable
pub visit_blind : (g t v : List ℕ) (fuel : ℕ) (out : List ℕ) (left : ℕ) (a : Asked) (p : ℕ) (env env' : List ℕ) (s : State) → left ≡ 0
    → visit (input g t v fuel out) left a p env s ≡ visit (input g t v fuel out) left a p env' s
unfolding visit
visit_blind g t v fuel out left a p env env' s e = rw e

-- the same visit, and the same piece, with an output as long and variables that are the same
module _ (g t v : List ℕ) (fuel left : ℕ) (a : Asked) (p : ℕ) (out out₀ : List ℕ) (env env₀ : List ℕ) (s : State) (e : length out ≡ length out₀) (h : env ≡ env₀) where
  pub visit_same : visit (input g t v fuel out) left a p env s ≡ visit (input g t v fuel out₀) left a p env₀ s
  unfolding input
  visit_same = rw (e, h)
