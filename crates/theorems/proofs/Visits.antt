-- One law for all that holds of every visit: two walks of one set and value, with other fuel and room, visit the same nodes in step, until one
-- of them ends. What holds of the ways in which a visit is put together holds of both walks.
-- Goes on from specs/Visits.antt: what rests on definitions that a must-fail edit changes.
use Rattle.std.specs.Prelude.{◌≡◌, Bool, cond}
use Rattle.std.proofs.Math.Path.{refl, subst}
use Rattle.std.proofs.Common.{sym, add-zero, zero-add, add_assoc}
use Rattle.std.proofs.Math.Logic.{inl, inr}
use Prim.Native.Nat.{ℕ, zero, suc, ◌+◌, ◌≤◌, ◌<◌}
use mathlib.Core.List.{List, [], ◌∷◌, ◌++◌}
use Rattle.std.proofs.Math.Bool.{true, false}
use Rattle.std.proofs.Math.Option.{Option, none, some}
use native.Mathlib.Omega.{arith}
use Rattle.std.proofs.Math.ListN.{length}
use Rattle.rules.specs.Faults.{on_found}
use Rattle.rules.specs.Records.{nth}
use Rattle.rules.specs.Grammar.{Element, keyword, lexeme, nonterminal, repetition, unknown}
use Rattle.rules.specs.Templates.{form_of, nodes, path, first, second, arms}
use Rattle.rules.specs.Value.{as_yes_no, Case, as_case}
use Rattle.rules.specs.Limits.{deepest}
use Rattle.rules.specs.Walk.{Input, State, start, End, done, ended, stuck, and_then, path_value, with_child, pieces, Filled, Asked, piece, items}
use Rattle.rules.specs.Walk.{separate, visit_item, in_order, listed, items_of, visit_in, visit_form, visit, walk}
use Rattle.rules.specs.declared.Form.{Form}
use Rattle.rules.specs.declared.Form.TheVariants.{Build, Literal, Place, Expand, If, For, Sequence, Match, Unknown}
use Rattle.rules.specs.declared.Position.{Position}
use Rattle.laws.specs.Faults.{In, here, later}
use Rattle.theorems.specs.Children.{Asks, asks_a_class, asks_a_nonterminal, asks_a_repetition, asks_nothing, ChildFor, this_child, past_keyword, past_child}
use Rattle.theorems.specs.Ends.{reached_done}
use Rattle.theorems.specs.Finds.{Finds, text_is, yes_is, no_is, finds_exactly, finds_all_exactly, case_is}
use Rattle.theorems.proofs.Places.{place_text}
use Rattle.theorems.specs.Handed.{IsFor, a_for as is-a-for, no_for, is_for_lem, filled_by_lem, listed_is, for_visited, brings_items}
use Rattle.theorems.specs.Levels.{NodeAfter, first_node, later_node, ItemAfter, by_node, by_turn, filling}
use Rattle.theorems.specs.Levels.{Under, a_child, a_body, on_yes, on_no, a_turn, an_item, a_for, an_arm, root_body, one_deeper}
use Rattle.theorems.specs.Levels.{a_keyword, its_text, text_found, a_separator}
use Rattle.theorems.specs.Visits.{limited_by, LevelsOf, InStep, node_in, place_no_for}

-- what is never done has nothing after it: behind a for that finds no list no node of its sequence is visited
abbrev NeverDone : End → Type 0
NeverDone e = (s : State) → e ≡ done s → ⊥

stays : (e : End) (next : State → End) → NeverDone e → and_then e next ≡ e
unfolding and_then
stays (done s) next h = absurd (h s refl)
stays (ended l p s) next h = refl
stays stuck next h = refl

visit_unlisted : (i : Input) (k : ℕ) (f : Filled) (n c : ℕ) (env : List ℕ) (s : State) → form_of i.templates c ≡ For → listed i env c ≡ none
    → NeverDone (visit i k (items f n) c env s)
unfolding visit visit_form on_found
visit_unlisted i zero f n c env s e u s' h = let r = reached_done _ c _ s s' h in let z : ◌≡◌ {A = ℕ} 0 1 = cc in omega arith
visit_unlisted i (suc k) f n c env s e u s' h =
    let r = reached_done _ c _ s s' h in
    let d : stuck ≡ done s' = rw (e, u) at r in
    let z : ◌≡◌ {A = ℕ} 0 1 = cc in omega arith

if_no_for : {f : Form} → f ≡ If → f ≡ For → ⊥
if_no_for e h = let z : ◌≡◌ {A = ℕ} 0 1 = cc in omega arith

match_no_for : {f : Form} → f ≡ Match → f ≡ For → ⊥
match_no_for e h = let z : ◌≡◌ {A = ℕ} 0 1 = cc in omega arith

module _ (i : Input) where
  open i use {grammar as g, templates as t, value as v}

  -- the sequence that fills f is at most 200 deep, and has the variables env
  record Sequenced (f : Filled) (env : List ℕ) : Type 0 where
    depth : ℕ
    level : LevelsOf i depth (piece (repetition f.nonterminal f.separator)) f.sequence env
    shallow : depth ≤ 200
    is_sequence : form_of t f.sequence ≡ Sequence

  -- items are asked of a for only, in a sequence
  for_level : {d n p : ℕ} {f : Filled} {env : List ℕ} → LevelsOf i d (items f n) p env → d ≤ 201
      → Sequenced f env × NodeAfter t v env p (nodes t f.sequence) n × (form_of t p ≡ For)
  for_level (one_deeper d p q a a' env env' l (on_yes w f e k y)) s = absurd (if_no_for f (for_level l (omega arith)).2)
  for_level (one_deeper d p q a a' env env' l (on_no w f e k y)) s = absurd (if_no_for f (for_level l (omega arith)).2)
  for_level (one_deeper d p q a a' env env' l (an_arm w c f e k y)) s = absurd (match_no_for f (for_level l (omega arith)).2)
  for_level (one_deeper d p q a a' env env' l (a_for n c m x f e b h)) s =
      (record { depth = d; level = subst (λ (z : Asked). LevelsOf i d z p env) e l; shallow = omega arith; is_sequence = f }, b, h)

module _ (i : Input) (fuel room : ℕ) (R : State → End → End → Type 0) (kept : InStep i fuel room R) where
  open i use {grammar as g, templates as t, value as v}

  abbrev Both : (State → End) → (State → End) → Type 0
  Both next next' = (s : State) → R s (next s) (next' s)

  found_both : {A : Type 0} (o : Option A) (next next' : A → End) (s : State) → ((a : A) → o ≡ some a → R s (next a) (next' a))
      → R s (on_found o stuck next) (on_found o stuck next')
  unfolding on_found
  found_both none next next' s h = kept.no_way s
  found_both (some a) next next' s h = h a refl

  none_then : {s : State} {e e' : End} (next next' : State → End) → R s e e' → NeverDone e → NeverDone e' → R s (and_then e next) (and_then e' next')
  none_then {e = e} {e'} next next' h a b = rw (stays e next a, stays e' next' b) h

  module _ (put put' : List ℕ → State → End) (f f' : Element → ℕ → State → End) where
    -- an element that is no keyword: the next child is visited for it, if there is one
    child_both : (e : Element) (es : List Element) (cs : List ℕ) (at : Position) → Asks e at
        → ((e' : Element) (c : ℕ) → ChildFor (e ∷ es) cs e' c → Both (f e' c) (f' e' c))
        → ((ds : List ℕ) → ((e' : Element) (c : ℕ) → ChildFor es ds e' c → Both (f e' c) (f' e' c)) → Both (pieces put f es ds) (pieces put' f' es ds))
        → Both (with_child (f e) cs (pieces put f es)) (with_child (f' e) cs (pieces put' f' es))
    unfolding with_child
    child_both e es [] at a k rest s = kept.no_way s
    child_both e es (c ∷ cs) at a k rest s =
        kept.one_then _ _ (k e c (this_child e at c es cs a) s) (rest cs (λ e' b j. k e' b (past_child e' e at b c es cs a j)))

    pieces_both : (es : List Element) (cs : List ℕ) → ((x : List ℕ) → In (keyword x) es → Both (put x) (put' x))
        → ((e : Element) (c : ℕ) → ChildFor es cs e c → Both (f e c) (f' e c)) → Both (pieces put f es cs) (pieces put' f' es cs)
    unfolding pieces
    pieces_both [] cs h k s = kept.nothing s
    pieces_both (keyword x ∷ es) cs h k s =
        kept.one_then _ _ (h x (here es) s) (pieces_both es cs (λ y j. h y (later _ es j)) (λ e c j. k e c (past_keyword x e c es cs j)))
    pieces_both (lexeme c ∷ es) cs h k s = child_both _ es cs _ (asks_a_class c) k (λ ds. pieces_both es ds (λ y j. h y (later _ es j))) s
    pieces_both (nonterminal n ∷ es) cs h k s = child_both _ es cs _ (asks_a_nonterminal n) k (λ ds. pieces_both es ds (λ y j. h y (later _ es j))) s
    pieces_both (repetition n x ∷ es) cs h k s = child_both _ es cs _ (asks_a_repetition n x) k (λ ds. pieces_both es ds (λ y j. h y (later _ es j))) s
    pieces_both (unknown ∷ es) cs h k s = child_both _ es cs _ asks_nothing k (λ ds. pieces_both es ds (λ y j. h y (later _ es j))) s

  -- before an item: nothing, or the separator, which is the sequence's piece
  separate_both : {f : Filled} {env : List ℕ} → Sequenced i f env → (n : ℕ) → ItemAfter t v env (nodes t f.sequence) n
      → Both (separate i.room f n) (separate room f n)
  unfolding separate
  separate_both q zero a s = kept.nothing s
  separate_both {f} q (suc n) a s = kept.writing _ q.level q.shallow (a_separator _ n _ q.is_sequence refl a) s

  -- what a form does with the visits one deeper
  module _ (below below' : Asked → ℕ → List ℕ → State → End) (d : ℕ) (a : Asked) (p : ℕ) (env : List ℕ) (at : LevelsOf i d a p env) (shallow : d ≤ 200)
      (deeper : (a' : Asked) (q : ℕ) (env' : List ℕ) → Under g t v a p env a' q env' → Both (below a' q env') (below' a' q env'))
      (unlisted : (f : Filled) (n c : ℕ) (s : State) → form_of t c ≡ For → listed i env c ≡ none
      → NeverDone (below (items f n) c env s) × NeverDone (below' (items f n) c env s)) where
    branch_both : (w : ℕ) (yes? : Bool) → form_of t p ≡ If → Finds t v env (path p) w → as_yes_no v w ≡ some yes?
        → Both (below a (cond yes? (first p) (second t p)) env) (below' a (cond yes? (first p) (second t p)) env)
    branch_both w true f e b = let k = (yes_is v w).0 b in deeper _ _ env (on_yes w f e k.0 k.1)
    branch_both w false f e b = let k = (no_is v w).0 b in deeper _ _ env (on_no w f e k.0 k.1)

    arm_both : (w : ℕ) (c : Case) → form_of t p ≡ Match → Finds t v env (path p) w → as_case v w ≡ some c
        → Both (λ s. on_found (nth (arms t p) c.number) stuck λ arm. below a arm (env ++ c.inside ∷ []) s)
        (λ s. on_found (nth (arms t p) c.number) stuck λ arm. below' a arm (env ++ c.inside ∷ []) s)
    arm_both w c f e b s =
        let (k, is) = (case_is v w c).0 b in
        rw (← is) (found_both _ _ _ s λ arm y. deeper a arm _ (an_arm w arm f e k y) s)

    path_both : {next next' : ℕ → End} (s : State) → ((w : ℕ) → Finds t v env (path p) w → R s (next w) (next' w))
        → R s (on_found (path_value t v env (path p)) stuck next) (on_found (path_value t v env (path p)) stuck next')
    path_both s h = found_both _ _ _ s λ w e. h w ((finds_exactly t v env _ w).0 e)

    -- an item of the sequence that fills f
    item_both : {f : Filled} → Sequenced i f env → (n c : ℕ) (env' : List ℕ) → ItemAfter t v env (nodes t f.sequence) n
        → Both (below (piece (nonterminal f.nonterminal)) c env') (below' (piece (nonterminal f.nonterminal)) c env')
        → Both (visit_item i.room below f n c env') (visit_item room below' f n c env')
    unfolding visit_item
    item_both q n c env' j h s = kept.one_then _ _ (separate_both q n j s) h

    turns_both : {f : Filled} → Sequenced i f env → (n c : ℕ) (ws : List ℕ) → ((k : ℕ) → k < length ws → ItemAfter t v env (nodes t f.sequence) (n + k))
        → ((w : ℕ) → In w ws → Both (below (piece (nonterminal f.nonterminal)) c (env ++ w ∷ [])) (below' (piece (nonterminal f.nonterminal)) c (env ++ w ∷ [])))
        → Both (in_order (λ w. 1) (λ m w. visit_item i.room below f m c (env ++ w ∷ [])) n ws) (in_order (λ w. 1) (λ m w. visit_item room below' f m c (env ++ w ∷ [])) n ws)
    unfolding in_order
    turns_both q n c [] h k s = kept.nothing s
    turns_both q n c (w ∷ ws) h k s =
        kept.one_then _ _ (item_both q n c _ (subst (ItemAfter t v env _) (add-zero n) (h 0 (omega arith))) (k w (here ws)) s)
        (turns_both q (n + 1) c ws (λ m l. subst (ItemAfter t v env _) (let e : n + suc m ≡ n + 1 + m = omega arith in e) (h (suc m) (omega arith)))
        (λ u j. k u (later w ws j)))

    for_both : (a' : Asked) → a ≡ a' → form_of t p ≡ For → Both (visit_form i For below a' p env) (visit_form (limited_by i fuel room) For below' a' p env)
    unfolding visit_form listed
    for_both (piece e) r f s = kept.no_way s
    for_both (items h n) r f s = found_both _ _ _ s λ ws b.
        let (w, e, k, c) = listed_is i env p ws b in
        let (q, j, l) = for_level i (subst (λ (z : Asked). LevelsOf i d z p env) r at) (omega arith) in
        turns_both q n (first p) ws
        (λ m less. by_turn p w n m j f e k (subst (λ (z : List ℕ). m < length z) (sym c) less))
        (λ u m. deeper _ _ _ (a_turn h n w u f r e k (subst (In u) (sym c) m))) s

    -- the sequence's own node c, with n items before it
    node_both : {m n c : ℕ} {x : List ℕ} → form_of t p ≡ Sequence → a ≡ piece (repetition m x) → Sequenced i (filling p m x) env → NodeAfter t v env c (nodes t p) n
        → Both (visit_in i below (filling p m x) env n c) (visit_in (limited_by i fuel room) below' (filling p m x) env n c)
    unfolding visit_in
    node_both {m} {n} {c} {x} f r q j s = go _ (is_for_lem (form_of t c))
      where
        go : (b : Bool) → IsFor (form_of t c) b
            → R s (cond b (below (items (filling p m x) n) c env) (visit_item i.room below (filling p m x) n c env) s)
            (cond b (below' (items (filling p m x) n) c env) (visit_item room below' (filling p m x) n c env) s)
        go true (is-a-for e) = deeper _ c env (a_for m c n x f r j e) s
        go false (no_for e) = item_both q n c env (by_node c n j e) (deeper _ c env (an_item m c x f r (node_in j) e)) s

    items_both : {m : ℕ} {x : List ℕ} (n : ℕ) (cs : List ℕ) → form_of t p ≡ Sequence → a ≡ piece (repetition m x) → Sequenced i (filling p m x) env
        → ((c k : ℕ) → NodeAfter t v env c cs k → NodeAfter t v env c (nodes t p) (n + k))
        → Both (in_order (items_of i env) (visit_in i below (filling p m x) env) n cs)
        (in_order (items_of (limited_by i fuel room) env) (visit_in (limited_by i fuel room) below' (filling p m x) env) n cs)
    unfolding in_order items_of listed
    items_both n [] f r q h s = kept.nothing s
    items_both {m} {x} n (c ∷ cs) f r q h s = elim (brings_items i env c) [
      | inl b ↦ kept.one_then _ _ one (items_both (n + items_of i env c) cs f r q
          (λ c' k j. subst (NodeAfter t v env c' (nodes t p)) (sym (add_assoc n _ k)) (h c' _ (later_node c _ k cs b j))))
      | inr u ↦
          let y = unlisted (filling p m x) n c s u.0 u.1 in
          none_then _ _ one (rw (for_visited i env c below (filling p m x) n u.0) y.0)
          (rw (for_visited (limited_by i fuel room) env c below' (filling p m x) n u.0) y.1)
    ]
      where
        one : R s (visit_in i below (filling p m x) env n c s) (visit_in (limited_by i fuel room) below' (filling p m x) env n c s)
        one = node_both f r q (subst (NodeAfter t v env c (nodes t p)) (add-zero n) (h c 0 (first_node cs))) s

    -- a place has an element's position: items are asked of a for only
    place_both : (a' : Asked) → a ≡ a' → form_of t p ≡ Place → Both (visit_form i Place below a' p env) (visit_form (limited_by i fuel room) Place below' a' p env)
    unfolding visit_form
    place_both (piece el) r f s = path_both s λ w e. found_both _ _ _ s λ x b. let k = (text_is v w x).0 b in
        kept.writing _ at shallow (text_found w el _ f r e k.0 (place_text g el k.1)) s
    place_both (items h n) r f s = absurd (place_no_for f (for_level i (subst (λ (z : Asked). LevelsOf i d z p env) r at) (omega arith)).2)

    form_both : (f : Form) → form_of t p ≡ f → Both (visit_form i f below a p env) (visit_form (limited_by i fuel room) f below' a p env)
    unfolding visit_form
    form_both Build f s = found_both _ _ _ s λ q e.
        pieces_both _ _ _ _ _ _ (λ x j. kept.writing x at shallow (a_keyword q x f e j)) (λ e' c j. deeper _ c env (a_child q c e' f e j)) s
    form_both Literal f s = kept.writing _ at shallow (its_text f) s
    form_both Place f s = place_both a refl f s
    form_both Expand f s = found_both _ _ _ s λ q e. found_both _ _ _ s λ ws b. deeper _ _ ws (a_body q ws f e ((finds_all_exactly t v env _ ws).0 b)) s
    form_both If f s = path_both s λ w e. found_both _ _ _ s λ yes? b. branch_both w yes? f e b s
    form_both For f s = for_both a refl f s
    form_both Sequence f s = found_both _ _ _ s λ h b.
        let (m, x, r, e) = filled_by_lem p a h b in
        let q : Sequenced i (filling p m x) env =
        record { depth = d; level = subst (λ (z : Asked). LevelsOf i d z p env) r at; shallow = shallow; is_sequence = f } in
        rw e (items_both 0 (nodes t p) f r q (λ c k j. subst (NodeAfter t v env c (nodes t p)) (sym (zero-add k)) j) s)
    form_both Match f s = path_both s λ w e. found_both _ _ _ s λ c b. arm_both w c f e b s
    form_both Unknown f s = kept.no_way s

  -- a visit with k levels left, the node's own among them, is of a node that stands 201 - k deep
  visit_both : (k d : ℕ) (a : Asked) (p : ℕ) (env : List ℕ) → d + k ≡ 201 → LevelsOf i d a p env
      → Both (visit i k a p env) (visit (limited_by i fuel room) k a p env)
  unfolding visit listed
  visit_both zero d a p env e at = kept.reaching _ _ at (omega arith) (kept.deep (subst (λ (n : ℕ). LevelsOf i n a p env) (let z : d ≡ 201 = omega arith in z) at))
  visit_both (suc k) d a p env e at =
      kept.reaching _ _ at (omega arith)
      (form_both (visit i k) (visit (limited_by i fuel room) k) d a p env at (omega arith)
      (λ a' q env' u. visit_both k (suc d) a' q env' (omega arith) (one_deeper d p q a a' env env' at u))
      (λ f n c s h u. (visit_unlisted i k f n c env s h u, visit_unlisted (limited_by i fuel room) k f n c env s h u)) _ refl)

  pub walk_both : R start (walk i) (walk (limited_by i fuel room))
  unfolding walk deepest
  walk_both = found_both _ _ _ start λ q e. visit_both 200 1 _ _ (0 ∷ []) refl (root_body q e) start
