-- A visit that is done came by the evaluation rules. No typing is assumed: any bytes of any streams.
-- Goes on from specs/Evaluated.antt: what rests on definitions that a must-fail edit changes.
use Rattle.std.proofs.Math.Path.{◌≡◌, refl}
use Rattle.std.proofs.Common.{sym, ◌∙◌, ap, subst, arith, add-zero, zero-add, add_assoc}
use Prim.Native.Nat.{ℕ, zero, suc, ◌+◌}
use mathlib.Core.List.{List, [], ◌∷◌, ◌++◌, append_assoc, append-nil}
use Rattle.std.specs.Prelude.{Bool, cond}
use Rattle.std.proofs.Math.Bool.{true, false}
use Rattle.std.proofs.Math.Option.{some}
use Rattle.rules.specs.Records.{nth}
use Rattle.rules.specs.Grammar.{Element, keyword, lexeme, nonterminal, repetition, unknown}
use Rattle.rules.specs.Templates.{template, form_of, nodes, path, first, second, arms}
use Rattle.rules.specs.Value.{as_yes_no, Case}
use Rattle.rules.specs.Limits.{deepest}
use Rattle.rules.specs.Walk.{Input, State, start, End, done, and_then, write, with_child, pieces, Filled, Asked, piece, items, filled_by, separate, visit_item}
use Rattle.rules.specs.Walk.{in_order, items_of, visit_in, visit_form, counted, visit, walk}
use Rattle.rules.specs.declared.Form.{Form}
use Rattle.rules.specs.declared.Form.TheVariants.{Build, Literal, Place, Expand, If, For, Sequence, Match, Unknown}
use Rattle.rules.specs.declared.Position.{Position}
use Rattle.theorems.specs.Children.{Asks, asks_a_class, asks_a_nonterminal, asks_a_repetition, asks_nothing}
use Rattle.theorems.specs.Finds.{Finds, text_is, yes_is, no_is, finds_exactly, finds_all_exactly, case_is}
use Rattle.theorems.proofs.Places.{place_text}
use Rattle.theorems.specs.Handed.{IsFor, a_for, no_for, is_for_lem, filled_by_lem, listed_is, for_visited, item_visited, one_brought, turns_brought}
use Rattle.theorems.specs.Ends.{then_done, found_done, reached_done, write_done}
use Rattle.theorems.specs.Evaluation.{BeforeItem, the_first, another, Evaluates, build, literal, place, expand, then, else, sequence, match}
use Rattle.theorems.specs.Evaluation.{Builds, no_element, own_bytes, next_child, Items, no_item, one_item, for, Loops, no_turn, one_turn, EvaluatesSet}
use Rattle.theorems.specs.Evaluated.{Wrote, AnItem, AFor, ANode, item_node, for_node, ByRules}

wrote_nothing : (P : List ℕ → ℕ → Type 0) (s s' : State) → done s ≡ done s' → P [] 0 → Wrote P s s'
wrote_nothing P s s' e h =
    let q : s ≡ s' = cc in
    ([], 0, ap (λ r. r.text) (sym q) ∙ sym (append-nil s.text), ap (λ r. r.steps) (sym q) ∙ sym (add-zero s.steps), h)

-- one and then another
then_wrote : (P Q R : List ℕ → ℕ → Type 0) (e : End) (next : State → End) (s s' : State) → and_then e next ≡ done s'
    → ((s₁ : State) → e ≡ done s₁ → Wrote P s s₁) → ((s₁ : State) → next s₁ ≡ done s' → Wrote Q s₁ s')
    → ((x y : List ℕ) (m n : ℕ) → P x m → Q y n → R (x ++ y) (m + n)) → Wrote R s s'
then_wrote P Q R e next s s' h f k join =
    let (s₁, d, l) = then_done e next s' h in
    let (x, m, xt, xs, a) = f s₁ d in
    let (y, n, yt, ys, b) = k s₁ l in
    (x ++ y, m + n, cc (append_assoc s.text x y, xt, yt), ys ∙ ap (λ (z : ℕ). z + n) xs ∙ add_assoc s.steps m n, join x y m n a b)

write_wrote : (room p : ℕ) (x : List ℕ) (s s' : State) → write room p x s ≡ done s' → Wrote (λ y n. (x ≡ y) × (0 ≡ n)) s s'
write_wrote room p x s s' e = let w = write_done room p x s s' e in (x, 0, w.0, w.1 ∙ sym (add-zero s.steps), (refl, refl))

-- what a node's rule asks, with its own step
wrote_step : (P R : List ℕ → ℕ → Type 0) (s s' : State) → Wrote P (counted s) s' → ((x : List ℕ) (n : ℕ) → P x n → R x (suc n)) → Wrote R s s'
unfolding counted
wrote_step P R s s' (x, n, xt, xs, a) h = (x, suc n, xt, xs ∙ add-suc-left s.steps n, h x n a)
  where
    add-suc-left : (a b : ℕ) → suc a + b ≡ a + suc b
    add-suc-left a b = omega arith

module _ (i : Input) where
  open i use {grammar as g, templates as t, value as v}

  node_items : {f : Filled} {k l c m n : ℕ} {env cs x y : List ℕ} → ANode i f k env c l x m → Items g t v env f.nonterminal f.separator l cs y n
      → Items g t v env f.nonterminal f.separator k (c ∷ cs) (x ++ y) (m + n)
  node_items (item_node h (z, u, q, b, d)) is = rw q (one_item h b d is)
  node_items (for_node h a r b) is = for h a r b is

module _ (i : Input) (go : Asked → ℕ → List ℕ → State → End) (below : ByRules i go) where
  open i use {grammar as g, templates as t, value as v}

  next_built : (p : ℕ) (env : List ℕ) (e : Element) (at : Position) (es : List Element) (cs : List ℕ) (s s' : State) → Asks e at
      → ((cs : List ℕ) (s₁ : State) → pieces (write i.room p) (λ e c. go (piece e) c env) es cs s₁ ≡ done s' → Wrote (Builds g t v env es cs) s₁ s')
      → with_child (λ c. go (piece e) c env) cs (pieces (write i.room p) (λ e c. go (piece e) c env) es) s ≡ done s' → Wrote (Builds g t v env (e ∷ es) cs) s s'
  unfolding with_child
  next_built p env e at es [] s s' a k h = absurd (let z : ◌≡◌ {A = ℕ} 0 1 = cc in omega arith)
  next_built p env e at es (c ∷ cs) s s' a k h = then_wrote _ _ _ _ _ s s' h (λ s₁. below.of_piece e c env s s₁) (k cs) λ x y m n. next_child a

  pieces_built : (p : ℕ) (env : List ℕ) (es : List Element) (cs : List ℕ) (s s' : State)
      → pieces (write i.room p) (λ e c. go (piece e) c env) es cs s ≡ done s' → Wrote (Builds g t v env es cs) s s'
  unfolding pieces
  pieces_built p env [] cs s s' e = wrote_nothing _ s s' e no_element
  pieces_built p env (keyword w ∷ es) cs s s' e =
      then_wrote _ _ _ _ _ s s' e (write_wrote i.room p w s) (λ s₁. pieces_built p env es cs s₁ s') λ x y m n q b. rw (← q.0, ← q.1, zero-add) (own_bytes b)
  pieces_built p env (lexeme c ∷ es) cs s s' e = next_built p env _ _ es cs s s' (asks_a_class c) (λ ds s₁. pieces_built p env es ds s₁ s') e
  pieces_built p env (nonterminal n ∷ es) cs s s' e = next_built p env _ _ es cs s s' (asks_a_nonterminal n) (λ ds s₁. pieces_built p env es ds s₁ s') e
  pieces_built p env (repetition n x ∷ es) cs s s' e = next_built p env _ _ es cs s s' (asks_a_repetition n x) (λ ds s₁. pieces_built p env es ds s₁ s') e
  pieces_built p env (unknown ∷ es) cs s s' e = next_built p env _ _ es cs s s' asks_nothing (λ ds s₁. pieces_built p env es ds s₁ s') e

  separate_wrote : (f : Filled) (k : ℕ) (s s' : State) → separate i.room f k s ≡ done s' → Wrote (λ z n. BeforeItem f.separator k z × (0 ≡ n)) s s'
  unfolding separate
  separate_wrote f zero s s' e = wrote_nothing _ s s' e (the_first, refl)
  separate_wrote f (suc k) s s' e =
      let (z, n, a, b, h) = write_wrote i.room f.sequence f.separator s s' e in
      (z, n, a, b, (subst (BeforeItem f.separator (suc k)) h.0 another, h.1))

  pub item_evaluated : (f : Filled) (k c : ℕ) (env : List ℕ) (s s' : State) → visit_item i.room go f k c env s ≡ done s' → Wrote (AnItem i f k env c) s s'
  unfolding visit_item
  item_evaluated f k c env s s' e =
      then_wrote _ _ _ _ _ s s' e (separate_wrote f k s) (λ s₁. below.of_piece _ c env s₁ s') λ z y m n b d. rw (← b.1, zero-add) (z, y, refl, b.0, d)

  pub node_evaluated : (f : Filled) (k c : ℕ) (env : List ℕ) (s s' : State) → visit_in i go f env k c s ≡ done s'
      → Wrote (ANode i f k env c (k + items_of i env c)) s s'
  node_evaluated f k c env s s' e = one _ (is_for_lem (form_of t c))
    where
      one : (b : Bool) → IsFor (form_of t c) b → Wrote (ANode i f k env c (k + items_of i env c)) s s'
      one true (a_for h) =
          let (x, n, xt, xs, (w, m, q, a, r, b)) = below.of_for f k c env s s' h (rw (for_visited i env c go f k h) at e) in
          (x, n, xt, xs, rw (q, turns_brought i env c h a r) (for_node h a r b))
      one false (no_for h) =
          let (x, n, xt, xs, b) = item_evaluated f k c env s s' (rw (item_visited i env c go f k h) at e) in
          (x, n, xt, xs, rw (one_brought i env c h) (item_node h b))

  items_evaluated : (f : Filled) (k : ℕ) (env cs : List ℕ) (s s' : State) → in_order (items_of i env) (visit_in i go f env) k cs s ≡ done s'
      → Wrote (Items g t v env f.nonterminal f.separator k cs) s s'
  unfolding in_order
  items_evaluated f k env [] s s' e = wrote_nothing _ s s' e no_item
  items_evaluated f k env (c ∷ cs) s s' e =
      then_wrote _ _ _ _ _ s s' e (λ s₁. node_evaluated f k c env s s₁) (λ s₁. items_evaluated f (k + items_of i env c) env cs s₁ s') λ x y m n. node_items i

  turns_evaluated : (f : Filled) (k : ℕ) (env : List ℕ) (p : ℕ) (ws : List ℕ) (s s' : State)
      → in_order (λ w. 1) (λ m w. visit_item i.room go f m p (env ++ w ∷ [])) k ws s ≡ done s' → Wrote (Loops g t v env f.nonterminal f.separator k p ws) s s'
  unfolding in_order
  turns_evaluated f k env p [] s s' e = wrote_nothing _ s s' e no_turn
  turns_evaluated f k env p (w ∷ ws) s s' e =
      then_wrote (AnItem i f k (env ++ w ∷ []) p) _ _ _ _ s s' e (λ s₁. item_evaluated f k p _ s s₁) (λ s₁. turns_evaluated f (k + 1) env p ws s₁ s')
      λ x y m n (z, u, q, b, d) r. rw q (one_turn b d r)

  -- from the state after the node's step
  for_evaluated : (f : Filled) (k p : ℕ) (env : List ℕ) (s s' : State) → visit_form i For go (items f k) p env (counted s) ≡ done s' → Wrote (AFor i f k env p) s s'
  unfolding visit_form
  for_evaluated f k p env s s' e =
      let (ws, b, h) = found_done _ _ s' e in
      let (w, a, r, z) = listed_is i env p ws b in
      wrote_step _ _ s s' (turns_evaluated f k env (first p) ws (counted s) s' h) λ x n l. (w, n, refl, a, r, rw z l)

  filled_evaluated : {e : Element} {p : ℕ} {env y : List ℕ} {n : ℕ} (f : Filled) → form_of t p ≡ Sequence → filled_by p (piece e) ≡ some f
      → Items g t v env f.nonterminal f.separator 0 (nodes t p) y n → Evaluates g t v env e p y (suc n)
  filled_evaluated {e} {p} {env} {y} {n} f s a is =
      let (m, x, q, r) = filled_by_lem p (piece e) f a in
      let z : e ≡ repetition m x = cc in
      rw z (sequence s (rw r at is))

  form_evaluated : (f : Form) (e : Element) (p : ℕ) (env : List ℕ) (s s' : State) → form_of t p ≡ f → visit_form i f go (piece e) p env (counted s) ≡ done s'
      → Wrote (Evaluates g t v env e p) s s'
  unfolding visit_form
  form_evaluated Build el p env s s' f e =
      let (q, a, h) = found_done _ _ s' e in
      wrote_step _ _ s s' (pieces_built p env _ _ (counted s) s' h) λ x n. build f a
  form_evaluated Literal el p env s s' f e =
      wrote_step _ _ s s' (write_wrote i.room p _ (counted s) s' e) λ x n q. rw (← q.0, ← q.1) (literal f)
  form_evaluated Place el p env s s' f e =
      let (w, a, d) = found_done _ _ s' e in
      let (x, b, h) = found_done _ _ s' d in
      let (k, z) = (text_is v w x).0 b in
      wrote_step _ _ s s' (write_wrote i.room p _ (counted s) s' h) λ y n q.
      rw (← q.0, ← q.1) (place f ((finds_exactly t v env _ w).0 a) k (place_text g el z))
  form_evaluated Expand el p env s s' f e =
      let (q, a, d) = found_done _ _ s' e in
      let (ws, b, h) = found_done _ _ s' d in
      wrote_step _ _ s s' (below.of_piece _ _ ws (counted s) s' h) λ x n. expand f a ((finds_all_exactly t v env _ ws).0 b)
  form_evaluated If el p env s s' f e =
      let (w, a, d) = found_done _ _ s' e in
      let (y, b, h) = found_done _ _ s' d in
      taken w y ((finds_exactly t v env _ w).0 a) b h
    where
      taken : (w : ℕ) (y : Bool) → Finds t v env (path p) w → as_yes_no v w ≡ some y → go (piece el) (cond y (first p) (second t p)) env (counted s) ≡ done s'
          → Wrote (Evaluates g t v env el p) s s'
      taken w true a b e = let (k, y) = (yes_is v w).0 b in wrote_step _ _ s s' (below.of_piece el _ env (counted s) s' e) λ x n. then f a k y
      taken w false a b e = let (k, y) = (no_is v w).0 b in wrote_step _ _ s s' (below.of_piece el _ env (counted s) s' e) λ x n. else f a k y
  form_evaluated For el p env s s' f e = absurd (let z : ◌≡◌ {A = ℕ} 0 1 = cc in omega arith)
  form_evaluated Sequence el p env s s' f e =
      let (h, a, d) = found_done _ _ s' e in
      wrote_step _ _ s s' (items_evaluated h 0 env _ (counted s) s' d) λ y n is. filled_evaluated h f a is
  form_evaluated Match el p env s s' f e =
      let (w, a, d) = found_done _ _ s' e in
      let (c, b, j) = found_done _ _ s' d in
      let (arm, y, h) = found_done _ _ s' j in
      let (k, is) = (case_is v w c).0 b in
      wrote_step _ _ s s' (below.of_piece el arm _ (counted s) s' h) λ x n r.
      match f ((finds_exactly t v env _ w).0 a) k (ap (λ (z : Case). nth (arms t p) z.number) is ∙ y)
      (subst (λ (z : Case). Evaluates g t v (env ++ z.inside ∷ []) el arm x n) (sym is) r)
  form_evaluated Unknown el p env s s' f e = absurd (let z : ◌≡◌ {A = ℕ} 0 1 = cc in omega arith)

pub visit_evaluated : (i : Input) (k : ℕ) → ByRules i (visit i k)
unfolding visit
visit_evaluated i zero = record {
  of_piece = λ e p env s s' h. absurd (let z : ◌≡◌ {A = ℕ} 0 1 = cc (reached_done _ p _ s s' h) in omega arith);
  of_for = λ f k p env s s' q h. absurd (let z : ◌≡◌ {A = ℕ} 0 1 = cc (reached_done _ p _ s s' h) in omega arith);
}
visit_evaluated i (suc k) = record {
  of_piece = λ e p env s s' h. form_evaluated i (visit i k) (visit_evaluated i k) (form_of i.templates p) e p env s s' refl (reached_done _ p _ s s' h);
  of_for = λ f j p env s s' q h. let d = reached_done _ p _ s s' h in for_evaluated i (visit i k) (visit_evaluated i k) f j p env s s' (rw q at d);
}

wrote_whole : (P : List ℕ → ℕ → Type 0) (s : State) → Wrote P start s → P s.text s.steps
unfolding start
wrote_whole P s (x, n, xt, xs, h) = rw (xt, xs, zero-add) h

pub finished_evaluated : (i : Input) (s : State) → walk i ≡ done s → EvaluatesSet i.grammar i.templates i.value s.text s.steps
unfolding walk
finished_evaluated i s e =
    let (q, a, h) = found_done (template i.templates 0) _ s e in
    record { head = q; template_0 = a; evaluates = wrote_whole _ s ((visit_evaluated i deepest).of_piece _ _ (0 ∷ []) start s h) }
