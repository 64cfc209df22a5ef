-- The walk gives exactly the texts that the evaluation rules give. No typing is assumed: any bytes of any streams.
-- Goes on from specs/EvaluatesExactly.antt: what rests on definitions that a must-fail edit changes.
use Rattle.std.specs.Prelude.{◌≡◌, ◌↔◌, List, [], ◌∷◌, ◌++◌, Bool, cond}
use Rattle.std.proofs.Math.Path.{refl, subst}
use Rattle.std.proofs.Common.{ap, append_assoc, append-nil, add-zero, add_assoc, leb-false, ltb-false}
use Prim.Native.Nat.{ℕ, zero, suc, ◌+◌, ◌≤◌}
use native.Mathlib.Omega.{arith}
use Rattle.std.proofs.Math.Bool.{true, false}
use Rattle.std.proofs.Math.Option.{Option, some}
use Rattle.std.proofs.Math.Nat.{zero-add}
use Rattle.std.proofs.Math.ListN.{length, length-append}
use Rattle.std.proofs.Math.Dec.{leb, ltb}
use Rattle.rules.specs.Faults.{on_found}
use Rattle.rules.specs.Grammar.{Element, nonterminal}
use Rattle.rules.specs.Templates.{form_of}
use Rattle.rules.specs.Limits.{deepest}
use Rattle.rules.specs.Walk.{Input, State, start, output_full, End, done, ended, stuck, and_then, write, with_child, pieces}
use Rattle.rules.specs.Walk.{Asked, piece, filled_by, separate, visit_item, in_order, items_of, visit_in, visit_form, counted, reached, visit, walk}
use Rattle.rules.specs.declared.Form.{Form}
use Rattle.theorems.specs.Begins.{Begins, begins_then}
use Rattle.theorems.specs.Finds.{text_is, yes_is, no_is, path_found, paths_found, case_is}
use Rattle.theorems.specs.Levels.{filling}
use Rattle.theorems.specs.Handed.{pieces_child, is_listed, for_visited, item_visited, one_brought, turns_brought}
use Rattle.theorems.proofs.Places.{place_exactly}
use Rattle.theorems.specs.Evaluation.{BeforeItem, the_first, another, Evaluates, build, literal, place, expand, then, else, sequence, match}
use Rattle.theorems.specs.Evaluation.{no_element, own_bytes, next_child, no_item, one_item, for, no_turn, one_turn, EvaluatesSet}
use Rattle.theorems.proofs.Evaluated.{finished_evaluated}
use Rattle.theorems.specs.EvaluatesExactly.{Gives, whole, fuel_short, levels_short, room_short}

-- the state after a text and so many steps
abbrev adding : State → List ℕ → ℕ → State
adding s x n = record { steps = s.steps + n; text = s.text ++ x }

begins_adding : (s : State) (x : List ℕ) (n : ℕ) → Begins s (adding s x n)
begins_adding s x n = record { rest = x; text_begins = refl; steps_at_most = omega arith }

-- adding a text and steps, and then more
adding_more : (s : State) (x y : List ℕ) (m n : ℕ) → adding (adding s x m) y n ≡ adding s (x ++ y) (m + n)
adding_more s x y m n = λ j. record { steps = add_assoc s.steps m n j; text = append_assoc s.text x y j }

adding_nothing : (s : State) → adding s [] 0 ≡ s
adding_nothing s = λ j. record { steps = add-zero s.steps j; text = append-nil s.text j }

begins_length : {s z : State} → Begins s z → length s.text ≤ length z.text
begins_length {s} b = rw (b.text_begins, length-append) (omega arith)

module _ (i : Input) where
  open i use {grammar as g, templates as t, value as v}

  nothing_gives : (s : State) → Gives i (adding s [] 0) (done s)
  nothing_gives s = rw (adding_nothing s) whole

  then_gives : {e : End} (next : State → End) (s : State) (x y : List ℕ) (m n : ℕ) → Gives i (adding s x m) e
      → ((s₁ : State) → Gives i (adding s₁ y n) (next s₁)) → Gives i (adding s (x ++ y) (m + n)) (and_then e next)
  unfolding and_then
  then_gives {e} next s x y m n h k = subst (λ (z : State). Gives i z (and_then e next)) (adding_more s x y m n) (go h)
    where
      more : Begins (adding s x m) (adding (adding s x m) y n)
      more = begins_adding (adding s x m) y n

      go : {e : End} → Gives i (adding s x m) e → Gives i (adding (adding s x m) y n) (and_then e next)
      go whole = k (adding s x m)
      go (fuel_short p s₁ b u l) = fuel_short p s₁ (begins_then b more) u (let c = more.steps_at_most in omega arith)
      go (levels_short p s₁ b) = levels_short p s₁ (begins_then b more)
      go (room_short p s₁ b l) = room_short p s₁ (begins_then b more) (let c = begins_length more in omega arith)

  found_gives : {A : Type 0} {z : State} {o : Option A} (f : A → End) {a : A} → o ≡ some a → Gives i z (f a) → Gives i z (on_found o stuck f)
  unfolding on_found
  found_gives f e h = rw e h

  write_gives : (p : ℕ) (x : List ℕ) (s : State) → Gives i (adding s x 0) (write i.room p x s)
  unfolding write
  write_gives p x s = go (leb (length s.text + length x) i.room) refl
    where
      go : (b : Bool) → leb (length s.text + length x) i.room ≡ b
          → Gives i (adding s x 0) (cond b (done (record { steps = s.steps; text = s.text ++ x })) (ended output_full p s))
      go true e = rw (add-zero s.steps) whole
      go false e = room_short p s (begins_adding s x 0) (rw length-append (leb-false _ _ e))

  -- a node that is reached: one step, and what the rules say from there
  reached_gives : (x : List ℕ) (n p : ℕ) (next : State → End) (s : State) → Gives i (adding (counted s) x n) (next (counted s))
      → Gives i (adding s x (suc n)) (reached (ltb s.steps i.fuel) p next s)
  unfolding reached counted
  reached_gives x n p next s h = go (ltb s.steps i.fuel) refl
    where
      go : (b : Bool) → ltb s.steps i.fuel ≡ b → Gives i (adding s x (suc n)) (reached b p next s)
      go true e = rw (let z : s.steps + suc n ≡ suc s.steps + n = omega arith in z) h
      go false e = fuel_short p s (begins_adding s x (suc n)) (ltb-false _ _ e) (omega arith)

  visit_gives : (x : List ℕ) (n k : ℕ) (a : Asked) (p : ℕ) (env : List ℕ) (s : State) {f : Form} → form_of t p ≡ f
      → ((k : ℕ) → Gives i (adding (counted s) x n) (visit_form i f (visit i k) a p env (counted s))) → Gives i (adding s x (suc n)) (visit i k a p env s)
  unfolding visit
  visit_gives x n zero a p env s e h = reached_gives x n p _ s (levels_short p (counted s) (begins_adding (counted s) x n))
  visit_gives x n (suc k) a p env s e h = reached_gives x n p _ s (rw e (h k))

  separate_gives : (p m k : ℕ) {between z : List ℕ} → BeforeItem between k z → (s : State) → Gives i (adding s z 0) (separate i.room (filling p m between) k s)
  unfolding separate
  separate_gives p m k the_first s = nothing_gives s
  separate_gives p m k another s = write_gives p _ s

  item_gives : (p m j k c n : ℕ) {between z x : List ℕ} (env : List ℕ) → BeforeItem between j z
      → ((s : State) → Gives i (adding s x n) (visit i k (piece (nonterminal m)) c env s))
      → (s : State) → Gives i (adding s (z ++ x) n) (visit_item i.room (visit i k) (filling p m between) j c env s)
  unfolding visit_item
  item_gives p m j k c n env b h s = rw (← zero-add n) (then_gives _ s _ _ 0 n (separate_gives p m j b s) h)

  evaluated_gives : {env : List ℕ} {e : Element} {p : ℕ} {x : List ℕ} {n : ℕ} → Evaluates g t v env e p x n → (k : ℕ) (s : State)
      → Gives i (adding s x n) (visit i k (piece e) p env s)
  unfolding visit_form pieces with_child in_order filled_by on_found
  evaluated_gives d = elim d as
      (λ env e p x n d. (k : ℕ) (s : State) → Gives i (adding s x n) (visit i k (piece e) p env s))
      (λ env es cs x n d. (k p : ℕ) (s : State) → Gives i (adding s x n) (pieces (write i.room p) (λ e c. visit i k (piece e) c env) es cs s))
      (λ env m between j cs x n d. (k p : ℕ) (s : State)
      → Gives i (adding s x n) (in_order (items_of i env) (visit_in i (visit i k) (filling p m between) env) j cs s))
      (λ env m between j p ws x n d. (k q : ℕ) (s : State)
      → Gives i (adding s x n) (in_order (λ w. 1) (λ j w. visit_item i.room (visit i k) (filling q m between) j p (env ++ w ∷ [])) j ws s)) [
        | build f q (b → h) ↦ λ k s. visit_gives _ _ k _ _ _ s f λ k. found_gives _ q (h k _ (counted s))
        | literal f ↦ λ k s. visit_gives _ _ k _ _ _ s f λ k. write_gives _ _ (counted s)
        | place {e = e} f w x y ↦ λ k s. visit_gives _ _ k _ _ _ s f λ k.
            found_gives _ (path_found w) (found_gives _ ((text_is v _ _).1 (x, refl)) (rw ((place_exactly g e _ _).1 y) (write_gives _ _ (counted s))))
        | expand f q ws (b → h) ↦ λ k s. visit_gives _ _ k _ _ _ s f λ k. found_gives _ q (found_gives _ (paths_found ws) (h k (counted s)))
        | then f w x y (b → h) ↦ λ k s. visit_gives _ _ k _ _ _ s f λ k. found_gives _ (path_found w) (found_gives _ ((yes_is v _).1 (x, y)) (h k (counted s)))
        | else f w x y (b → h) ↦ λ k s. visit_gives _ _ k _ _ _ s f λ k. found_gives _ (path_found w) (found_gives _ ((no_is v _).1 (x, y)) (h k (counted s)))
        | sequence f (b → h) ↦ λ k s. visit_gives _ _ k _ _ _ s f λ k. h k _ (counted s)
        | match f w x y (b → h) ↦ λ k s. visit_gives _ _ k _ _ _ s f λ k.
            found_gives _ (path_found w) (found_gives _ ((case_is v _ _).1 (x, refl)) (found_gives _ y (h k (counted s))))
        | no_element ↦ λ k p s. nothing_gives s
        | own_bytes {n} (b → h) ↦ λ k p s. rw (← zero-add n) (then_gives _ s _ _ 0 n (write_gives p _ s) (h k p))
        | next_child {es} a (b → e) (c → h) ↦ λ k p s. rw (pieces_child (write i.room p) _ es _ s a) (then_gives _ s _ _ _ _ (e k s) (h k p))
        | no_item ↦ λ k p s. nothing_gives s
        | one_item {env} {between} {m} {k} {c} {i = n} f z (a → e) (b → h) ↦ λ l p s.
            rw (item_visited i env c (visit i l) (filling p m between) k f, one_brought i env c f) (then_gives _ s _ _ _ _ (item_gives p m k l c n env z (e l) s) (h l p))
        | for {env} {between} {m} {k} {c} f w r (a → e) (b → h) ↦ λ l p s.
            rw (for_visited i env c (visit i l) (filling p m between) k f, turns_brought i env c f w r)
            (then_gives _ s _ _ _ _ (visit_gives _ _ l _ _ _ s f λ l. found_gives _ (is_listed i env c w r) (e l p (counted s))) (h l p))
        | no_turn ↦ λ k q s. nothing_gives s
        | one_turn {m} {k} {p} {i = n} z (a → e) (b → h) ↦ λ l q s. then_gives _ s _ _ _ _ (item_gives q m k l p n _ z (e l) s) (h l q)
      ]

  pub evaluated_given : (x : List ℕ) (n : ℕ) → EvaluatesSet g t v x n → Gives i (record { steps = n; text = x }) (walk i)
  unfolding walk start
  evaluated_given x n h = rw (← zero-add n) (found_gives _ h.template_0 (evaluated_gives h.evaluates deepest start))

given_done : {i : Input} {z s : State} → Gives i z (done s) → z ≡ s
given_done whole = refl

-- Both, gathered. Where a walk is done, the rules evaluate its text with its steps, and nothing else.
-- And where the rules evaluate a text, every walk is done with that text and those steps, or one of its three limits ends it on the way there.
pub evaluates_exactly : (i : Input)
    → ((s : State) → walk i ≡ done s → (x : List ℕ) (n : ℕ) → EvaluatesSet i.grammar i.templates i.value x n ↔ ((x ≡ s.text) × (n ≡ s.steps)))
    × ((x : List ℕ) (n : ℕ) → EvaluatesSet i.grammar i.templates i.value x n → Gives i (record { steps = n; text = x }) (walk i))
evaluates_exactly i = (
  λ s e x n. (
    λ h. let r = given_done (subst (Gives i _) e (evaluated_given i x n h)) in (ap (λ z. z.text) r, ap (λ z. z.steps) r),
    λ q. rw (q.0, q.1) (finished_evaluated i s e),
  ),
  evaluated_given i,
)
