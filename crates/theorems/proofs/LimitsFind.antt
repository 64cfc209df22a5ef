-- Each limit finds the walk where it comes by the evaluation rules. No typing is assumed: any bytes of any streams.
-- (In proofs/, as it rests on definitions that a must-fail edit changes.)
use Rattle.std.specs.Prelude.{◌≡◌, Bool, cond}
use Rattle.std.proofs.Math.Path.{refl}
use Rattle.std.proofs.Common.{sym, ◌∙◌, ap, subst, add-zero, zero-add, add_assoc, leb-false}
use Prim.Native.Nat.{ℕ, zero, suc, ◌+◌, ◌≤◌, ◌<◌}
use native.Mathlib.Omega.{arith}
use mathlib.Core.List.{List, [], ◌∷◌, ◌++◌, append_assoc, append-nil}
use Rattle.std.proofs.Math.Bool.{true, false}
use Rattle.std.proofs.Math.Option.{Option, none, some}
use Rattle.std.proofs.Math.ListN.{length}
use Rattle.std.proofs.Math.Dec.{leb}
use Rattle.rules.specs.Faults.{on_found}
use Rattle.rules.specs.Records.{kind_of, nth}
use Rattle.rules.specs.Grammar.{Element, keyword, lexeme, nonterminal, repetition, unknown}
use Rattle.rules.specs.Templates.{form_of, nodes, path, first, second, arms}
use Rattle.rules.specs.Value.{children, as_yes_no, Case, as_case}
use Rattle.rules.specs.Limits.{deepest}
use Rattle.rules.specs.Walk.{Input, State, start, Limit, fuel_spent, too_deep, output_full, End, done, ended, stuck, and_then, write, with_child, pieces}
use Rattle.rules.specs.Walk.{Filled, Asked, piece, items, separate, visit_item, in_order, items_of, visit_in, visit_form, counted, reached, visit, walk}
use Rattle.rules.specs.declared.Form.{Form}
use Rattle.rules.specs.declared.Form.TheVariants.{Build, Literal, Place, Expand, If, For, Sequence, Match, Unknown}
use Rattle.rules.specs.declared.Position.{Position}
use Rattle.theorems.specs.Children.{Asks, asks_a_class, asks_a_nonterminal, asks_a_repetition, asks_nothing}
use Rattle.theorems.specs.Finds.{Finds, text_is, yes_is, no_is, finds_exactly, finds_all_exactly, case_is}
use Rattle.theorems.specs.Ends.{write_done}
use Rattle.theorems.specs.Levels.{filling}
use Rattle.theorems.proofs.Places.{place_text}
use Rattle.theorems.specs.Visits.{place_no_for}
use Rattle.theorems.specs.Handed.{IsFor, a_for as is-a-for, no_for, is_for_lem, filled_by_lem, listed_is, for_visited, item_visited}
use Rattle.theorems.specs.Comes.{BuildsTo, this_child, past_keyword, past_child, BuildsUpTo, this_keyword, an_arm}
use Rattle.theorems.specs.Comes.{ItemsTo, this_node, past_item, past_for, TurnsTo, this_turn, past_turn, Before, a_child, a_body, on_yes, on_no, a_turn, an_item, a_for}
use Rattle.theorems.specs.Comes.{Comes, root_body, one_deeper, Next, a_keyword, its_text, text_found, before_item, before_turn, Found, not_counted, counted_too, not_written}
use Rattle.theorems.specs.Evaluation.{BeforeItem, the_first, another}
use Rattle.theorems.specs.Evaluated.{Wrote, ANode, item_node, for_node}
use Rattle.theorems.proofs.Evaluated.{visit_evaluated, item_evaluated, node_evaluated}

data Fair (i : Input) : End → Type 0 where
  is_done : (s : State) → Fair i (done s)
  is_stuck : Fair i stuck
  is_ended : (l : Limit) (p : ℕ) (s : State) → Found i p s l → Fair i (ended l p s)

then_fair : {i : Input} (e : End) (next : State → End) → Fair i e → ((s : State) → e ≡ done s → Fair i (next s)) → Fair i (and_then e next)
unfolding and_then
then_fair (done s) next h k = k s refl
then_fair (ended l p s) next (is_ended l' p' s' f) k = is_ended l p s f
then_fair stuck next h k = is_stuck

found_fair : {A : Type 0} {i : Input} (o : Option A) (f : A → End) → ((a : A) → o ≡ some a → Fair i (f a)) → Fair i (on_found o stuck f)
unfolding on_found
found_fair none f h = is_stuck
found_fair (some a) f h = h a refl

-- s₁ is s with the text y and m steps more
record After (s : State) (y : List ℕ) (m : ℕ) (s₁ : State) : Type 0 where
  text_more : s₁.text ≡ s.text ++ y
  steps_more : s₁.steps ≡ s.steps + m

after_none : (s : State) → After s [] 0 s
after_none s = record { text_more = sym (append-nil s.text); steps_more = sym (add-zero s.steps) }

after_more : {s s₁ s₂ : State} {x y : List ℕ} {m n : ℕ} → After s x m s₁ → After s₁ y n s₂ → After s (x ++ y) (m + n) s₂
after_more {s} {x = x} {y} {m} {n} a b = record {
  text_more = b.text_more ∙ ap (λ (z : List ℕ). z ++ y) a.text_more ∙ append_assoc s.text x y;
  steps_more = b.steps_more ∙ ap (λ (z : ℕ). z + n) a.steps_more ∙ add_assoc s.steps m n;
}

after_text : {s s₁ s₂ : State} {x y : List ℕ} {n : ℕ} → After s x 0 s₁ → After s₁ y n s₂ → After s (x ++ y) n s₂
after_text {s} {s₂ = s₂} {x} {y} {n} a b = subst (λ (m : ℕ). After s (x ++ y) m s₂) (zero-add n) (after_more a b)

-- a piece that takes no step, after what did
text_after : {s s₁ s₂ : State} {x y : List ℕ} {n : ℕ} → After s x n s₁ → After s₁ y 0 s₂ → After s (x ++ y) n s₂
text_after {s} {s₂ = s₂} {x} {y} {n} a b = subst (λ (m : ℕ). After s (x ++ y) m s₂) (add-zero n) (after_more a b)

-- the sequence of a for, where the walk came to that
data InItsSequence (g t v : List ℕ) (f : Filled) (k p : ℕ) (env : List ℕ) : ℕ → List ℕ → ℕ → Type 0 where
  in_sequence : {d n m : ℕ} {x y : List ℕ} → Comes g t v d (piece (repetition f.nonterminal f.separator)) f.sequence env x n
      → form_of t f.sequence ≡ Sequence → ItemsTo g t v env f.nonterminal f.separator 0 (nodes t f.sequence) p k y m → form_of t p ≡ For
      → InItsSequence g t v f k p env (suc d) (x ++ y) (suc n + m)

for_form : {g t v env x : List ℕ} {f : Filled} {d k p n : ℕ} → InItsSequence g t v f k p env d x n → form_of t p ≡ For
for_form (in_sequence c f to h) = h

-- items are asked of a for only, in a sequence
for_came : {g t v env x : List ℕ} {f : Filled} {d k p n : ℕ} → Comes g t v d (items f k) p env x n → InItsSequence g t v f k p env d x n
for_came (one_deeper c (on_yes w f e k y)) = absurd (let h = for_form (for_came c) in let z : ◌≡◌ {A = ℕ} 0 1 = cc in omega arith)
for_came (one_deeper c (on_no w f e k y)) = absurd (let h = for_form (for_came c) in let z : ◌≡◌ {A = ℕ} 0 1 = cc in omega arith)
for_came (one_deeper c (an_arm w f e k y)) = absurd (let h = for_form (for_came c) in let z : ◌≡◌ {A = ℕ} 0 1 = cc in omega arith)
for_came {g} {t} {v} (one_deeper {d} {p} {n = n} {env = env} {x = x} c (a_for m z f e to h)) =
    in_sequence (subst (λ (b : Asked). Comes g t v d b p env x n) e c) f to h

-- the separator before a turn of a for, from the state after the for's own step
separator_full : {i : Input} {f : Filled} {d k l p n w u m : ℕ} {env x y : List ℕ} {s s₁ : State}
    → InItsSequence i.grammar i.templates i.value f k p env d x n → d ≤ 200 → s.text ≡ x → s.steps ≡ n
    → Finds i.templates i.value env (path p) w → kind_of i.value w ≡ 3
    → TurnsTo i.grammar i.templates i.value env f.nonterminal f.separator (first p) k (children i.value w) u (suc l) y m
    → After (counted s) y m s₁ → i.room < length s₁.text + length f.separator → Found i f.sequence s₁ output_full
unfolding counted
separator_full {f = f} {w = w} {m = m} {env = env} {y = y} {s₁ = s₁} (in_sequence {d} {n} {m = j} {x} {y = z} c q to h) shallow a b e r turns more less =
    not_written d n (j + suc m) _ env f.separator x (z ++ y) c (omega arith) (before_turn f.nonterminal w q refl to h e r turns)
    (more.text_more ∙ ap (λ (o : List ℕ). o ++ y) a ∙ append_assoc x z y)
    (let o = more.steps_more in omega arith) less

module _ (i : Input) where
  open i use {grammar as g, templates as t, value as v}

  past_node : {f : Filled} {k b l c j m n : ℕ} {env cs x y : List ℕ} → ANode i f k env b l x m → ItemsTo g t v env f.nonterminal f.separator l cs c j y n
      → ItemsTo g t v env f.nonterminal f.separator k (b ∷ cs) c j (x ++ y) (m + n)
  past_node (item_node h (z, u, q, b, d)) to = rw q (past_item h b d to)
  past_node (for_node h a r b) to = past_for h a r b to

  -- what is done has written by the rules, and then comes what follows
  then_wrote : {P : List ℕ → ℕ → Type 0} {s : State} (e : End) (next : State → End) → Fair i e → ((s₁ : State) → e ≡ done s₁ → Wrote P s s₁)
      → ((x : List ℕ) (m : ℕ) (s₁ : State) → P x m → After s x m s₁ → Fair i (next s₁)) → Fair i (and_then e next)
  then_wrote e next h w f =
      then_fair e next h λ s₁ q. let (x, m, a, b, d) = w s₁ q in f x m s₁ d (record { text_more = a; steps_more = b })

  write_alone : (p : ℕ) (x : List ℕ) (s : State) → (i.room < length s.text + length x → Found i p s output_full) → Fair i (write i.room p x s)
  unfolding write
  write_alone p x s f = go (leb (length s.text + length x) i.room) refl
    where
      go : (b : Bool) → leb (length s.text + length x) i.room ≡ b
          → Fair i (cond b (done (record { steps = s.steps; text = s.text ++ x })) (ended output_full p s))
      go true e = is_done _
      go false e = is_ended output_full p s (f (leb-false _ _ e))

  write_fair : (p : ℕ) (x : List ℕ) (s : State) → (i.room < length s.text + length x → Found i p s output_full)
      → {next : State → End} → ((s₁ : State) → After s x 0 s₁ → Fair i (next s₁)) → Fair i (and_then (write i.room p x s) next)
  write_fair p x s f {next} h =
      then_fair (write i.room p x s) next (write_alone p x s f) λ s₁ e.
      let w = write_done i.room p x s s₁ e in h s₁ (record { text_more = w.0; steps_more = w.1 ∙ sym (add-zero s.steps) })

  module _ (k : ℕ) where
    -- from s on, each child that a build comes to is visited so, and each keyword that has no room is found so
    abbrev ChildrenFair : List ℕ → List Element → List ℕ → State → Type 0
    ChildrenFair env es cs s = (e : Element) (c m : ℕ) (y : List ℕ) (s₁ : State) → BuildsTo g t v env es cs e c y m → After s y m s₁
        → Fair i (visit i k (piece e) c env s₁)

    abbrev KeywordsFair : ℕ → List ℕ → List Element → List ℕ → State → Type 0
    KeywordsFair p env es cs s = (w y : List ℕ) (m : ℕ) (s₁ : State) → BuildsUpTo g t v env es cs w y m → After s y m s₁
        → i.room < length s₁.text + length w → Found i p s₁ output_full

    abbrev PiecesFair : ℕ → List ℕ → List Element → Type 0
    PiecesFair p env es = (cs : List ℕ) (s : State) → ChildrenFair env es cs s → KeywordsFair p env es cs s
        → Fair i (pieces (write i.room p) (λ e c. visit i k (piece e) c env) es cs s)

    child_fair : (p : ℕ) (env : List ℕ) (e : Element) {at : Position} (es : List Element) (cs : List ℕ) (s : State) → Asks e at → ChildrenFair env (e ∷ es) cs s
        → KeywordsFair p env (e ∷ es) cs s → PiecesFair p env es
        → Fair i (with_child (λ c. visit i k (piece e) c env) cs (pieces (write i.room p) (λ e c. visit i k (piece e) c env) es) s)
    unfolding with_child
    child_fair p env e es [] s a hc hw rest = is_stuck
    child_fair p env e es (c ∷ cs) s a hc hw rest =
        then_wrote (visit i k (piece e) c env s) _ (hc e c 0 [] s (this_child a) (after_none s)) ((visit_evaluated i k).of_piece e c env s) λ x m s₁ d b.
        rest cs s₁ (λ f c n y s₂ to l. hc f c _ _ s₂ (past_child a d to) (after_more b l)) (λ w y n s₂ to l. hw w _ _ s₂ (past_child a d to) (after_more b l))

    pieces_fair : (p : ℕ) (env : List ℕ) (es : List Element) → PiecesFair p env es
    unfolding pieces
    pieces_fair p env [] cs s hc hw = is_done s
    pieces_fair p env (keyword x ∷ es) cs s hc hw =
        write_fair p x s (hw x [] 0 s this_keyword (after_none s)) λ s₁ b.
        pieces_fair p env es cs s₁ (λ e c n y s₂ to l. hc e c n _ s₂ (past_keyword to) (after_text b l))
        (λ w y n s₂ to l. hw w _ n s₂ (past_keyword to) (after_text b l))
    pieces_fair p env (lexeme c ∷ es) cs s hc hw = child_fair p env _ es cs s (asks_a_class c) hc hw (pieces_fair p env es)
    pieces_fair p env (nonterminal n ∷ es) cs s hc hw = child_fair p env _ es cs s (asks_a_nonterminal n) hc hw (pieces_fair p env es)
    pieces_fair p env (repetition n x ∷ es) cs s hc hw = child_fair p env _ es cs s (asks_a_repetition n x) hc hw (pieces_fair p env es)
    pieces_fair p env (unknown ∷ es) cs s hc hw = child_fair p env _ es cs s asks_nothing hc hw (pieces_fair p env es)

    -- an item: its separator has no room, or it is visited after that
    item_fair : (f : Filled) (l c : ℕ) (env : List ℕ) (s : State)
        → ((m : ℕ) → l ≡ suc m → i.room < length s.text + length f.separator → Found i f.sequence s output_full)
        → ((z : List ℕ) (s₁ : State) → BeforeItem f.separator l z → After s z 0 s₁ → Fair i (visit i k (piece (nonterminal f.nonterminal)) c env s₁))
        → Fair i (visit_item i.room (visit i k) f l c env s)
    unfolding visit_item separate and_then
    item_fair f zero c env s full h = h [] s the_first (after_none s)
    item_fair f (suc l) c env s full h = write_fair f.sequence f.separator s (full l refl) λ s₁ a. h _ s₁ another a

    items_fair : (f : Filled) (env : List ℕ) (j : ℕ) (cs : List ℕ) (s : State)
        → ((c l m : ℕ) (y : List ℕ) (s₁ : State) → ItemsTo g t v env f.nonterminal f.separator j cs c l y m → After s y m s₁
        → Fair i (visit_in i (visit i k) f env l c s₁))
        → Fair i (in_order (items_of i env) (visit_in i (visit i k) f env) j cs s)
    unfolding in_order
    items_fair f env j [] s h = is_done s
    items_fair f env j (c ∷ cs) s h =
        then_wrote (visit_in i (visit i k) f env j c s) _ (h c j 0 [] s this_node (after_none s))
        (node_evaluated i (visit i k) (visit_evaluated i k) f j c env s) λ x m s₁ d b.
        items_fair f env (j + items_of i env c) cs s₁ (λ c l n y s₂ to r. h c l _ _ s₂ (past_node d to) (after_more b r))

    turns_fair : (f : Filled) (env : List ℕ) (p j : ℕ) (ws : List ℕ) (s : State)
        → ((w l m : ℕ) (y : List ℕ) (s₁ : State) → TurnsTo g t v env f.nonterminal f.separator p j ws w l y m → After s y m s₁
        → Fair i (visit_item i.room (visit i k) f l p (env ++ w ∷ []) s₁))
        → Fair i (in_order (λ w. 1) (λ l w. visit_item i.room (visit i k) f l p (env ++ w ∷ [])) j ws s)
    unfolding in_order
    turns_fair f env p j [] s h = is_done s
    turns_fair f env p j (w ∷ ws) s h =
        then_wrote (visit_item i.room (visit i k) f j p (env ++ w ∷ []) s) _ (h w j 0 [] s this_turn (after_none s))
        (item_evaluated i (visit i k) (visit_evaluated i k) f j p (env ++ w ∷ []) s) λ x m s₁ (z, u, q, d, e) b.
        turns_fair f env p (j + 1) ws s₁ (λ c l n y s₂ to r. h c l _ _ s₂ (rw q (past_turn d e to)) (after_more b r))

    -- from the state after the node's step
    module _ (d : ℕ) (a : Asked) (p : ℕ) (env : List ℕ) (s : State) (came : Comes g t v d a p env s.text s.steps) (shallow : d ≤ 200)
        (deeper : (b : Asked) (q : ℕ) (env' : List ℕ) (s₁ : State) → Comes g t v (suc d) b q env' s₁.text s₁.steps → Fair i (visit i k b q env' s₁)) where
      under_it : {b : Asked} {q m : ℕ} {env' y : List ℕ} (s₁ : State) → Before g t v a p env b q env' y m → After (counted s) y m s₁ → Fair i (visit i k b q env' s₁)
      unfolding counted
      under_it {b} {q} {m} {env'} {y} s₁ h r = deeper b q env' s₁ (rw (r.text_more, r.steps_more) (one_deeper came h))

      full : {k y : List ℕ} {m : ℕ} (s₁ : State) → Next g t v a p env k y m → After (counted s) y m s₁ → i.room < length s₁.text + length k → Found i p s₁ output_full
      unfolding counted
      full {k} {y} {m} s₁ b r l = not_written d s.steps m a env k s.text y came shallow b r.text_more r.steps_more l

      branch_fair : (w : ℕ) (yes? : Bool) → form_of t p ≡ If → Finds t v env (path p) w → as_yes_no v w ≡ some yes?
          → Fair i (visit i k a (cond yes? (first p) (second t p)) env (counted s))
      branch_fair w true f e b = let r = (yes_is v w).0 b in under_it _ (on_yes w f e r.0 r.1) (after_none (counted s))
      branch_fair w false f e b = let r = (no_is v w).0 b in under_it _ (on_no w f e r.0 r.1) (after_none (counted s))

      arm_fair : (w : ℕ) (c : Case) → form_of t p ≡ Match → Finds t v env (path p) w → as_case v w ≡ some c
          → Fair i (on_found (nth (arms t p) c.number) stuck λ arm. visit i k a arm (env ++ c.inside ∷ []) (counted s))
      arm_fair w c f e b =
          let (r, is) = (case_is v w c).0 b in
          rw (← is) (found_fair _ _ λ arm y. under_it _ (an_arm w f e r y) (after_none (counted s)))

      -- a node of the sequence at p
      node_fair : (n : ℕ) (x : List ℕ) {c l m : ℕ} {y : List ℕ} (s₁ : State) → form_of t p ≡ Sequence → a ≡ piece (repetition n x)
          → ItemsTo g t v env n x 0 (nodes t p) c l y m → After (counted s) y m s₁ → Fair i (visit_in i (visit i k) (filling p n x) env l c s₁)
      node_fair n x {c} {l} {m} {y} s₁ f r to b = go _ (is_for_lem (form_of t c))
        where
          go : (z : Bool) → IsFor (form_of t c) z → Fair i (visit_in i (visit i k) (filling p n x) env l c s₁)
          go true (is-a-for h) = rw (for_visited i env c (visit i k) (filling p n x) l h) (under_it s₁ (a_for n x f r to h) b)
          go false (no_for h) =
              rw (item_visited i env c (visit i k) (filling p n x) l h)
              (item_fair (filling p n x) l c env s₁
              (λ j e less. full s₁ (before_item n f r (subst (λ (z : ℕ). ItemsTo g t v env n x 0 (nodes t p) c z y m) e to) h) b less)
              (λ z s₂ q w. under_it s₂ (an_item n x f r to h q) (text_after b w)))

      for_fair : (b : Asked) → a ≡ b → form_of t p ≡ For → Fair i (visit_form i For (visit i k) b p env (counted s))
      unfolding visit_form counted
      for_fair (piece e) q f = is_stuck
      for_fair (items h j) q f = found_fair _ _ λ ws b.
          let (w, e, r, c) = listed_is i env p ws b in
          turns_fair h env (first p) j ws (counted s) λ u l m y s₁ to z.
          item_fair h l (first p) (env ++ u ∷ []) s₁
          (λ n o less. separator_full (for_came (subst (λ (b : Asked). Comes g t v d b p env s.text s.steps) q came)) shallow refl refl e r
          (subst (λ (b : ℕ). TurnsTo g t v env h.nonterminal h.separator (first p) j (children v w) u b y m) o (rw c to)) z less)
          (λ o s₂ n x. under_it s₂ (a_turn h j w f q e r (subst (λ (b : List ℕ). TurnsTo g t v env h.nonterminal h.separator (first p) j b u l y m) (sym c) to) n)
          (text_after z x))

      -- a place has an element's position: items are asked of a for only
      place_fair : (b : Asked) → a ≡ b → form_of t p ≡ Place → Fair i (visit_form i Place (visit i k) b p env (counted s))
      unfolding visit_form
      place_fair (piece el) q f = found_fair _ _ λ w e. found_fair _ _ λ x b. let r = (text_is v w x).0 b in
          write_alone p _ (counted s)
          (full (counted s) (text_found w el f q ((finds_exactly t v env _ w).0 e) r.0 (place_text g el r.1)) (after_none (counted s)))
      place_fair (items h j) q f =
          absurd (place_no_for f (for_form (for_came (subst (λ (b : Asked). Comes g t v d b p env s.text s.steps) q came))))

      form_fair : (f : Form) → form_of t p ≡ f → Fair i (visit_form i f (visit i k) a p env (counted s))
      unfolding visit_form
      form_fair Build f = found_fair _ _ λ q e.
          pieces_fair p env _ _ (counted s) (λ e' c m y s₁ b l. under_it s₁ (a_child q f e b) l) (λ w y m s₁ b l. full s₁ (a_keyword q f e b) l)
      form_fair Literal f = write_alone p _ (counted s) (full (counted s) (its_text f) (after_none (counted s)))
      form_fair Place f = place_fair a refl f
      form_fair Expand f = found_fair _ _ λ q e. found_fair _ _ λ ws b.
          under_it _ (a_body q ws f e ((finds_all_exactly t v env _ ws).0 b)) (after_none (counted s))
      form_fair If f = found_fair _ _ λ w e. found_fair _ _ λ yes? b. branch_fair w yes? f ((finds_exactly t v env _ w).0 e) b
      form_fair For f = for_fair a refl f
      form_fair Sequence f = found_fair _ _ λ h b.
          let (n, x, r, e) = filled_by_lem p a h b in
          rw e (items_fair (filling p n x) env 0 (nodes t p) (counted s) λ c l m y s₁ to z. node_fair n x s₁ f r to z)
      form_fair Match f = found_fair _ _ λ w e. found_fair _ _ λ c b. arm_fair w c f ((finds_exactly t v env _ w).0 e) b
      form_fair Unknown f = is_stuck

  reached_fair : (b : Bool) (d : ℕ) (a : Asked) (p : ℕ) (env : List ℕ) (next : State → End) (s : State) → Comes g t v d a p env s.text s.steps → d ≤ 201
      → Fair i (next (counted s)) → Fair i (reached b p next s)
  unfolding reached
  reached_fair true d a p env next s came l h = h
  reached_fair false d a p env next s came l h = is_ended fuel_spent p s (not_counted d a env came l)

  visit_fair : (k d : ℕ) (a : Asked) (p : ℕ) (env : List ℕ) (s : State) → d + k ≡ 201 → Comes g t v d a p env s.text s.steps → Fair i (visit i k a p env s)
  unfolding visit counted
  visit_fair zero d a p env s e came =
      let z : d ≡ 201 = omega arith in
      reached_fair _ d a p env _ s came (omega arith)
      (is_ended too_deep p _ (counted_too s.steps a env (subst (λ (m : ℕ). Comes g t v m a p env s.text s.steps) z came) refl))
  visit_fair (suc k) d a p env s e came =
      reached_fair _ d a p env _ s came (omega arith)
      (form_fair k d a p env s came (omega arith) (λ b q env' s₁ c. visit_fair k (suc d) b q env' s₁ (omega arith) c) _ refl)

  walk_fair : Fair i (walk i)
  unfolding walk deepest start
  walk_fair = found_fair _ _ λ q e. visit_fair 200 1 _ _ (0 ∷ []) start refl (root_body q e)

fair_found : {i : Input} {l : Limit} {p : ℕ} {s : State} → Fair i (ended l p s) → Found i p s l
fair_found (is_ended l p s f) = f

-- Each limit finds the walk where it comes by the evaluation rules: at that node, with that text and those steps.
pub limits_find : (i : Input) (l : Limit) (p : ℕ) (s : State) → walk i ≡ ended l p s → Found i p s l
limits_find i l p s e = fair_found (subst (Fair i) e (walk_fair i))
