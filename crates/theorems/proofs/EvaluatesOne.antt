-- The evaluation rules give at most one text, with one number of steps.
-- (In proofs/, as it rests on definitions that a must-fail edit changes.)
use Rattle.std.specs.Prelude.{◌≡◌, refl, ℕ, suc, ◌+◌, List, [], ◌∷◌, ◌++◌, length, true, false, cond}
use Rattle.std.proofs.Common.{sym, ◌∙◌, ap, subst, zero-add}
use Rattle.std.proofs.Math.Option.{Option, some, some-injective}
use Rattle.rules.specs.Records.{kind_of, field_b, text_of, nth}
use Rattle.rules.specs.Grammar.{production, elements, Element, keyword, nonterminal, repetition}
use Rattle.rules.specs.Templates.{template, body, form_of, nodes, paths, path, first, second, arms}
use Rattle.rules.specs.Value.{children, as_text, as_yes_no, as_case}
use Rattle.rules.specs.Walk.{path_value, path_values}
use Rattle.rules.specs.declared.Form.{Form}
use Rattle.rules.specs.declared.Form.TheVariants.{Build, Literal, Place, Expand, If, For, Sequence, Match, Unknown}
use Rattle.rules.specs.declared.Position.{Position}
use Rattle.theorems.specs.Children.{Asks}
use Rattle.theorems.specs.Finds.{Finds, text_is, yes_is, no_is, path_found, paths_found, case_is}
use Rattle.theorems.specs.Places.{PlaceWrites}
use Rattle.theorems.proofs.Places.{place_one}
use Rattle.theorems.specs.Evaluation.{BeforeItem, the_first, another, Evaluates, build, literal, place, expand, then, else, sequence, Builds, no_element, own_bytes, next_child, match}
use Rattle.theorems.specs.Evaluation.{Items, no_item, one_item, for, Loops, no_turn, one_turn, EvaluatesSet}

-- something is found, and P holds of it
abbrev Found : {A : Type 0} → Option A → (A → Type 0) → Type 0
Found {A} o P = (a : A) × (o ≡ some a) × P a

found_one : {A : Type 0} {o : Option A} {a : A} (P : A → Type 0) → o ≡ some a → Found o P → P a
found_one {a} P e (b, e', h) = subst P (some-injective b a (sym e' ∙ e)) h

-- of the texts and steps of P there is no other than x and n
abbrev Only : (List ℕ → ℕ → Type 0) → List ℕ → ℕ → Type 0
Only P x n = (y : List ℕ) (m : ℕ) → P y m → (x ≡ y) × (n ≡ m)

-- a text of P and then one of R
abbrev Joined : (List ℕ → ℕ → Type 0) → (List ℕ → ℕ → Type 0) → List ℕ → ℕ → Type 0
Joined P R x n = (a b : List ℕ) × (k l : ℕ) × (a ++ b ≡ x) × (k + l ≡ n) × P a k × R b l

joined_only : {P R : List ℕ → ℕ → Type 0} {a b : List ℕ} {k l : ℕ} → Only P a k → Only R b l → Only (Joined P R) (a ++ b) (k + l)
joined_only h j x n (a', b', k', l', e, f, p, r) = let u = h a' k' p in let w = j b' l' r in (cc (u.0, w.0), cc (u.1, w.1))

-- one step, and then P
abbrev Stepped : (List ℕ → ℕ → Type 0) → List ℕ → ℕ → Type 0
Stepped P x n = (m : ℕ) × (suc m ≡ n) × P x m

stepped_only : {P : List ℕ → ℕ → Type 0} {x : List ℕ} {n : ℕ} → Only P x n → Only (Stepped P) x (suc n)
stepped_only h y m (k, e, p) = let u = h y k p in (u.0, ap suc u.1 ∙ e)

-- a path finds one value; one text stands before an item
finds_one : {t v env : List ℕ} {p w u : ℕ} → Finds t v env p w → Finds t v env p u → w ≡ u
finds_one {w} {u} a b = some-injective w u (sym (path_found a) ∙ path_found b)

before_one : {between z y : List ℕ} {k : ℕ} → BeforeItem between k z → BeforeItem between k y → z ≡ y
before_one the_first the_first = refl
before_one another another = refl

module _ (g t v : List ℕ) where
  -- what the rule for a form asks of a node, beside its step; a for has none, as it stands in a sequence only
  abbrev Rule : Form → List ℕ → Element → ℕ → List ℕ → ℕ → Type 0
  Rule Build env e p x n = Found (production g (field_b t p)) λ q. Builds g t v env (elements g q) (nodes t p) x n
  Rule Literal env e p x n = (text_of t (field_b t p) p ≡ x) × (0 ≡ n)
  Rule Place env e p x n = Found (path_value t v env (path p)) λ w. Found (as_text v w) λ z. PlaceWrites g e z x × (0 ≡ n)
  Rule Expand env e p x n =
      Found (template t (field_b t p)) λ q. Found (path_values t v env (paths t p)) λ ws. Evaluates g t v ws (nonterminal (field_b t q)) (body t q) x n
  Rule If env e p x n = Found (path_value t v env (path p)) λ w. Found (as_yes_no v w) λ y. Evaluates g t v env e (cond y (first p) (second t p)) x n
  Rule For env e p x n = ⊥
  Rule Sequence env e p x n = (m : ℕ) × (between : List ℕ) × (e ≡ repetition m between) × Items g t v env m between 0 (nodes t p) x n
  Rule Match env e p x n =
      Found (path_value t v env (path p)) λ w. Found (as_case v w) λ c. Found (nth (arms t p) c.number) λ arm. Evaluates g t v (env ++ c.inside ∷ []) e arm x n
  Rule Unknown env e p x n = ⊥

  ruled : {env : List ℕ} {e : Element} {p n : ℕ} {x : List ℕ} → Evaluates g t v env e p x n → Stepped (Rule (form_of t p) env e p) x n
  ruled (build f q b) = (_, refl, rw f (_, q, b))
  ruled (literal f) = (_, refl, rw f (refl, refl))
  ruled (place f w k y) = (_, refl, rw f (_, path_found w, (_, (text_is v _ _).1 (k, refl), (y, refl))))
  ruled (expand f q ws b) = (_, refl, rw f (_, q, (_, paths_found ws, b)))
  ruled (then f w k y b) = (_, refl, rw f (_, path_found w, (true, (yes_is v _).1 (k, y), b)))
  ruled (else f w k y b) = (_, refl, rw f (_, path_found w, (false, (no_is v _).1 (k, y), b)))
  ruled (sequence f b) = (_, refl, rw f (_, _, refl, b))
  ruled (match f w k a b) = (_, refl, rw f (_, path_found w, (_, (case_is v _ _).1 (k, refl), (_, a, b))))

  -- so a node has no other text than the rule for its form gives
  by_form : {env : List ℕ} {e : Element} {p n : ℕ} {x : List ℕ} (f : Form) → form_of t p ≡ f → Only (Rule f env e p) x n → Only (Evaluates g t v env e p) x (suc n)
  by_form {env} {e} {p} f q h y m d = stepped_only h y m (let (k, s, r) = ruled d in (k, s, subst (λ (z : Form). Rule z env e p y k) q r))

  sequence_only : {env between cs x : List ℕ} {m n : ℕ} → Only (Items g t v env m between 0 cs) x n
      → Only (λ y l. (k : ℕ) × (z : List ℕ) × (repetition m between ≡ repetition k z) × Items g t v env k z 0 cs y l) x n
  sequence_only {between = between} {m = m} h y l (k, z, e, is) = let a : m ≡ k = cc in let b : between ≡ z = cc in h y l (rw (a, b) is)

  -- what the rules for elements, items and turns ask
  no_element_only : {env cs : List ℕ} → Only (Builds g t v env [] cs) [] 0
  no_element_only y m no_element = (refl, refl)

  keyword_only : {env cs w y : List ℕ} {es : List Element} {n : ℕ} → Only (Builds g t v env es cs) y n → Only (Builds g t v env (keyword w ∷ es) cs) (w ++ y) n
  keyword_only {env = env} {w = w} {y = y} {es = es} {n = n} h _ _ (next_child {cs = cs} {at = at} {c = c} {m = m} x23 _ _) = elim x23 [ ]
  keyword_only {w = w} h z m (own_bytes b) = let u = h _ _ b in (ap (λ (a : List ℕ). w ++ a) u.0, u.1)

  child_joined : {env cs x : List ℕ} {e : Element} {at : Position} {c n : ℕ} {es : List Element} → Asks e at → Builds g t v env (e ∷ es) (c ∷ cs) x n
      → Joined (Evaluates g t v env e c) (Builds g t v env es cs) x n
  child_joined {env = env} {cs = cs} {at = at} {c = c} {n = n} {es = es} a (own_bytes {w = w} {y = y} _) = elim a [ ]
  child_joined a (next_child b d r) = (_, _, _, _, refl, refl, d, r)

  -- what stands before an item, and its text
  abbrev AnItem : List ℕ → List ℕ → ℕ → ℕ → ℕ → List ℕ → ℕ → Type 0
  AnItem env between m k c = Joined (λ z n. BeforeItem between k z × (0 ≡ n)) (Evaluates g t v env (nonterminal m) c)

  item_only : {env between z x : List ℕ} {m k c n : ℕ} → BeforeItem between k z → Only (Evaluates g t v env (nonterminal m) c) x n
      → Only (AnItem env between m k c) (z ++ x) n
  item_only b h y l r = let u = joined_only (λ a j q. (before_one b q.0, q.1)) h y l r in (u.0, sym (zero-add _) ∙ u.1)

  item_joined : {env between cs x : List ℕ} {m k c n : ℕ} → (form_of t c ≡ For → ⊥) → Items g t v env m between k (c ∷ cs) x n
      → Joined (AnItem env between m k c) (Items g t v env m between (k + 1) cs) x n
  item_joined f (one_item h b d is) = (_, _, _, _, refl, refl, (_, _, _, _, refl, zero-add _, (b, refl), d), is)
  item_joined f (for h w r l is) = absurd (f h)

  -- a for with its own step, and what follows it
  abbrev AFor : List ℕ → List ℕ → ℕ → ℕ → ℕ → List ℕ → List ℕ → ℕ → Type 0
  AFor env between m k c ws = Stepped (Loops g t v env m between k (first c) ws)

  for_joined : {env between cs x : List ℕ} {m k c w n : ℕ} → form_of t c ≡ For → Finds t v env (path c) w → kind_of v w ≡ 3
      → Items g t v env m between k (c ∷ cs) x n
      → Joined (AFor env between m k c (children v w)) (Items g t v env m between (k + length (children v w)) cs) x n
  for_joined f a r (one_item h b d is) = absurd (h f)
  for_joined f a r (for h a' r' l is) = rw (finds_one a a') (_, _, _, _, refl, refl, (_, refl, l), is)

  turn_joined : {env between ws x : List ℕ} {m k p w n : ℕ} → Loops g t v env m between k p (w ∷ ws) x n
      → Joined (AnItem (env ++ w ∷ []) between m k p) (Loops g t v env m between (k + 1) p ws) x n
  turn_joined (one_turn b d r) = (_, _, _, _, refl, refl, (_, _, _, _, refl, zero-add _, (b, refl), d), r)

  no_item_only : {env between : List ℕ} {m k : ℕ} → Only (Items g t v env m between k []) [] 0
  no_item_only y n no_item = (refl, refl)

  no_turn_only : {env between : List ℕ} {m k p : ℕ} → Only (Loops g t v env m between k p []) [] 0
  no_turn_only y n no_turn = (refl, refl)

  one_text : {env : List ℕ} {e : Element} {p n : ℕ} {x : List ℕ} → Evaluates g t v env e p x n → Only (Evaluates g t v env e p) x n
  one_text d = elim d as
      (λ env e p x n d. Only (Evaluates g t v env e p) x n)
      (λ env es cs x n d. Only (Builds g t v env es cs) x n)
      (λ env m between k cs x n d. Only (Items g t v env m between k cs) x n)
      (λ env m between k p ws x n d. Only (Loops g t v env m between k p ws) x n) [
        | build f q (b → h) ↦ by_form Build f λ y m r. h y m (found_one _ q r)
        | literal f ↦ by_form Literal f λ y m r. r
        | place f w k h ↦ by_form Place f λ y m r.
            let z = found_one _ ((text_is v _ _).1 (k, refl)) (found_one _ (path_found w) r) in (place_one h z.0, z.1)
        | expand f q ws (b → h) ↦ by_form Expand f λ y m r. h y m (found_one _ (paths_found ws) (found_one _ q r))
        | then f w k z (b → h) ↦ by_form If f λ y m r. h y m (found_one _ ((yes_is v _).1 (k, z)) (found_one _ (path_found w) r))
        | else f w k z (b → h) ↦ by_form If f λ y m r. h y m (found_one _ ((no_is v _).1 (k, z)) (found_one _ (path_found w) r))
        | sequence f (b → h) ↦ by_form Sequence f (sequence_only h)
        | match f w k a (b → h) ↦ by_form Match f λ y m r.
            h y m (found_one _ a (found_one _ ((case_is v _ _).1 (k, refl)) (found_one _ (path_found w) r)))
        | no_element ↦ no_element_only
        | own_bytes (b → h) ↦ keyword_only h
        | next_child a (b → k) (c → h) ↦ λ y m e. joined_only k h y m (child_joined a e)
        | no_item ↦ no_item_only
        | one_item f z (a → k) (b → h) ↦ λ y m e. joined_only (item_only z k) h y m (item_joined f e)
        | for f w r (a → k) (b → h) ↦ λ y m e. joined_only (stepped_only k) h y m (for_joined f w r e)
        | no_turn ↦ no_turn_only
        | one_turn z (a → k) (b → h) ↦ λ y m e. joined_only (item_only z k) h y m (turn_joined e)
      ]

pub evaluates_one : (g t v x y : List ℕ) (n m : ℕ) → EvaluatesSet g t v x n → EvaluatesSet g t v y m → (x ≡ y) × (n ≡ m)
evaluates_one g t v x y n m a b =
    one_text g t v a.evaluates y m
    (found_one (λ q. Evaluates g t v (0 ∷ []) (nonterminal (field_b t q)) (body t q) y m) a.template_0 (b.head, b.template_0, b.evaluates))
