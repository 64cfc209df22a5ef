-- Where a limit finds a walk: at a node to which it comes with just the text and the steps of what it has evaluated before that node.
-- From the set and the value alone: no fuel and no room stand here.
use Rattle.std.specs.Prelude.{◌≡◌, ℕ, suc, ◌+◌, ◌≤◌, ◌<◌, List, [], ◌∷◌, ◌++◌, length}
use Rattle.std.proofs.Math.Option.{some}
use Rattle.rules.specs.Records.{kind_of, field_a, field_b, text_of, nth}
use Rattle.rules.specs.Grammar.{production, Element, keyword, nonterminal, repetition, elements}
use Rattle.rules.specs.Templates.{template, body, form_of, nodes, paths, path, first, second, arms}
use Rattle.rules.specs.Value.{children, content}
use Rattle.rules.specs.Walk.{Input, State, Limit, fuel_spent, too_deep, output_full, Filled, Asked, piece, items}
use Rattle.rules.specs.declared.Form.TheVariants.{Build, Literal, Place, Expand, If, For, Sequence, Match}
use Rattle.rules.specs.declared.Position.{Position}
use Rattle.theorems.specs.Children.{Asks}
use Rattle.theorems.specs.Finds.{Finds, FindsAll}
use Rattle.theorems.specs.Places.{PlaceWrites}
use Rattle.theorems.specs.Levels.{filling}
use Rattle.theorems.specs.Evaluation.{BeforeItem, Evaluates, Loops}

-- what a build has written and counted before it visits the child c for the element f: its keywords and children before that one, in order
pub data BuildsTo (g t v env : List ℕ) : List Element → List ℕ → Element → ℕ → List ℕ → ℕ → Type 0 where
  this_child : {e : Element} {at : Position} {c : ℕ} {es : List Element} {cs : List ℕ} → Asks e at → BuildsTo g t v env (e ∷ es) (c ∷ cs) e c [] 0
  past_keyword : {f : Element} {w y : List ℕ} {c n : ℕ} {es : List Element} {cs : List ℕ} → BuildsTo g t v env es cs f c y n
      → BuildsTo g t v env (keyword w ∷ es) cs f c (w ++ y) n
  past_child : {e f : Element} {at : Position} {b c m n : ℕ} {es : List Element} {cs x y : List ℕ} → Asks e at → Evaluates g t v env e b x m
      → BuildsTo g t v env es cs f c y n → BuildsTo g t v env (e ∷ es) (b ∷ cs) f c (x ++ y) (m + n)

-- and before it writes the keyword k
pub data BuildsUpTo (g t v env : List ℕ) : List Element → List ℕ → List ℕ → List ℕ → ℕ → Type 0 where
  this_keyword : {k : List ℕ} {es : List Element} {cs : List ℕ} → BuildsUpTo g t v env (keyword k ∷ es) cs k [] 0
  past_keyword : {k w y : List ℕ} {n : ℕ} {es : List Element} {cs : List ℕ} → BuildsUpTo g t v env es cs k y n → BuildsUpTo g t v env (keyword w ∷ es) cs k (w ++ y) n
  past_child : {e : Element} {at : Position} {b m n : ℕ} {es : List Element} {k cs x y : List ℕ} → Asks e at → Evaluates g t v env e b x m
      → BuildsUpTo g t v env es cs k y n → BuildsUpTo g t v env (e ∷ es) (b ∷ cs) k (x ++ y) (m + n)

-- A sequence, whose items are of nonterminal m and separated by z, before its node c; a for, whose body is at p, before the turn of the item w.
-- k items came before the nodes or the turns that are left, and l before c or w.
pub data ItemsTo (g t v env : List ℕ) (m : ℕ) (z : List ℕ) : ℕ → List ℕ → ℕ → ℕ → List ℕ → ℕ → Type 0 where
  this_node : {k c : ℕ} {cs : List ℕ} → ItemsTo g t v env m z k (c ∷ cs) c k [] 0
  past_item : {k l b c i n : ℕ} {cs a x y : List ℕ} → (form_of t b ≡ For → ⊥) → BeforeItem z k a → Evaluates g t v env (nonterminal m) b x i
      → ItemsTo g t v env m z (k + 1) cs c l y n → ItemsTo g t v env m z k (b ∷ cs) c l (a ++ x ++ y) (i + n)
  past_for : {k l b c w i n : ℕ} {cs x y : List ℕ} → form_of t b ≡ For → Finds t v env (path b) w → kind_of v w ≡ 3
      → Loops g t v env m z k (first b) (children v w) x i → ItemsTo g t v env m z (k + length (children v w)) cs c l y n
      → ItemsTo g t v env m z k (b ∷ cs) c l (x ++ y) (suc i + n)

pub data TurnsTo (g t v env : List ℕ) (m : ℕ) (z : List ℕ) (p : ℕ) : ℕ → List ℕ → ℕ → ℕ → List ℕ → ℕ → Type 0 where
  this_turn : {k w : ℕ} {ws : List ℕ} → TurnsTo g t v env m z p k (w ∷ ws) w k [] 0
  past_turn : {k l u w i n : ℕ} {ws a x y : List ℕ} → BeforeItem z k a → Evaluates g t v (env ++ u ∷ []) (nonterminal m) p x i
      → TurnsTo g t v env m z p (k + 1) ws w l y n → TurnsTo g t v env m z p k (u ∷ ws) w l (a ++ x ++ y) (i + n)

-- `Before g t v a p env b q env' y m`: a visit of p with the variables env comes to visit q with env'; by then it has written y and counted m nodes below p.
-- What their positions ask for is a and b. Before an item, and "before the item's fuel and depth are tried", comes the separator.
pub data Before (g t v : List ℕ) (a : Asked) (p : ℕ) (env : List ℕ) : Asked → ℕ → List ℕ → List ℕ → ℕ → Type 0 where
  a_child : (q : ℕ) {e : Element} {c m : ℕ} {y : List ℕ} → form_of t p ≡ Build → production g (field_b t p) ≡ some q
      → BuildsTo g t v env (elements g q) (nodes t p) e c y m → Before g t v a p env (piece e) c env y m
  a_body : (q : ℕ) (ws : List ℕ) → form_of t p ≡ Expand → template t (field_b t p) ≡ some q → FindsAll t v env (paths t p) ws
      → Before g t v a p env (piece (nonterminal (field_b t q))) (body t q) ws [] 0
  on_yes : (w : ℕ) → form_of t p ≡ If → Finds t v env (path p) w → kind_of v w ≡ 2 → field_a v w ≡ 1 → Before g t v a p env a (first p) env [] 0
  on_no : (w : ℕ) → form_of t p ≡ If → Finds t v env (path p) w → kind_of v w ≡ 2 → (field_a v w ≡ 1 → ⊥) → Before g t v a p env a (second t p) env [] 0
  a_turn : (f : Filled) (k w : ℕ) {item l m : ℕ} {y z : List ℕ} → form_of t p ≡ For → a ≡ items f k → Finds t v env (path p) w → kind_of v w ≡ 3
      → TurnsTo g t v env f.nonterminal f.separator (first p) k (children v w) item l y m → BeforeItem f.separator l z
      → Before g t v a p env (piece (nonterminal f.nonterminal)) (first p) (env ++ item ∷ []) (y ++ z) m
  an_item : (n : ℕ) (x : List ℕ) {c l m : ℕ} {y z : List ℕ} → form_of t p ≡ Sequence → a ≡ piece (repetition n x) → ItemsTo g t v env n x 0 (nodes t p) c l y m
      → (form_of t c ≡ For → ⊥) → BeforeItem x l z → Before g t v a p env (piece (nonterminal n)) c env (y ++ z) m
  a_for : (n : ℕ) (x : List ℕ) {c l m : ℕ} {y : List ℕ} → form_of t p ≡ Sequence → a ≡ piece (repetition n x) → ItemsTo g t v env n x 0 (nodes t p) c l y m
      → form_of t c ≡ For → Before g t v a p env (items (filling p n x) l) c env y m
  an_arm : (w : ℕ) {c : ℕ} → form_of t p ≡ Match → Finds t v env (path p) w → kind_of v w ≡ 5 → nth (arms t p) (field_a v w) ≡ some c
      → Before g t v a p env a c (env ++ content w ∷ []) [] 0

-- `Comes g t v d a p env x n`: the walk comes to the node p, d deep, with the variables env; by then it has written x and counted n nodes, p not among them
pub data Comes (g t v : List ℕ) : ℕ → Asked → ℕ → List ℕ → List ℕ → ℕ → Type 0 where
  root_body : (q : ℕ) → template t 0 ≡ some q → Comes g t v 1 (piece (nonterminal (field_b t q))) (body t q) (0 ∷ []) [] 0
  one_deeper : {d p q n m : ℕ} {a b : Asked} {env env' x y : List ℕ} → Comes g t v d a p env x n → Before g t v a p env b q env' y m
      → Comes g t v (suc d) b q env' (x ++ y) (suc n + m)

-- the piece k that a visit of p is to write next, with what it has written and counted below p by then
pub data Next (g t v : List ℕ) (a : Asked) (p : ℕ) (env : List ℕ) : List ℕ → List ℕ → ℕ → Type 0 where
  a_keyword : (q : ℕ) {k y : List ℕ} {m : ℕ} → form_of t p ≡ Build → production g (field_b t p) ≡ some q → BuildsUpTo g t v env (elements g q) (nodes t p) k y m
      → Next g t v a p env k y m
  its_text : form_of t p ≡ Literal → Next g t v a p env (text_of t (field_b t p) p) [] 0
  text_found : (w : ℕ) (e : Element) {x : List ℕ} → form_of t p ≡ Place → a ≡ piece e → Finds t v env (path p) w → kind_of v w ≡ 1
      → PlaceWrites g e (text_of v (field_b v w) w) x → Next g t v a p env x [] 0
  -- a sequence's separator, before its own item c, which is not the first, or before a turn of its for c
  before_item : (n : ℕ) {c l m : ℕ} {x y : List ℕ} → form_of t p ≡ Sequence → a ≡ piece (repetition n x) → ItemsTo g t v env n x 0 (nodes t p) c (suc l) y m
      → (form_of t c ≡ For → ⊥) → Next g t v a p env x y m
  before_turn : (n w : ℕ) {c u k l m j : ℕ} {x y z : List ℕ} → form_of t p ≡ Sequence → a ≡ piece (repetition n x) → ItemsTo g t v env n x 0 (nodes t p) c k y m
      → form_of t c ≡ For → Finds t v env (path c) w → kind_of v w ≡ 3 → TurnsTo g t v env n x (first c) k (children v w) u (suc l) z j
      → Next g t v a p env x (y ++ z) (m + suc j)

-- where each limit finds the walk, at the node p with the steps and the text s
pub data Found (i : Input) (p : ℕ) (s : State) : Limit → Type 0 where
  -- "A node is reached with all fuel (32 bits) used; it isn't counted as a step."
  not_counted : (d : ℕ) (a : Asked) (env : List ℕ) → Comes i.grammar i.templates i.value d a p env s.text s.steps → d ≤ 201 → Found i p s fuel_spent
  -- "A node is reached at depth 201; it is counted as a step."
  counted_too : (n : ℕ) (a : Asked) (env : List ℕ) → Comes i.grammar i.templates i.value 201 a p env s.text n → s.steps ≡ suc n → Found i p s too_deep
  -- "A keyword or lexeme passes the end of the output."; for a separator "that is 12 with the sequence's place"
  not_written : (d n m : ℕ) (a : Asked) (env k x y : List ℕ) → Comes i.grammar i.templates i.value d a p env x n → d ≤ 200
      → Next i.grammar i.templates i.value a p env k y m → s.text ≡ x ++ y → s.steps ≡ suc n + m → i.room < length s.text + length k
      → Found i p s output_full
