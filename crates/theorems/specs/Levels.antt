-- The levels of a walk: template 0's body, under it the node that a visit there visits, and so on. From the set and the value alone; no steps
-- and no bytes stand here.
use Rattle.std.specs.Prelude.{ℕ, suc, ◌+◌, ◌<◌, ◌≡◌, List, [], ◌∷◌, ◌++◌, length}
use Rattle.std.proofs.Math.Option.{some}
use Rattle.rules.specs.Records.{kind_of, field_a, field_b, text_of, nth}
use Rattle.rules.specs.Grammar.{production, Element, keyword, nonterminal, repetition, elements}
use Rattle.rules.specs.Templates.{template, body, form_of, nodes, paths, path, first, second, arms}
use Rattle.rules.specs.Value.{children, content}
use Rattle.rules.specs.Walk.{Filled, Asked, piece, items}
use Rattle.rules.specs.declared.Form.TheVariants.{Build, Literal, Place, Expand, If, For, Sequence, Match}
use Rattle.laws.specs.Faults.{In}
use Rattle.theorems.specs.Children.{ChildFor}
use Rattle.theorems.specs.Finds.{Finds, FindsAll}
use Rattle.theorems.specs.Places.{PlaceWrites}

-- how many items the node c brings to the sequence that it stands in: one, "a for itself is none", but each item of its list is one
pub data Brings (t v env : List ℕ) (c : ℕ) : ℕ → Type 0 where
  one_item : (form_of t c ≡ For → ⊥) → Brings t v env c 1
  its_turns : (w : ℕ) → form_of t c ≡ For → Finds t v env (path c) w → kind_of v w ≡ 3 → Brings t v env c (length (children v w))

-- c is one of these nodes, and those before it bring n items
pub data NodeAfter (t v env : List ℕ) (c : ℕ) : List ℕ → ℕ → Type 0 where
  first_node : (cs : List ℕ) → NodeAfter t v env c (c ∷ cs) 0
  later_node : (b m n : ℕ) (cs : List ℕ) → Brings t v env b m → NodeAfter t v env c cs n → NodeAfter t v env c (b ∷ cs) (m + n)

-- one of the items that these nodes bring comes after n others, "whether from a for, the sequence itself or several fors in a row"
pub data ItemAfter (t v env cs : List ℕ) : ℕ → Type 0 where
  by_node : (c n : ℕ) → NodeAfter t v env c cs n → (form_of t c ≡ For → ⊥) → ItemAfter t v env cs n
  by_turn : (c w n k : ℕ) → NodeAfter t v env c cs n → form_of t c ≡ For → Finds t v env (path c) w → kind_of v w ≡ 3 → k < length (children v w)
      → ItemAfter t v env cs (n + k)

-- the repetition of nonterminal n, with the separator x between its items, that the sequence at p fills
abbrev pub filling : ℕ → ℕ → List ℕ → Filled
filling p n x = record { sequence = p; nonterminal = n; separator = x }

-- `Under g t v a p env a' q env'`: a visit of the node p with the variables env visits the node q, with the variables env'. What their positions ask for
-- is a and a'.
pub data Under (g t v : List ℕ) (a : Asked) (p : ℕ) (env : List ℕ) : Asked → ℕ → List ℕ → Type 0 where
  -- a build "visits the next child" for an element that is no keyword
  a_child : (q c : ℕ) (e : Element) → form_of t p ≡ Build → production g (field_b t p) ≡ some q → ChildFor (elements g q) (nodes t p) e c
      → Under g t v a p env (piece e) c env
  -- "An expand enters the body with a fresh set of variables, those that its paths find."; "A body's position is its template's nonterminal."
  a_body : (q : ℕ) (ws : List ℕ) → form_of t p ≡ Expand → template t (field_b t p) ≡ some q → FindsAll t v env (paths t p) ws
      → Under g t v a p env (piece (nonterminal (field_b t q))) (body t q) ws
  -- "An if visits only the branch taken, the first on yes (1).", "both branches in the same position"
  on_yes : (w : ℕ) → form_of t p ≡ If → Finds t v env (path p) w → kind_of v w ≡ 2 → field_a v w ≡ 1 → Under g t v a p env a (first p) env
  on_no : (w : ℕ) → form_of t p ≡ If → Finds t v env (path p) w → kind_of v w ≡ 2 → (field_a v w ≡ 1 → ⊥) → Under g t v a p env a (second t p) env
  -- "A for visits its body once for each item, in order, the item being one variable more."
  a_turn : (f : Filled) (n w item : ℕ) → form_of t p ≡ For → a ≡ items f n → Finds t v env (path p) w → kind_of v w ≡ 3 → In item (children v w)
      → Under g t v a p env (piece (nonterminal f.nonterminal)) (first p) (env ++ item ∷ [])
  -- "A sequence visits its items in order": "nodes in the position of its nonterminal or a for"
  an_item : (n c : ℕ) (x : List ℕ) → form_of t p ≡ Sequence → a ≡ piece (repetition n x) → In c (nodes t p) → (form_of t c ≡ For → ⊥)
      → Under g t v a p env (piece (nonterminal n)) c env
  a_for : (n c m : ℕ) (x : List ℕ) → form_of t p ≡ Sequence → a ≡ piece (repetition n x) → NodeAfter t v env c (nodes t p) m → form_of t c ≡ For
      → Under g t v a p env (items (filling p n x) m) c env
  -- 02 g: a match visits only the arm of its case, with "one more variable, the case's content"
  an_arm : (w c : ℕ) → form_of t p ≡ Match → Finds t v env (path p) w → kind_of v w ≡ 5 → nth (arms t p) (field_a v w) ≡ some c
      → Under g t v a p env a c (env ++ content w ∷ [])

-- `Levels g t v d a p env`: a chain of d levels that ends with the node p, what its position asks for and its variables env; that node stands d deep.
-- "The walk starts with template 0's body and the value as its one variable. The root body is at depth 1, a child or an entered body one deeper."
pub data Levels (g t v : List ℕ) : ℕ → Asked → ℕ → List ℕ → Type 0 where
  root_body : (q : ℕ) → template t 0 ≡ some q → Levels g t v 1 (piece (nonterminal (field_b t q))) (body t q) (0 ∷ [])
  one_deeper : (d p q : ℕ) (a a' : Asked) (env env' : List ℕ) → Levels g t v d a p env → Under g t v a p env a' q env' → Levels g t v (suc d) a' q env'

-- the pieces of text that a visit of the node p itself writes: "it writes a keyword"; "A literal writes its text, a place the text that its path finds",
-- with entities where an escaped class is asked for; and between its items a sequence's separator: "The separator is written before every item but the first"
pub data Writes (g t v : List ℕ) (a : Asked) (p : ℕ) (env : List ℕ) : List ℕ → Type 0 where
  a_keyword : (q : ℕ) (x : List ℕ) → form_of t p ≡ Build → production g (field_b t p) ≡ some q → In (keyword x) (elements g q) → Writes g t v a p env x
  its_text : form_of t p ≡ Literal → Writes g t v a p env (text_of t (field_b t p) p)
  text_found : (w : ℕ) (e : Element) (x : List ℕ) → form_of t p ≡ Place → a ≡ piece e → Finds t v env (path p) w → kind_of v w ≡ 1
      → PlaceWrites g e (text_of v (field_b v w) w) x → Writes g t v a p env x
  a_separator : (n m : ℕ) (x : List ℕ) → form_of t p ≡ Sequence → a ≡ piece (repetition n x) → ItemAfter t v env (nodes t p) (suc m) → Writes g t v a p env x
