-- The evaluation rules a second time, as a relation in the manner of source document 001: its dynamic rules of Fig. 11, and of Fig. 6 where that leaves them.
-- 001's judgement `T, Θ ⊢ tstmt ⇒ ψ` is `Evaluates g t v env e p x n`. T is env, the places of the variables' values in the value v; Θ is the template code t;
-- tstmt is the node at p, and ψ the text x. g is the target language's grammar. Beside 001, e is the element that the node's position asks for, which says what
-- separates the items of a sequence and whether a place writes entities, and n counts the nodes that are evaluated: "A visit counts one step." No fuel, depth or
-- room stand here, and nothing of the walk.
use Rattle.std.specs.Prelude.{ℕ, suc, ◌+◌, ◌≡◌, List, [], ◌∷◌, ◌++◌, length}
use Rattle.std.proofs.Math.Option.{some}
use Rattle.rules.specs.Records.{kind_of, field_a, field_b, text_of, nth}
use Rattle.rules.specs.Grammar.{production, elements, Element, keyword, nonterminal, repetition}
use Rattle.rules.specs.Templates.{template, body, form_of, nodes, paths, path, first, second, arms}
use Rattle.rules.specs.Value.{children, content}
use Rattle.rules.specs.declared.Form.TheVariants.{Build, Literal, Place, Expand, If, For, Sequence, Match}
use Rattle.rules.specs.declared.Position.{Position}
use Rattle.theorems.specs.Children.{Asks}
use Rattle.theorems.specs.Finds.{Finds, FindsAll}
use Rattle.theorems.specs.Places.{PlaceWrites}

-- what is written before an item, k of which came before it: "The separator is written before every item but the first"
pub data BeforeItem (between : List ℕ) : ℕ → List ℕ → Type 0 where
  the_first : BeforeItem between 0 []
  another : {k : ℕ} → BeforeItem between (suc k) between

mutual
  -- `T, Θ ⊢ tstmt ⇒ ψ`. Of a path, `T ⊢ texpr ⇒ ν` is that it `Finds` the value ν;
  -- `⊢ ν ⇒ φ` that ν is a text (a 1), `⊢_L ν ⇒ ν*` a list of these items (a 3), `⊢_B ν ⇒ β` a yes or a no (a 2).
  pub data Evaluates (g t v : List ℕ) : List ℕ → Element → ℕ → List ℕ → ℕ → Type 0 where
    -- the rule of each grammar rule, [pprog], [pstmt₁] ..: its elements in order, their texts in a row
    build : {env : List ℕ} {e : Element} {p q : ℕ} {x : List ℕ} {n : ℕ} → form_of t p ≡ Build
        → production g (field_b t p) ≡ some q → Builds g t v env (elements g q) (nodes t p) x n → Evaluates g t v env e p x (suc n)
    -- the rule of each morphem class: "a morphem generates itself"
    literal : {env : List ℕ} {e : Element} {p : ℕ} → form_of t p ≡ Literal → Evaluates g t v env e p (text_of t (field_b t p) p) 1
    -- [expr]; 02 c, in the position of an escaped class, with the entities
    place : {env : List ℕ} {e : Element} {p w : ℕ} {x : List ℕ} → form_of t p ≡ Place → Finds t v env (path p) w → kind_of v w ≡ 1
        → PlaceWrites g e (text_of v (field_b v w) w) x → Evaluates g t v env e p x 1
    -- [expand]: the body, with "a fresh set of variables, those that its paths find"; "A body's position is its template's nonterminal."
    expand : {env ws : List ℕ} {e : Element} {p q : ℕ} {x : List ℕ} {n : ℕ} → form_of t p ≡ Expand
        → template t (field_b t p) ≡ some q → FindsAll t v env (paths t p) ws → Evaluates g t v ws (nonterminal (field_b t q)) (body t q) x n
        → Evaluates g t v env e p x (suc n)
    -- [then]: "the first on yes (1)"; "both branches in the same position"
    then : {env : List ℕ} {e : Element} {p w : ℕ} {x : List ℕ} {n : ℕ} → form_of t p ≡ If
        → Finds t v env (path p) w → kind_of v w ≡ 2 → field_a v w ≡ 1 → Evaluates g t v env e (first p) x n → Evaluates g t v env e p x (suc n)
    -- [else]
    else : {env : List ℕ} {e : Element} {p w : ℕ} {x : List ℕ} {n : ℕ} → form_of t p ≡ If
        → Finds t v env (path p) w → kind_of v w ≡ 2 → (field_a v w ≡ 1 → ⊥) → Evaluates g t v env e (second t p) x n → Evaluates g t v env e p x (suc n)
    -- the list that stands for a Kleene closure, which is a repetition of nonterminal m
    sequence : {env between : List ℕ} {m p : ℕ} {x : List ℕ} {n : ℕ} → form_of t p ≡ Sequence → Items g t v env m between 0 (nodes t p) x n
        → Evaluates g t v env (repetition m between) p x (suc n)
    -- 02 g, beside 001: "one for each case in order, each seeing one more variable, the case's content"; "its step count is one plus the arm taken"; it stands
    -- where an if may, and so its arms in its position
    match : {env : List ℕ} {e : Element} {p w arm : ℕ} {x : List ℕ} {n : ℕ} → form_of t p ≡ Match → Finds t v env (path p) w → kind_of v w ≡ 5
        → nth (arms t p) (field_a v w) ≡ some arm → Evaluates g t v (env ++ content w ∷ []) e arm x n → Evaluates g t v env e p x (suc n)

  -- the premises that 001 adds for each element of a grammar rule, with the children that are left; a keyword takes none
  pub data Builds (g t v : List ℕ) : List ℕ → List Element → List ℕ → List ℕ → ℕ → Type 0 where
    -- nothing is left to build; children that no element takes, of which a typed build has none, give no text
    no_element : {env cs : List ℕ} → Builds g t v env [] cs [] 0
    -- 4: "For a keyword kw, the premise ψᵢ = kw"
    own_bytes : {env cs w y : List ℕ} {es : List Element} {n : ℕ} → Builds g t v env es cs y n → Builds g t v env (keyword w ∷ es) cs (w ++ y) n
    -- 1 to 3: "For a nonterminal", "For a Kleene closure", whose list is the sequence at c, "For a morphem class"
    next_child : {env cs x y : List ℕ} {e : Element} {at : Position} {c m n : ℕ} {es : List Element} → Asks e at
        → Evaluates g t v env e c x m → Builds g t v env es cs y n → Builds g t v env (e ∷ es) (c ∷ cs) (x ++ y) (m + n)

  -- the texts of a sequence's items, each of nonterminal m, in order, when k items came before: "one separator between neighbours and none elsewhere"
  pub data Items (g t v : List ℕ) : List ℕ → ℕ → List ℕ → ℕ → List ℕ → List ℕ → ℕ → Type 0 where
    no_item : {env between : List ℕ} {m k : ℕ} → Items g t v env m between k [] [] 0
    -- "An item that writes nothing still counts"
    one_item : {env between cs z x y : List ℕ} {m k c i n : ℕ} → (form_of t c ≡ For → ⊥) → BeforeItem between k z
        → Evaluates g t v env (nonterminal m) c x i → Items g t v env m between (k + 1) cs y n → Items g t v env m between k (c ∷ cs) (z ++ x ++ y) (i + n)
    -- [for]: "a for itself is none", but a node that is evaluated; the items of its list are
    for : {env between cs x y : List ℕ} {m k c w i n : ℕ} → form_of t c ≡ For → Finds t v env (path c) w → kind_of v w ≡ 3
        → Loops g t v env m between k (first c) (children v w) x i → Items g t v env m between (k + length (children v w)) cs y n
        → Items g t v env m between k (c ∷ cs) (x ++ y) (suc i + n)

  -- the texts of a for's body p, one for each item of the list, in order: "the item being one variable more"
  pub data Loops (g t v : List ℕ) : List ℕ → ℕ → List ℕ → ℕ → ℕ → List ℕ → List ℕ → ℕ → Type 0 where
    no_turn : {env between : List ℕ} {m k p : ℕ} → Loops g t v env m between k p [] [] 0
    one_turn : {env between ws z x y : List ℕ} {m k p w i n : ℕ} → BeforeItem between k z → Evaluates g t v (env ++ w ∷ []) (nonterminal m) p x i
        → Loops g t v env m between (k + 1) p ws y n → Loops g t v env m between k p (w ∷ ws) (z ++ x ++ y) (i + n)

-- a whole set: "template 0's body and the value as its one variable"
pub record EvaluatesSet (g t v x : List ℕ) (n : ℕ) : Type 0 where
  pub head : ℕ
  pub template_0 : template t 0 ≡ some head
  pub evaluates : Evaluates g t v (0 ∷ []) (nonterminal (field_b t head)) (body t head) x n
