-- What a visit hands to the nodes below it: a build visits the next child for an element; a sequence fills a repetition, and its nodes bring the items.
use Rattle.std.specs.Prelude.{◌≡◌, ◌⊎◌, ℕ, Bool, cond, length}
use Rattle.std.proofs.Math.Path.{refl}
use Rattle.std.proofs.Common.{sym, ap, subst, true≢false}
use Rattle.std.proofs.Math.Logic.{inl, inr}
use mathlib.Core.List.{List, ◌∷◌}
use Rattle.std.proofs.Math.Bool.{true, false}
use Rattle.std.proofs.Math.Option.{Option, none, some, none-ne-some, some-injective}
use Rattle.rules.specs.Faults.{on_found}
use Rattle.rules.specs.Records.{kind_of}
use Rattle.rules.specs.Grammar.{Element, keyword, lexeme, nonterminal, repetition, unknown}
use Rattle.rules.specs.Templates.{form_of, is_for, path}
use Rattle.rules.specs.Value.{children}
use Rattle.rules.specs.Walk.{Input, State, End, with_child, pieces, Filled, Asked, piece, items, filled_by, listed, items_of, visit_item, visit_in}
use Rattle.rules.specs.declared.Position.{Position}
use Rattle.rules.specs.declared.Form.{Form}
use Rattle.rules.specs.declared.Form.TheVariants.{Build, Literal, Place, Expand, If, For, Sequence, Match, Unknown}
use Rattle.laws.specs.Faults.{on_found_some}
use Rattle.theorems.specs.Children.{Asks, asks_a_class, asks_a_nonterminal, asks_a_repetition, asks_nothing}
use Rattle.theorems.specs.Finds.{Finds, list_is, finds_exactly, path_found}
use Rattle.theorems.specs.Levels.{Brings, one_item, its_turns, filling}

-- for an element that is no keyword a build visits the next child
pub pieces_child : (put : List ℕ → State → End) (visited : Element → ℕ → State → End) {e : Element} {at : Position} (es : List Element) (cs : List ℕ) (s : State)
    → Asks e at → pieces put visited (e ∷ es) cs s ≡ with_child (visited e) cs (pieces put visited es) s
unfolding pieces
pieces_child put visited es cs s (asks_a_class c) = refl
pieces_child put visited es cs s (asks_a_nonterminal n) = refl
pieces_child put visited es cs s (asks_a_repetition n x) = refl
pieces_child put visited es cs s asks_nothing = refl

-- whether a form is a for
pub data IsFor (f : Form) : Bool → Type 0 where
  a_for : f ≡ For → IsFor f true
  no_for : (f ≡ For → ⊥) → IsFor f false

pub is_for_lem : (f : Form) → IsFor f (is_for f)
unfolding is_for
is_for_lem For = a_for refl
is_for_lem Build = no_for λ e. true≢false (sym (ap is_for e))
is_for_lem Literal = no_for λ e. true≢false (sym (ap is_for e))
is_for_lem Place = no_for λ e. true≢false (sym (ap is_for e))
is_for_lem Expand = no_for λ e. true≢false (sym (ap is_for e))
is_for_lem If = no_for λ e. true≢false (sym (ap is_for e))
is_for_lem Sequence = no_for λ e. true≢false (sym (ap is_for e))
is_for_lem Match = no_for λ e. true≢false (sym (ap is_for e))
is_for_lem Unknown = no_for λ e. true≢false (sym (ap is_for e))

pub not_for : {f : Form} → (f ≡ For → ⊥) → is_for f ≡ false
not_for {f} h = go _ (is_for_lem f)
  where
    go : (b : Bool) → IsFor f b → b ≡ false
    go true (a_for e) = absurd (h e)
    go false (no_for e) = refl

-- the repetition that a sequence fills is the one that its position asks for
pub filled_by_lem : (p : ℕ) (a : Asked) (f : Filled) → filled_by p a ≡ some f → (n : ℕ) × (x : List ℕ) × (a ≡ piece (repetition n x)) × (f ≡ filling p n x)
unfolding filled_by
filled_by_lem p (piece (keyword x)) f e = absurd (none-ne-some f e)
filled_by_lem p (piece (lexeme c)) f e = absurd (none-ne-some f e)
filled_by_lem p (piece (nonterminal n)) f e = absurd (none-ne-some f e)
filled_by_lem p (piece (repetition n x)) f e = (n, x, refl, sym (some-injective _ f e))
filled_by_lem p (piece unknown) f e = absurd (none-ne-some f e)
filled_by_lem p (items f' n) f e = absurd (none-ne-some f e)

module _ (i : Input) (env : List ℕ) (p : ℕ) where
  open i use {templates as t, value as v}

  -- the list of a for is the one that its path finds
  pub listed_is : (ws : List ℕ) → listed i env p ≡ some ws → (w : ℕ) × Finds t v env (path p) w × (kind_of v w ≡ 3) × (children v w ≡ ws)
  unfolding listed
  listed_is ws e =
      let (w, a, b) = on_found_some _ _ ws e in
      let k = (list_is v w ws).0 b in
      (w, (finds_exactly t v env _ w).0 a, k.0, k.1)

  pub is_listed : {w : ℕ} → Finds t v env (path p) w → kind_of v w ≡ 3 → listed i env p ≡ some (children v w)
  unfolding listed on_found
  is_listed {w} a k = rw (path_found a) ((list_is v w _).1 (k, refl))

  -- a for in a sequence is handed how many items came before it; any other node is an item
  pub for_visited : (visited : Asked → ℕ → List ℕ → State → End) (f : Filled) (n : ℕ) → form_of t p ≡ For
      → visit_in i visited f env n p ≡ visited (items f n) p env
  unfolding visit_in is_for
  for_visited visited f n e = rw e

  pub item_visited : (visited : Asked → ℕ → List ℕ → State → End) (f : Filled) (n : ℕ) → (form_of t p ≡ For → ⊥)
      → visit_in i visited f env n p ≡ visit_item i.room visited f n p env
  unfolding visit_in
  item_visited visited f n e = rw (not_for e)

  pub one_brought : (form_of t p ≡ For → ⊥) → items_of i env p ≡ 1
  unfolding items_of
  one_brought e = rw (not_for e)

  pub turns_brought : {w : ℕ} → form_of t p ≡ For → Finds t v env (path p) w → kind_of v w ≡ 3 → items_of i env p ≡ length (children v w)
  unfolding items_of is_for on_found
  turns_brought e a k = rw (e, is_listed a k)

  -- how many items a node brings; one that is a for and finds no list brings none, and the walk goes no further
  pub brings_items : Brings t v env p (items_of i env p) ⊎ ((form_of t p ≡ For) × (listed i env p ≡ none))
  unfolding items_of on_found
  brings_items = go _ (is_for_lem (form_of t p)) (listed i env p) refl
    where
      go : (b : Bool) → IsFor (form_of t p) b → (o : Option (List ℕ)) → listed i env p ≡ o
          → Brings t v env p (cond b (on_found o 0 length) 1) ⊎ ((form_of t p ≡ For) × (listed i env p ≡ none))
      go true (a_for f) none e = inr (f, e)
      go true (a_for f) (some ws) e = let (w, a, k, c) = listed_is ws e in inl (subst (λ (z : List ℕ). Brings t v env p (length z)) c (its_turns w f a k))
      go false (no_for f) o e = inl (one_item f)
