-- A visit that is done came by the evaluation rules. No typing is assumed: any bytes of any streams.
-- (Goes on in proofs/Evaluated.antt.)
use Rattle.std.proofs.Math.Path.{◌≡◌}
use Prim.Native.Nat.{ℕ, suc, ◌+◌}
use mathlib.Core.List.{List, ◌++◌}
use Rattle.std.specs.Prelude.{length}
use Rattle.rules.specs.Records.{kind_of}
use Rattle.rules.specs.Grammar.{Element, nonterminal}
use Rattle.rules.specs.Templates.{form_of, path, first}
use Rattle.rules.specs.Value.{children}
use Rattle.rules.specs.Walk.{Input, State, End, done, Filled, Asked, piece, items}
use Rattle.rules.specs.declared.Form.TheVariants.{For}
use Rattle.theorems.specs.Finds.{Finds}
use Rattle.theorems.specs.Evaluation.{BeforeItem, Evaluates}
use Rattle.theorems.specs.Evaluation.{Loops}

-- from the state s to the state s' the text grew by x, and the steps by n, of P
abbrev pub Wrote : (List ℕ → ℕ → Type 0) → State → State → Type 0
Wrote P s s' = (x : List ℕ) × (n : ℕ) × (s'.text ≡ s.text ++ x) × (s'.steps ≡ s.steps + n) × P x n

module _ (i : Input) where
  open i use {grammar as g, templates as t, value as v}

  -- an item of the repetition f, and what is written before it
  abbrev pub AnItem : Filled → ℕ → List ℕ → ℕ → List ℕ → ℕ → Type 0
  AnItem f k env c x n = (z y : List ℕ) × (x ≡ z ++ y) × BeforeItem f.separator k z × Evaluates g t v env (nonterminal f.nonterminal) c y n

  -- a for, with its own step
  abbrev pub AFor : Filled → ℕ → List ℕ → ℕ → List ℕ → ℕ → Type 0
  AFor f k env c x n =
      (w m : ℕ) × (n ≡ suc m) × Finds t v env (path c) w × (kind_of v w ≡ 3) × Loops g t v env f.nonterminal f.separator k (first c) (children v w) x m

  -- a node of a sequence, with k items before it and l items up to its end
  pub data ANode (f : Filled) (k : ℕ) (env : List ℕ) (c : ℕ) : ℕ → List ℕ → ℕ → Type 0 where
    item_node : {x : List ℕ} {n : ℕ} → (form_of t c ≡ For → ⊥) → AnItem f k env c x n → ANode f k env c (k + 1) x n
    for_node : {x : List ℕ} {w n : ℕ} → form_of t c ≡ For → Finds t v env (path c) w → kind_of v w ≡ 3
        → Loops g t v env f.nonterminal f.separator k (first c) (children v w) x n → ANode f k env c (k + length (children v w)) x (suc n)

  -- whatever go is done with came by the rules
  pub record ByRules (go : Asked → ℕ → List ℕ → State → End) : Type 0 where
    pub of_piece : (e : Element) (p : ℕ) (env : List ℕ) (s s' : State) → go (piece e) p env s ≡ done s' → Wrote (Evaluates g t v env e p) s s'
    pub of_for : (f : Filled) (k p : ℕ) (env : List ℕ) (s s' : State) → form_of t p ≡ For → go (items f k) p env s ≡ done s' → Wrote (AFor f k env p) s s'
