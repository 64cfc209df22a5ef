-- One law for all that holds of every visit: two walks of one set and value, with other fuel and room, visit the same nodes in step, until one
-- of them ends. What holds of the ways in which a visit is put together holds of both walks.
-- (Goes on in proofs/Visits.antt.)
use Rattle.std.specs.Prelude.{◌≡◌, ltb}
use Prim.Native.Nat.{ℕ, ◌≤◌}
use mathlib.Core.List.{List}
use native.Mathlib.Omega.{arith}
use Rattle.rules.specs.Walk.{Input, State, too_deep, End, done, ended, stuck, and_then, write, Asked}
use Rattle.rules.specs.Walk.{reached}
use Rattle.rules.specs.declared.Form.{Form}
use Rattle.rules.specs.declared.Form.TheVariants.{Place, For}
use Rattle.laws.specs.Faults.{In, here, later}
use Rattle.theorems.specs.Levels.{NodeAfter, first_node, later_node}
use Rattle.theorems.specs.Levels.{Levels}
use Rattle.theorems.specs.Levels.{Writes}

-- the same set and value, with other fuel and room
abbrev pub limited_by : Input → ℕ → ℕ → Input
limited_by i fuel room = record { grammar = i.grammar; templates = i.templates; value = i.value; fuel = fuel; room = room }

-- the levels of a walk, and the pieces that a visit writes, by what the walk is fed
abbrev pub LevelsOf : Input → ℕ → Asked → ℕ → List ℕ → Type 0
LevelsOf i = Levels i.grammar i.templates i.value

abbrev pub WritesOf : Input → Asked → ℕ → List ℕ → List ℕ → Type 0
WritesOf i = Writes i.grammar i.templates i.value

-- `R s e e'`: from the state s the one walk comes to e, and the other to e'. The ways in which visits are put together keep R:
pub record InStep (i : Input) (fuel room : ℕ) (R : State → End → End → Type 0) : Type 0 where
  pub nothing : (s : State) → R s (done s) (done s)
  pub no_way : (s : State) → R s stuck stuck
  pub one_then : {s : State} {e e' : End} (next next' : State → End) → R s e e' → ((s₁ : State) → R s₁ (next s₁) (next' s₁))
      → R s (and_then e next) (and_then e' next')
  -- a node at most 200 deep writes a piece; a separator is a piece of its sequence, whether that or a for in it writes it
  pub writing : {d p : ℕ} {a : Asked} {env : List ℕ} (x : List ℕ) → LevelsOf i d a p env → d ≤ 200 → WritesOf i a p env x
      → (s : State) → R s (write i.room p x s) (write room p x s)
  -- a node at most 201 deep is reached
  pub reaching : {d p : ℕ} {a : Asked} {env : List ℕ} (next next' : State → End) → LevelsOf i d a p env → d ≤ 201 → ((s : State) → R s (next s) (next' s))
      → (s : State) → R s (reached (ltb s.steps i.fuel) p next s) (reached (ltb s.steps fuel) p next' s)
  -- one that is 201 deep, after it was reached
  pub deep : {p : ℕ} {a : Asked} {env : List ℕ} → LevelsOf i 201 a p env → (s : State) → R s (ended too_deep p s) (ended too_deep p s)

pub node_in : {t v env cs : List ℕ} {c n : ℕ} → NodeAfter t v env c cs n → In c cs
node_in h = go h
  where
    go : {t v env : List ℕ} {c : ℕ} {cs : List ℕ} {n : ℕ} → NodeAfter t v env c cs n → In c cs
    go (first_node cs) = here cs
    go (later_node b m n cs h j) = later b cs (go j)

pub place_no_for : {f : Form} → f ≡ Place → f ≡ For → ⊥
place_no_for e h = let z : ◌≡◌ {A = ℕ} 0 1 = cc in omega arith
