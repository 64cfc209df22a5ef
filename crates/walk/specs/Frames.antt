-- The variables of a frame: each holds the place of a value.
use Rattle.std.specs.Prelude.{ℕ, ◌+◌, ◌≡◌, List, [], ◌∷◌, ◌++◌, Bool, true, take, drop}
use Rattle.std.proofs.Math.Option.{some}
use Rattle.rules.specs.Faults.{only_if}
use Rattle.rules.specs.Records.{nth, row}
use Rattle.rules.specs.Walk.{path_values}
use Rattle.records.specs.Children.{Stands}

abbrev pub frame : ℕ → ℕ → List ℕ → List ℕ
frame base vars scratch = take vars (drop base scratch)

-- each variable is the place of a value
pub record Held (v env : List ℕ) : Type 0 where
  pub each : (k w : ℕ) → nth env k ≡ some w → Stands v w

-- a frame has the variable w more, and what lies before that is as it was
pub record Bound (base vars w : ℕ) (scratch scratch' : List ℕ) : Type 0 where
  pub more : frame base (vars + 1) scratch' ≡ frame base vars scratch ++ w ∷ []
  pub kept : take (base + vars) scratch' ≡ take (base + vars) scratch

-- n paths from p on all find values, or not; if they are to be stored, these are the frame right behind this one; this frame is as it was
pub record Passed (t v : List ℕ) (base vars p n : ℕ) (stored r : Bool) (scratch scratch' : List ℕ) : Type 0 where
  pub values : List ℕ
  pub is : path_values t v (frame base vars scratch) (row n p) ≡ only_if r values
  pub held : Held v values
  pub next : r ≡ true → stored ≡ true → frame (base + vars) n scratch' ≡ values
  pub kept : take (base + vars) scratch' ≡ take (base + vars) scratch
