-- Two walks of one set and value are on one line: fuel and room only say where a walk stops, never where it goes.
-- (Goes on in proofs/OneLine.antt.)
use Rattle.std.specs.Prelude.{◌≡◌, ◌⊎◌, ℕ, ◌+◌, ◌≤◌, ◌<◌, List}
use Rattle.std.proofs.Math.ListN.{length}
use Rattle.rules.specs.Walk.{Input, State, Limit, fuel_spent, output_full, End, done, ended, counted, Asked, walk}
use Rattle.theorems.specs.Begins.{Begins, written}
use Rattle.theorems.specs.Visits.{limited_by, LevelsOf, WritesOf}
use Rattle.theorems.specs.Bounds.{StateOf}

-- A limit stops one of two walks, with this fuel and room, at the node p. The other has more: it counts the node as a step, or writes the piece
-- that had no room, and goes further. A node that is 201 deep stops both.
pub data Further (i : Input) (fuel room fuel' room' p : ℕ) (s : State) : Limit → State → Type 0 where
  counts : (d : ℕ) (a : Asked) (env : List ℕ) → LevelsOf i d a p env → fuel ≤ s.steps → s.steps < fuel' → Further i fuel room fuel' room' p s fuel_spent (counted s)
  writes : (d : ℕ) (a : Asked) (env x : List ℕ) → LevelsOf i d a p env → WritesOf i a p env x → room < length s.text + length x → length s.text + length x ≤ room'
      → Further i fuel room fuel' room' p s output_full (written s x)

-- where a limit ended the one walk, the other ends alike, or goes on past the state to which it has gone further
pub data Onward (i : Input) (fuel room : ℕ) (l : Limit) (p : ℕ) (s : State) : End → Type 0 where
  ends_alike : Onward i fuel room l p s (ended l p s)
  goes_on : (s₁ : State) (e : End) → Further i i.fuel i.room fuel room p s l s₁ → ((s' : State) → StateOf s' e → Begins s₁ s') → Onward i fuel room l p s e

-- A walk, and another of the same set and value with other fuel and room, neither of them stuck:
pub record OneLine (i : Input) (fuel room : ℕ) : Type 0 where
  -- of one of the two the text begins the other's, and the steps are at most the other's
  pub one_begins : (s s' : State) → StateOf s (walk i) → StateOf s' (walk (limited_by i fuel room)) → Begins s s' ⊎ Begins s' s
  -- where the second has at least as much fuel and room: if the first finishes, it finishes alike, with the same steps and the same text;
  pub finishes_alike : i.fuel ≤ fuel → i.room ≤ room → (s : State) → walk i ≡ done s → walk (limited_by i fuel room) ≡ done s
  -- if a limit ends the first, it ends the second alike, or the second goes further
  pub goes_further : i.fuel ≤ fuel → i.room ≤ room → (l : Limit) (p : ℕ) (s : State) → walk i ≡ ended l p s
      → Onward i fuel room l p s (walk (limited_by i fuel room))
