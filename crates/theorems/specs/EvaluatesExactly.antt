-- The walk gives exactly the texts that the evaluation rules give. No typing is assumed: any bytes of any streams.
-- (Goes on in proofs/EvaluatesExactly.antt.)
use Prim.Native.Nat.{ℕ, ◌≤◌, ◌<◌}
use Rattle.std.proofs.Math.ListN.{length}
use Rattle.rules.specs.Walk.{Input, State, fuel_spent, too_deep, output_full, End, done, ended}
use Rattle.theorems.specs.Begins.{Begins}

-- A visit of what the rules evaluate comes to the state z that they say, or falls short of it: of a step, of a level, or of room.
pub data Gives (i : Input) (z : State) : End → Type 0 where
  whole : Gives i z (done z)
  fuel_short : (p : ℕ) (s : State) → Begins s z → i.fuel ≤ s.steps → s.steps < z.steps → Gives i z (ended fuel_spent p s)
  levels_short : (p : ℕ) (s : State) → Begins s z → Gives i z (ended too_deep p s)
  room_short : (p : ℕ) (s : State) → Begins s z → i.room < length z.text → Gives i z (ended output_full p s)
