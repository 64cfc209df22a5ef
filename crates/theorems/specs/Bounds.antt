-- Whatever grammar, templates and value say: the walk writes no more bytes than it has room for, and counts no more steps than it has fuel;
-- and where one of the limits 10 to 12 ends it, that limit was met.
-- (Goes on in proofs/Bounds.antt.)
use Rattle.std.specs.Prelude.{◌≡◌, refl, ℕ, ◌+◌, ◌≤◌, ◌<◌, List, Bool, true, false, cond, length, leb, ltb}
use Rattle.std.proofs.Common.{leb-true, leb-false, ltb-true, ltb-false}
use Rattle.rules.specs.Walk.{Input, State, Limit, fuel_spent, too_deep, output_full, End, done, ended, stuck, and_then, write, counted, Asked, reached}
use Rattle.theorems.specs.Begins.{written}
use Rattle.theorems.specs.Visits.{LevelsOf, WritesOf}

-- the state that an end has, done or ended by one of 10 to 12
pub data StateOf (s : State) : End → Type 0 where
  when_done : StateOf s (done s)
  when_ended : (l : Limit) (p : ℕ) → StateOf s (ended l p s)

-- an end that is done in a state of Q, or ended at a node in a state of L, or stuck
pub data Leaves (Q : State → Type 0) (L : Limit → ℕ → State → Type 0) : End → Type 0 where
  at_done : (s : State) → Q s → Leaves Q L (done s)
  at_limit : (l : Limit) (p : ℕ) (s : State) → L l p s → Leaves Q L (ended l p s)
  at_stuck : Leaves Q L stuck

pub then_leaves : {Q : State → Type 0} {L : Limit → ℕ → State → Type 0} {e : End} (next : State → End) → Leaves Q L e
    → ((s : State) → Q s → Leaves Q L (next s)) → Leaves Q L (and_then e next)
unfolding and_then
then_leaves next (at_done s q) k = k s q
then_leaves next (at_limit l p s h) k = at_limit l p s h
then_leaves next at_stuck k = at_stuck

-- a piece fits, or it passes the end of the output
pub write_leaves : {Q : State → Type 0} {L : Limit → ℕ → State → Type 0} (room p : ℕ) (x : List ℕ) (s : State)
    → (length s.text + length x ≤ room → Q (written s x))
    → (room < length s.text + length x → L output_full p s) → Leaves Q L (write room p x s)
unfolding write
write_leaves {Q} {L} room p x s fits passes = go (leb (length s.text + length x) room) refl
  where
    go : (b : Bool) → leb (length s.text + length x) room ≡ b
        → Leaves Q L (cond b (done (written s x)) (ended output_full p s))
    go true e = at_done _ (fits (leb-true _ _ e))
    go false e = at_limit output_full p s (passes (leb-false _ _ e))

-- a node is reached with fuel left, or with all of it used
pub reached_leaves : {Q : State → Type 0} {L : Limit → ℕ → State → Type 0} (fuel p : ℕ) (next : State → End) (s : State)
    → (s.steps < fuel → Leaves Q L (next (counted s))) → (fuel ≤ s.steps → L fuel_spent p s)
    → Leaves Q L (reached (ltb s.steps fuel) p next s)
unfolding reached
reached_leaves {Q} {L} fuel p next s left used = go (ltb s.steps fuel) refl
  where
    go : (b : Bool) → ltb s.steps fuel ≡ b → Leaves Q L (reached b p next s)
    go true e = left (ltb-true _ _ e)
    go false e = at_limit fuel_spent p s (used (ltb-false _ _ e))

-- a state that keeps to the limits of its walk
pub record Within (i : Input) (s : State) : Type 0 where
  pub few_steps : s.steps ≤ i.fuel
  pub few_bytes : length s.text ≤ i.room

-- that a limit strikes, at a node and with the steps and the text so far
pub data Struck (i : Input) (p : ℕ) (s : State) : Limit → Type 0 where
  -- 10: "A node is reached with all fuel (32 bits) used; it isn't counted as a step."
  all_used : (d : ℕ) (a : Asked) (env : List ℕ) → LevelsOf i d a p env → d ≤ 201 → s.steps ≡ i.fuel → Struck i p s fuel_spent
  -- 11: "A node is reached at depth 201"
  at_201 : (a : Asked) (env : List ℕ) → LevelsOf i 201 a p env → Struck i p s too_deep
  -- 12: "A keyword or lexeme passes the end of the output."; a separator is a piece of its sequence: "that is 12 with the sequence's place"
  passes : (d : ℕ) (a : Asked) (env x : List ℕ) → LevelsOf i d a p env → d ≤ 200 → WritesOf i a p env x → i.room < length s.text + length x → Struck i p s output_full
