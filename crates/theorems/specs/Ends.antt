-- How a visit ends. First, the ends that are not stuck; then, what an end that is done came from.
use Rattle.std.specs.Prelude.{◌≡◌, refl, ℕ, ◌+◌, List, ◌++◌, Bool, true, false, cond, length, leb}
use Rattle.std.proofs.Common.{ap, arith}
use Rattle.std.proofs.Math.Option.{Option, none, some}
use Rattle.rules.specs.Faults.{on_found}
use Rattle.rules.specs.Walk.{State, Limit, fuel_spent, output_full, End, done, ended, stuck, and_then, write, counted, reached}

-- `Ends Q e`: e is done with a state of Q, or ended by one of the three limits
pub data Ends (Q : State → Type 0) : End → Type 0 where
  finished : (s : State) → Q s → Ends Q (done s)
  limited : (l : Limit) (p : ℕ) (s : State) → Ends Q (ended l p s)

pub ends_map : {Q R : State → Type 0} {e : End} → Ends Q e → ((s : State) → Q s → R s) → Ends R e
ends_map (finished s q) h = finished s (h s q)
ends_map (limited l p s) h = limited l p s

pub then_ends : {Q R : State → Type 0} {e : End} (next : State → End) → Ends Q e → ((s : State) → Q s → Ends R (next s)) → Ends R (and_then e next)
unfolding and_then
then_ends next (finished s q) h = h s q
then_ends next (limited l p s) h = limited l p s

pub found_ends : {A : Type 0} {Q : State → Type 0} {o : Option A} (f : A → End) {a : A} → o ≡ some a → Ends Q (f a) → Ends Q (on_found o stuck f)
unfolding on_found
found_ends f e h = rw e h

pub reached_ends : {Q : State → Type 0} (b : Bool) (p : ℕ) (next : State → End) (s : State) → Ends Q (next (counted s)) → Ends Q (reached b p next s)
unfolding reached
reached_ends true p next s h = h
reached_ends false p next s h = limited fuel_spent p s

pub write_ends : (room p : ℕ) (x : List ℕ) (s : State) → Ends (λ s'. s'.text ≡ s.text ++ x) (write room p x s)
unfolding write
write_ends room p x s = go (leb (length s.text + length x) room)
  where
    go : (b : Bool) → Ends (λ s'. s'.text ≡ s.text ++ x) (cond b (done (record { steps = s.steps; text = s.text ++ x })) (ended output_full p s))
    go true = finished _ refl
    go false = limited output_full p s

pub ends_done : {Q : State → Type 0} {e : End} (s : State) → Ends Q e → e ≡ done s → Q s
ends_done {Q} s (finished s' q) h = let r : s' ≡ s = cc in rw r at q
ends_done s (limited l p s') h = absurd (let z : ◌≡◌ {A = ℕ} 0 1 = cc in omega arith)

-- what an end that is done came from
pub then_done : (e : End) (next : State → End) (s' : State) → and_then e next ≡ done s' → (s : State) × (e ≡ done s) × (next s ≡ done s')
unfolding and_then
then_done (done s) next s' h = (s, refl, h)
then_done (ended l p s) next s' h = absurd (let z : ◌≡◌ {A = ℕ} 0 1 = cc in omega arith)
then_done stuck next s' h = absurd (let z : ◌≡◌ {A = ℕ} 0 1 = cc in omega arith)

pub found_done : {A : Type 0} (o : Option A) (f : A → End) (s : State) → on_found o stuck f ≡ done s → (a : A) × (o ≡ some a) × (f a ≡ done s)
unfolding on_found
found_done none f s h = absurd (let z : ◌≡◌ {A = ℕ} 0 1 = cc in omega arith)
found_done (some a) f s h = (a, refl, h)

pub reached_done : (b : Bool) (p : ℕ) (next : State → End) (s s' : State) → reached b p next s ≡ done s' → next (counted s) ≡ done s'
unfolding reached
reached_done true p next s s' h = h
reached_done false p next s s' h = absurd (let z : ◌≡◌ {A = ℕ} 0 1 = cc in omega arith)

pub write_done : (room p : ℕ) (x : List ℕ) (s s' : State) → write room p x s ≡ done s' → (s'.text ≡ s.text ++ x) × (s'.steps ≡ s.steps)
unfolding write
write_done room p x s s' = go (leb (length s.text + length x) room)
  where
    go : (b : Bool) → cond b (done (record { steps = s.steps; text = s.text ++ x })) (ended output_full p s) ≡ done s'
        → (s'.text ≡ s.text ++ x) × (s'.steps ≡ s.steps)
    go true h = let r : s' ≡ record { steps = s.steps; text = s.text ++ x } = cc in (ap (λ z. z.text) r, ap (λ z. z.steps) r)
    go false h = absurd (let z : ◌≡◌ {A = ℕ} 0 1 = cc in omega arith)
