-- What a run stands for, in the terms of crate rules, and what the functions of the walk promise.
use Rattle.std.specs.Prelude.{ℕ, ◌+◌, ◌≤◌, ◌≡◌, List, ◌++◌, cond, length, take, drop, replicate, eqb, Ok, Err}
use Rattle.std.specs.declared.result.Result.{Result}
use Rattle.rules.specs.Walk.{State, fuel_spent, too_deep, output_full, End, done, ended, stuck, walk}
use Rattle.rules.specs.Answers.{input}
use Rattle.walk.specs.declared.at.At.{At}
use Rattle.walk.specs.declared.state.Run.{Run}
use Rattle.walk.specs.declared.state.Progress.{Progress}
use Rattle.walk.specs.declared.state.Stop.{Stop}
use Rattle.walk.specs.declared.state.Turns.{Turns}
use Rattle.walk.specs.declared.state.Why.{Why}
use Rattle.walk.specs.declared.state.Why.TheVariants.{FuelSpent, TooDeep, OutputFull, Stuck}

-- the state of a run: its steps, and the text that it has written
abbrev pub state_of : ℕ → ℕ → List ℕ → State
state_of steps bytes out = record { steps = steps; text = take bytes out }

abbrev pub run_of : ℕ → ℕ → ℕ → ℕ → Run
run_of number place steps bytes = record { number = number; place = place; steps = steps; bytes = bytes }

-- the number of what stops a run; the run that a result stands for, while it goes on and where it stops; and that of a for, with its items
abbrev pub number_of : Why → ℕ
number_of FuelSpent = 10
number_of TooDeep = 11
number_of OutputFull = 12
number_of Stuck = 99

abbrev pub going_of : Progress → Run
going_of p = run_of 0 0 p.steps p.bytes

abbrev pub stopped_of : Stop → Run
stopped_of x = run_of (number_of x.why) x.place x.steps x.bytes

abbrev pub seen : Result Progress Stop → Run
seen (Ok p) = going_of p
seen (Err x) = stopped_of x

abbrev pub seen_turns : Result Turns Stop → Run
seen_turns (Ok u) = going_of u.so_far
seen_turns (Err x) = stopped_of x

abbrev pub items_seen : Result Turns Stop → ℕ
items_seen (Ok u) = u.items
items_seen (Err x) = 0

-- the end that a run's number says
unfoldable pub end_numbered : ℕ → ℕ → State → End
end_numbered n place s =
    cond (eqb n 0) (done s)
    (cond (eqb n 10) (ended fuel_spent place s)
    (cond (eqb n 11) (ended too_deep place s)
    (cond (eqb n 12) (ended output_full place s)
    stuck)))

unfoldable pub view : Run → List ℕ → End
view r out = end_numbered r.number r.place (state_of r.steps r.bytes out)

-- from these steps and bytes, and the output as it was, they only grew, and what the output holds after the text is as it was
pub record Grown (steps bytes : ℕ) (r : Run) (out out' : List ℕ) : Type 0 where
  pub steps_grow : steps ≤ r.steps
  pub bytes_grow : bytes ≤ r.bytes
  pub inside : r.bytes ≤ length out
  pub rest : drop r.bytes out' ≡ drop r.bytes out

-- the run came to this end
pub record Ran (e : End) (steps bytes : ℕ) (r : Run) (out out' : List ℕ) : Type 0 where
  pub meets : view r out' ≡ e
  pub grown : Grown steps bytes r out out'

-- and the first numbers of the scratch, so many, are as they were
pub record Visited (e : End) (steps bytes : ℕ) (r : Run) (out out' : List ℕ) (keep : ℕ) (scratch scratch' : List ℕ) : Type 0 where
  pub ran : Ran e steps bytes r out out'
  pub kept : take keep scratch' ≡ take keep scratch

-- so from a node: from its steps and its bytes on, and up to the end of its variables
abbrev pub RanFrom : End → At → Run → List ℕ → List ℕ → Type 0
RanFrom e at r out out' = Ran e at.steps at.bytes r out out'

abbrev pub VisitedFrom : End → At → Run → List ℕ → List ℕ → List ℕ → List ℕ → Type 0
VisitedFrom e at r out out' scratch scratch' = Visited e at.steps at.bytes r out out' (at.frame.base + at.frame.vars) scratch scratch'

-- the whole walk: the output begins with the run's text and is as it was after it, and all of the scratch is zero
pub record Walked (g t v : List ℕ) (fuel : ℕ) (r : Run) (out out' scratch scratch' : List ℕ) : Type 0 where
  pub meets : view r out' ≡ walk (input g t v fuel out)
  pub inside : r.bytes ≤ length out
  pub output : out' ≡ take r.bytes out' ++ drop r.bytes out
  pub cleared : scratch' ≡ replicate (length scratch) 0
