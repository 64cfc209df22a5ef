-- What is left when no check refuses: the variables fit the scratch, the walk is not stuck, and the call leaves what the walk left.
use Prim.Native.Nat.{ℕ, ◌≤◌}
use mathlib.Core.Path.{◌≡◌, refl, sym, ap, ◌∙◌}
use mathlib.Core.List.{List, ◌++◌}
use mathlib.Core.Bool.{Bool, true, false, cond}
use mathlib.Core.Option.{none}
use native.Mathlib.Omega.{arith}
use lib.Dec.{eqb}
use lib.ListN.{length, take, drop, replicate, length-take}
use borrow.Author.Tests.{eqb-true}
use Rattle.rules.specs.Limits.{templates_limits}
use Rattle.rules.specs.Typing.{templates_typing}
use Rattle.rules.specs.Walk.{fuel_spent, too_deep, output_full, done, ended, stuck}
use Rattle.rules.specs.Answers.{answer, evaluate_refusal, limit_number, left, walked, unless_refused, input, evaluate}
use Rattle.theorems.proofs.Few.{paths_few}
use Rattle.theorems.proofs.Sound.{never_stuck}
use Rattle.theorems.specs.Kept.{admitted_typed}
use Rattle.walk.specs.declared.state.Run.{Run}
use Rattle.walk.specs.Run.{state_of, end_numbered, view, Walked}
use Rattle.walk.specs.Bodies.{FewPaths}
use Rattle.feed.specs.Verdict.{run_answer, outcome}

-- an accepted expand has few paths
pub paths_fit : (g t : List ℕ) → templates_limits t ≡ none → templates_typing g t ≡ none → FewPaths t
paths_fit g t e h = record { each = paths_few g t e h }

-- the answer of a run that is not stuck is that of its end
module _ (out scratch out' : List ℕ) (bytes : ℕ) (fits_in : bytes ≤ length out) (same : length out' ≡ length out) (output : out' ≡ take bytes out' ++ drop bytes out) where
  text_length_lem : length (take bytes out') ≡ bytes
  text_length_lem = simp length-take (omega arith)

  left_is : (number kind place steps : ℕ) → outcome (answer number kind place steps bytes) out' (replicate (length scratch) 0)
      ≡ left (answer number kind place steps (length (take bytes out'))) (take bytes out') out scratch
  unfolding left
  left_is number kind place steps =
      rw text_length_lem (ap (λ (x : List ℕ). outcome (answer number kind place steps bytes) x (replicate (length scratch) 0)) output)

  by_number : (n place steps : ℕ) (a b c d : Bool) → eqb n 10 ≡ b → eqb n 11 ≡ c → eqb n 12 ≡ d
      → (cond a (done (state_of steps bytes out')) (cond b (ended fuel_spent place (state_of steps bytes out')) (cond c (ended too_deep place (state_of steps bytes out')) (cond d (ended output_full place (state_of steps bytes out')) stuck))) ≡ stuck → ⊥)
      → outcome (cond a (answer 0 0 0 steps bytes) (answer n 2 place steps bytes)) out' (replicate (length scratch) 0)
      ≡ walked (cond a (done (state_of steps bytes out')) (cond b (ended fuel_spent place (state_of steps bytes out')) (cond c (ended too_deep place (state_of steps bytes out')) (cond d (ended output_full place (state_of steps bytes out')) stuck)))) out scratch
  unfolding walked limit_number
  by_number n place steps true b c d e₁ e₂ e₃ h = left_is 0 0 0 steps
  by_number n place steps false true c d e₁ e₂ e₃ h = rw (eqb-true n 10 e₁) (left_is 10 2 place steps)
  by_number n place steps false false true d e₁ e₂ e₃ h = rw (eqb-true n 11 e₂) (left_is 11 2 place steps)
  by_number n place steps false false false true e₁ e₂ e₃ h = rw (eqb-true n 12 e₃) (left_is 12 2 place steps)
  by_number n place steps false false false false e₁ e₂ e₃ h = absurd (h refl)

  end_is : (r : Run) → r.bytes ≡ bytes → (view r out' ≡ stuck → ⊥)
      → outcome (run_answer r) out' (replicate (length scratch) 0) ≡ walked (view r out') out scratch
  unfolding view end_numbered run_answer
  end_is r e h = rw e (by_number r.number r.place r.steps (eqb r.number 0) (eqb r.number 10) (eqb r.number 11) (eqb r.number 12) refl refl refl (rw e at h))

pub evaluate_walks : (g t v : List ℕ) (fuel : ℕ) (out scratch out' scratch' : List ℕ) (r : Run) → evaluate_refusal g t v scratch ≡ none
    → length out' ≡ length out → Walked g t v fuel r out out' scratch scratch' → outcome (run_answer r) out' scratch' ≡ evaluate g t v fuel out scratch
unfolding evaluate unless_refused
evaluate_walks g t v fuel out scratch out' scratch' r e same w =
    rw (e, w.cleared, ← w.meets)
    (end_is out scratch out' r.bytes w.inside same w.output r refl (λ z. never_stuck (input g t v fuel out) (admitted_typed g t v fuel out scratch e) (sym w.meets ∙ z)))
