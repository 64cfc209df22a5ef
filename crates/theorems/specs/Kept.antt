-- What an evaluate call leaves of what it was lent: refused by 1 to 9, everything; otherwise the walk's text in front, the rest of the output, and zeros.
-- (Goes on in proofs/Kept.antt.)
use Rattle.std.specs.Prelude.{◌≡◌, ℕ, ◌≤◌, List, length, take, drop, replicate}
use Rattle.std.proofs.Math.Option.{none}
use Rattle.rules.specs.Walk.{State, Limit, End, done, ended, walk}
use Rattle.rules.specs.Answers.{answer, evaluate_refusal, limit_number, Outcome, input}
use Rattle.laws.specs.Faults.{placed_iff, try_iff}
use Rattle.theorems.specs.Refusals.{Refusal}
use Rattle.theorems.specs.Accepted.{set_none}
use Rattle.theorems.specs.Sound.{WellTyped}

-- "output and scratch keep their bytes"
pub record Untouched (out scratch : List ℕ) (o : Outcome) : Type 0 where
  pub output_kept : o.output ≡ out
  pub scratch_kept : o.scratch ≡ scratch

-- "Otherwise the first written bytes are what the walk produced, the rest of the output is untouched, and all of the lent scratch becomes zero."
pub record Produced (s : State) (out scratch : List ℕ) (o : Outcome) : Type 0 where
  pub fits : length s.text ≤ length out
  pub first_bytes : take (length s.text) o.output ≡ s.text
  pub rest_kept : drop (length s.text) o.output ≡ drop (length s.text) out
  pub output_length : length o.output ≡ length out
  pub scratch_zero : o.scratch ≡ replicate (length scratch) 0

-- the call answers as its walk ends, and leaves what that has produced; the five fields are number, stream kind, place, steps, bytes
pub data AsWalked (e : End) (out scratch : List ℕ) (o : Outcome) : Type 0 where
  finished : (s : State) → e ≡ done s → o.result ≡ answer 0 0 0 s.steps (length s.text) → Produced s out scratch o → AsWalked e out scratch o
  limited : (l : Limit) (p : ℕ) (s : State) → e ≡ ended l p s → o.result ≡ answer (limit_number l) 2 p s.steps (length s.text)
      → Produced s out scratch o → AsWalked e out scratch o

-- the two ways in which an evaluate call can go: refused by a number from 1 to 9, or as its walk goes
pub data Kept (g t v : List ℕ) (fuel : ℕ) (out scratch : List ℕ) (o : Outcome) : Type 0 where
  refused : Refusal o.result → Untouched out scratch o → Kept g t v fuel out scratch o
  as_walked : AsWalked (walk (input g t v fuel out)) out scratch o → Kept g t v fuel out scratch o

-- the text that a call wrote: as many bytes of the output as it counted
abbrev pub text_left : Outcome → List ℕ
text_left o = take o.result.bytes o.output

pub text_produced : {s : State} {out scratch : List ℕ} {o : Outcome} → o.result.bytes ≡ length s.text → Produced s out scratch o → text_left o ≡ s.text
text_produced e p = rw e p.first_bytes

-- what no refusal of 1 to 9 meets is typed, so its walk is not stuck
pub admitted_typed : (g t v : List ℕ) (fuel : ℕ) (out scratch : List ℕ) → evaluate_refusal g t v scratch ≡ none → WellTyped (input g t v fuel out)
unfolding evaluate_refusal input
admitted_typed g t v fuel out scratch e =
    let a = (set_none g t _ _).0 e in
    record { set_typed = a.0.typing; value_typed = (placed_iff _ _).0 ((try_iff 8 _ _).0 a.1).0 }
