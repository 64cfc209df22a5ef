-- Of an accepted set and a value of its type: the evaluate call answers as its walk ends, and a finished text is derived by the grammar.
-- And of any call that is not refused: its text is what the evaluation rules give.
-- Goes on from specs/EvaluateCall.antt: what rests on definitions that a must-fail edit changes.
use Rattle.std.specs.Prelude.{◌≡◌, refl, ◌↔◌, ℕ, ◌≤◌, ◌<◌, List, ◌++◌, length}
use Rattle.std.proofs.Math.Path.{sym, ap, subst}
use Rattle.std.proofs.Common.{◌∙◌}
use native.Mathlib.Omega.{arith}
use Rattle.std.proofs.Math.Option.{Option, none, some}
use Rattle.rules.specs.Walk.{Input, State, Limit, fuel_spent, too_deep, output_full, End, ended, walk}
use Rattle.rules.specs.Answers.{answer, limit_number, Outcome, evaluate_refusal, unless_refused, kept, input, evaluate}
use Rattle.rules.specs.declared.Answer.{Answer}
use Rattle.theorems.specs.Refusals.{Refusal, evaluate_refuses}
use Rattle.theorems.specs.Accepted.{Admitted}
use Rattle.theorems.proofs.Accepted.{admitted_exactly}
use Rattle.theorems.proofs.Sound.{finished_derived}
use Rattle.theorems.specs.Evaluation.{EvaluatesSet}
use Rattle.theorems.specs.Begins.{Begins}
use Rattle.theorems.specs.EvaluatesExactly.{Gives, fuel_short, levels_short, room_short}
use Rattle.theorems.proofs.EvaluatesExactly.{evaluates_exactly}
use Rattle.theorems.specs.Kept.{AsWalked, finished, limited, Kept, refused, as_walked, text_left, text_produced, admitted_typed}
use Rattle.theorems.proofs.Kept.{unrefused_as_walked, refusals_keep}
use Rattle.theorems.specs.EvaluateCall.{FromRoot, AnswersAsWalk, numbered, unlimited_exactly, limit_exactly, finished_text, Begun}

short : {i : Input} {z s : State} {l : Limit} {p : ℕ} → Gives i z (ended l p s)
    → Begins s z × (limit_number l ≡ 10 → i.fuel < z.steps) × (limit_number l ≡ 12 → i.room < length z.text)
unfolding limit_number
short (fuel_short p s b used less) = (b, λ e. omega arith, λ e. absurd (omega arith))
short (levels_short p s b) = (b, λ e. absurd (omega arith), λ e. absurd (omega arith))
short (room_short p s b full) = (b, λ e. absurd (omega arith), λ e. full)

limited_begun : {i : Input} {e : End} {x out scratch : List ℕ} {n : ℕ} {o : Outcome} → AsWalked e out scratch o → 10 ≤ o.result.number
    → Gives i (record { steps = n; text = x }) e → Begun i.fuel i.room x n o
unfolding answer
limited_begun {o = o} (finished s h r p) z w = absurd (let a : o.result.number ≡ 0 = numbered r in omega arith)
limited_begun {i} {x = x} {n = n} {o} (limited l p s h r q) z w =
    let (b, f, c) = short (subst (Gives i _) h w) in
    let e : text_left o ≡ s.text = text_produced (ap (λ (a : Answer). a.bytes) r) q in
    let d : o.result.steps ≡ s.steps = ap (λ (a : Answer). a.steps) r in
    let m : s.steps ≤ n = b.steps_at_most in
    record {
      rest = b.rest;
      text_begins = b.text_begins ∙ ap (λ (a : List ℕ). a ++ b.rest) (sym e);
      steps_at_most = omega arith;
      fuel_short = λ j. f (sym (numbered r) ∙ j);
      room_short = λ j. c (sym (numbered r) ∙ j);
    }

-- a call that is not refused by 1 to 9 goes as its walk goes
kept_walked : {g t v : List ℕ} {fuel : ℕ} {out scratch : List ℕ} {o : Outcome} → (Refusal o.result → ⊥) → Kept g t v fuel out scratch o
    → AsWalked (walk (input g t v fuel out)) out scratch o
kept_walked n (refused r u) = absurd (n r)
kept_walked n (as_walked w) = w

module _ (g t v : List ℕ) (fuel : ℕ) (out scratch : List ℕ) where
  pub answers_of_accepted : Admitted g t v scratch → AnswersAsWalk g t v fuel out scratch (evaluate g t v fuel out scratch)
  unfolding limit_number input
  answers_of_accepted h =
      let e = (admitted_exactly g t v scratch).1 h in
      let w = unrefused_as_walked g t v fuel out scratch e in
      record {
        finished_exactly = unlimited_exactly w;
        fuel_spent_exactly = limit_exactly w fuel_spent;
        too_deep_exactly = limit_exactly w too_deep;
        output_full_exactly = limit_exactly w output_full;
        answer_and_bytes = w;
        finished_derived = λ z.
            let (s, h, x, n) = finished_text w z in
            let (q, r, d) = finished_derived (input g t v fuel out) (admitted_typed g t v fuel out scratch e) s h in
            record { root = q; root_there = r; derivation = rw x d };
      }

  refused_not_finished : (a : Answer) → evaluate_refusal g t v scratch ≡ some a → (evaluate g t v fuel out scratch).result.number ≡ 0 → ⊥
  unfolding evaluate unless_refused kept
  refused_not_finished a e z =
      let n : a.number ≡ 0 = (rw e at z) in
      omega (arith, (evaluate_refuses g t v scratch a e).from_1)

  -- The text of a call that answers 0 is derived from the root template's nonterminal.
  pub finished_from_root : (evaluate g t v fuel out scratch).result.number ≡ 0 → FromRoot g t (text_left (evaluate g t v fuel out scratch))
  finished_from_root z = go (evaluate_refusal g t v scratch) refl
    where
      go : (r : Option Answer) → evaluate_refusal g t v scratch ≡ r → FromRoot g t (text_left (evaluate g t v fuel out scratch))
      go none e = (answers_of_accepted ((admitted_exactly g t v scratch).0 e)).finished_derived z
      go (some a) e = absurd (refused_not_finished a e z)

  -- The text of a call that answers 0, and its steps, are what the evaluation rules give, and nothing else is.
  pub text_exactly : (evaluate g t v fuel out scratch).result.number ≡ 0 → (x : List ℕ) (n : ℕ)
      → EvaluatesSet g t v x n ↔ ((x ≡ text_left (evaluate g t v fuel out scratch)) × (n ≡ (evaluate g t v fuel out scratch).result.steps))
  unfolding input
  text_exactly z x n =
      let k : Refusal (evaluate g t v fuel out scratch).result → ⊥ = λ r. let l = r.from_1 in omega arith in
      let (s, h, e, c) = finished_text (kept_walked k (refusals_keep g t v fuel out scratch)) z in
      let (to, from) = (evaluates_exactly (input g t v fuel out)).0 s h x n in
      (λ d. let r = to d in (r.0 ∙ sym e, r.1 ∙ sym c), λ q. from (q.0 ∙ e, q.1 ∙ c))

  -- Where a limit ended the call, its text begins what the evaluation rules give, and its steps are at most theirs: fewer where the fuel is spent.
  -- Where the output is full, it is too short for that text.
  pub text_begun : 10 ≤ (evaluate g t v fuel out scratch).result.number → (x : List ℕ) (n : ℕ) → EvaluatesSet g t v x n
      → Begun fuel (length out) x n (evaluate g t v fuel out scratch)
  unfolding input
  text_begun z x n h =
      let k : Refusal (evaluate g t v fuel out scratch).result → ⊥ = λ r. let l = r.to_9 in omega arith in
      limited_begun (kept_walked k (refusals_keep g t v fuel out scratch)) z ((evaluates_exactly (input g t v fuel out)).1 x n h)
