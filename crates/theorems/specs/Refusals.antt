-- What a refusal answers: a number from 1 to 9, "For 1 to 9 steps and bytes are 0".
use Rattle.std.specs.Prelude.{◌≡◌, refl, ℕ, ◌≤◌, List}
use Rattle.std.proofs.Common.{sym, arith}
use Rattle.std.proofs.Math.Option.{Option, none, some, none-ne-some, some-injective}
use Rattle.rules.specs.Answers.{answer, Stream, try, accept, set_refusal, check_refusal, evaluate_refusal}
use Rattle.rules.specs.declared.Answer.{Answer}

pub record Refusal (a : Answer) : Type 0 where
  pub from_1 : 1 ≤ a.number
  pub to_9 : a.number ≤ 9
  pub no_steps : a.steps ≡ 0
  pub no_bytes : a.bytes ≡ 0

-- what is tried gives such refusals only
abbrev pub Refuses : Option Answer → Type 0
Refuses o = (a : Answer) → o ≡ some a → Refusal a

accept_refuses : Refuses (accept tt)
unfolding accept
accept_refuses a e = absurd (none-ne-some a e)

try_refuses : (n : ℕ) (found : Option (ℕ × ℕ)) (next : Unit {0} → Option Answer) → 1 ≤ n → n ≤ 9 → Refuses (next tt) → Refuses (try n found next)
unfolding try answer
try_refuses n none next l m h a e = h a e
try_refuses n (some (kind, place)) next l m h a e =
    rw (sym (some-injective _ a e)) (record { from_1 = l; to_9 = m; no_steps = refl; no_bytes = refl })

set_refuses : (g t : List ℕ) (streams : List Stream) (next : Unit {0} → Option Answer) → Refuses (next tt) → Refuses (set_refusal g t streams next)
unfolding set_refusal
set_refuses g t streams next h =
    try_refuses 1 _ _ (omega arith) (omega arith) (try_refuses 2 _ _ (omega arith) (omega arith) (try_refuses 3 _ _ (omega arith) (omega arith)
    (try_refuses 4 _ _ (omega arith) (omega arith) (try_refuses 5 _ _ (omega arith) (omega arith) (try_refuses 6 _ _ (omega arith) (omega arith)
    (try_refuses 7 _ _ (omega arith) (omega arith) h))))))

pub check_refuses : (g t : List ℕ) → Refuses (check_refusal g t)
unfolding check_refusal
check_refuses g t = set_refuses g t _ _ accept_refuses

pub evaluate_refuses : (g t v scratch : List ℕ) → Refuses (evaluate_refusal g t v scratch)
unfolding evaluate_refusal
evaluate_refuses g t v scratch =
    set_refuses g t _ _ (try_refuses 8 _ _ (omega arith) (omega arith) (try_refuses 9 _ _ (omega arith) (omega arith) accept_refuses))
