-- One state of a walk begins another.
use Rattle.std.specs.Prelude.{◌≡◌, refl, ℕ, ◌≤◌, List, [], ◌++◌}
use Rattle.std.proofs.Common.{sym, append_assoc, append-nil, arith}
use Rattle.rules.specs.Walk.{State, counted}

-- the state after a piece of text
abbrev pub written : State → List ℕ → State
written s x = record { steps = s.steps; text = s.text ++ x }

-- the text of s begins that of s', and its steps are at most those of s'
pub record Begins (s s' : State) : Type 0 where
  pub rest : List ℕ
  pub text_begins : s'.text ≡ s.text ++ rest
  pub steps_at_most : s.steps ≤ s'.steps

pub begins_itself : (s : State) → Begins s s
begins_itself s = record { rest = []; text_begins = sym (append-nil s.text); steps_at_most = omega arith }

pub begins_then : {s₁ s₂ s₃ : State} → Begins s₁ s₂ → Begins s₂ s₃ → Begins s₁ s₃
begins_then {s₁} a b = record {
  rest = a.rest ++ b.rest;
  text_begins = cc (append_assoc s₁.text a.rest b.rest, a.text_begins, b.text_begins);
  steps_at_most = let l = a.steps_at_most in let m = b.steps_at_most in omega arith;
}

pub begins_written : (s : State) (x : List ℕ) → Begins s (written s x)
begins_written s x = record { rest = x; text_begins = refl; steps_at_most = omega arith }

pub begins_counted : (s : State) → Begins s (counted s)
unfolding counted
begins_counted s = record { rest = []; text_begins = sym (append-nil s.text); steps_at_most = omega arith }
