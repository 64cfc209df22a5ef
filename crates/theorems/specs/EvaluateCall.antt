-- Of an accepted set and a value of its type: the evaluate call answers as its walk ends, and a finished text is derived by the grammar.
-- And of any call that is not refused: its text is what the evaluation rules give.
-- (Goes on in proofs/EvaluateCall.antt.)
use Rattle.std.specs.Prelude.{◌≡◌, refl, ◌↔◌, ◌⊎◌, ℕ, ◌≤◌, ◌<◌, List, ◌++◌, length}
use Rattle.std.proofs.Math.Path.{sym, ap, subst}
use Rattle.std.proofs.Common.{◌∙◌}
use Rattle.std.proofs.Math.Logic.{inl, inr}
use native.Mathlib.Omega.{arith}
use Rattle.std.proofs.Math.Option.{some}
use Rattle.rules.specs.Records.{field_b}
use Rattle.rules.specs.Templates.{template}
use Rattle.rules.specs.Derivation.{Derives}
use Rattle.rules.specs.Walk.{State, Limit, fuel_spent, too_deep, output_full, End, done, ended, walk}
use Rattle.rules.specs.Answers.{answer, limit_number, Outcome, input}
use Rattle.rules.specs.declared.Answer.{Answer}
use Rattle.theorems.specs.Kept.{AsWalked, finished, limited, text_left, text_produced}

-- a limit that the walk meets
abbrev pub Meets : End → Limit → Type 0
Meets e l = (p : ℕ) × (s : State) × (e ≡ ended l p s)

-- "derived by the target grammar from the root template's nonterminal"
pub record FromRoot (g t x : List ℕ) : Type 0 where
  pub root : ℕ
  pub root_there : template t 0 ≡ some root
  pub derivation : Derives g (field_b t root) x

-- What demand 3 says of an outcome: "the result is a finished text exactly when the rules' own walk meets no limit, and fuel spent, nesting too deep or
-- output full exactly when that is the limit the walk meets first. The evaluate call's whole answer and every byte it writes into the output are then
-- the walk's, and every finished text is derived by the target grammar from the root template's nonterminal".
pub record AnswersAsWalk (g t v : List ℕ) (fuel : ℕ) (out scratch : List ℕ) (o : Outcome) : Type 0 where
  pub finished_exactly : (o.result.number ≡ 0) ↔ ((l : Limit) → Meets (walk (input g t v fuel out)) l → ⊥)
  pub fuel_spent_exactly : (o.result.number ≡ 10) ↔ Meets (walk (input g t v fuel out)) fuel_spent
  pub too_deep_exactly : (o.result.number ≡ 11) ↔ Meets (walk (input g t v fuel out)) too_deep
  pub output_full_exactly : (o.result.number ≡ 12) ↔ Meets (walk (input g t v fuel out)) output_full
  pub answer_and_bytes : AsWalked (walk (input g t v fuel out)) out scratch o
  pub finished_derived : o.result.number ≡ 0 → FromRoot g t (text_left o)

same_limit : (l m : Limit) → limit_number l ≡ limit_number m → l ≡ m
unfolding limit_number
same_limit fuel_spent fuel_spent e = refl
same_limit fuel_spent too_deep e = absurd (omega arith)
same_limit fuel_spent output_full e = absurd (omega arith)
same_limit too_deep fuel_spent e = absurd (omega arith)
same_limit too_deep too_deep e = refl
same_limit too_deep output_full e = absurd (omega arith)
same_limit output_full fuel_spent e = absurd (omega arith)
same_limit output_full too_deep e = absurd (omega arith)
same_limit output_full output_full e = refl

from_10 : (l : Limit) → 10 ≤ limit_number l
unfolding limit_number
from_10 fuel_spent = omega arith
from_10 too_deep = omega arith
from_10 output_full = omega arith

done_ended : {l : Limit} {p : ℕ} {s s' : State} → done s ≡ ended l p s' → ⊥
done_ended e = let z : ◌≡◌ {A = ℕ} 0 1 = cc in omega arith

ended_limit : {l m : Limit} {p q : ℕ} {s s' : State} → ended l p s ≡ ended m q s' → l ≡ m
ended_limit e = cc

pub numbered : {a b : Answer} → a ≡ b → a.number ≡ b.number
numbered r = ap (λ (x : Answer). x.number) r

-- an outcome's number says how the walk ended
module _ {e : End} {out scratch : List ℕ} {o : Outcome} where
  pub walked_number : AsWalked e out scratch o → (o.result.number ≡ 0) ⊎ (10 ≤ o.result.number)
  unfolding answer
  walked_number (finished s h r p) = inl (numbered r)
  walked_number (limited l p s h r q) = inr (let a : o.result.number ≡ limit_number l = numbered r in let b = from_10 l in omega arith)

  pub unlimited_exactly : AsWalked e out scratch o → (o.result.number ≡ 0) ↔ ((l : Limit) → Meets e l → ⊥)
  unfolding answer
  unlimited_exactly (finished s h r p) = (λ z l m. done_ended (sym h ∙ m.2), λ n. numbered r)
  unlimited_exactly (limited l p s h r q) =
      (λ z. absurd (let a : o.result.number ≡ limit_number l = numbered r in let b = from_10 l in omega arith), λ n. absurd (n l (p, s, h)))

  pub limit_exactly : AsWalked e out scratch o → (l : Limit) → (o.result.number ≡ limit_number l) ↔ Meets e l
  unfolding answer
  limit_exactly (finished s h r p) l =
      (λ z. absurd (let a : o.result.number ≡ 0 = numbered r in let b = from_10 l in omega arith), λ m. absurd (done_ended (sym h ∙ m.2)))
  limit_exactly (limited m p s h r q) l = (
    λ z. subst (Meets e) (same_limit m l (sym (numbered r) ∙ z)) (p, s, h),
    λ k. numbered r ∙ ap limit_number (ended_limit (sym h ∙ k.2)),
  )

  -- a finished text is the walk's
  pub finished_text : AsWalked e out scratch o → o.result.number ≡ 0 → (s : State) × (e ≡ done s) × (text_left o ≡ s.text) × (o.result.steps ≡ s.steps)
  unfolding answer
  finished_text (finished s h r p) z = (s, h, text_produced (ap (λ (x : Answer). x.bytes) r) p, ap (λ (x : Answer). x.steps) r)
  finished_text (limited l p s h r q) z = absurd (let a : o.result.number ≡ limit_number l = numbered r in let b = from_10 l in omega arith)

-- what a call has done that a limit ended, on the way to the text x with n steps
pub record Begun (fuel room : ℕ) (x : List ℕ) (n : ℕ) (o : Outcome) : Type 0 where
  pub rest : List ℕ
  pub text_begins : x ≡ text_left o ++ rest
  pub steps_at_most : o.result.steps ≤ n
  pub fuel_short : o.result.number ≡ 10 → fuel < n
  pub room_short : o.result.number ≡ 12 → room < length x
