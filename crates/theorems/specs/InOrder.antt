-- What the check call and the evaluate call answer, by the stated order of checks: the first offence of all, by the refusal's number, then by the stream,
-- then by the place.
-- (Goes on in proofs/InOrder.antt.)
use Rattle.std.specs.Prelude.{◌≡◌, ◌↔◌, ◌⊎◌, List, [], ◌∷◌}
use Prim.Native.Nat.{ℕ, ◌≤◌, ◌<◌}
use Rattle.std.proofs.Math.Option.{none, some}
use Rattle.rules.specs.Answers
use Rattle.rules.specs.Answers.{answer, check_refusal, evaluate_refusal, kept, unless_refused, check, evaluate}
use Rattle.theorems.specs.Offences.{Offence}

-- "in this order, each over grammar, templates, value before the next", and in a stream the first head: by number, stream kind and place
abbrev pub Sooner : ℕ × ℕ × ℕ → ℕ × ℕ × ℕ → Type 0
Sooner x y = (x.0 < y.0) ⊎ ((x.0 ≡ y.0) × ((x.1 < y.1) ⊎ ((x.1 ≡ y.1) × (x.2 < y.2))))

-- the first offence of all
pub record FirstOffence (Off : ℕ → ℕ → ℕ → Type 0) (n k p : ℕ) : Type 0 where
  pub offends : Off n k p
  pub none_sooner : (m j q : ℕ) → Sooner (m, j, q) (n, k, p) → Off m j q → ⊥

-- "The check call tries 1 to 7 on grammar and templates, and five zeros mean accepted"
pub record CheckInOrder (g t : List ℕ) : Type 0 where
  pub refused_exactly : (n k p : ℕ) → 1 ≤ n → (check g t ≡ answer n k p 0 0) ↔ FirstOffence (Offence g t [] none) n k p
  pub accepted_exactly : (check g t ≡ answer 0 0 0 0 0) ↔ ((n k p : ℕ) → Offence g t [] none n k p → ⊥)
  pub refused_or_accepted : (n k p : ℕ) × (check g t ≡ answer n k p 0 0) × (n ≤ 7)

-- "the evaluate call all, in this order": 1 to 9, and then the walk
pub record EvaluateInOrder (g t v : List ℕ) (fuel : ℕ) (out scratch : List ℕ) : Type 0 where
  pub refused_exactly : (n k p : ℕ) → 1 ≤ n → n ≤ 9
      → ((evaluate g t v fuel out scratch).result ≡ answer n k p 0 0) ↔ FirstOffence (Offence g t (Answers.value v ∷ []) (some scratch)) n k p
  pub walked_exactly : (((evaluate g t v fuel out scratch).result.number ≡ 0) ⊎ (10 ≤ (evaluate g t v fuel out scratch).result.number))
      ↔ ((n k p : ℕ) → Offence g t (Answers.value v ∷ []) (some scratch) n k p → ⊥)
