-- The check call and the evaluate call refuse by the first offence of all: by the refusal's number, then by the stream, then by the place.
-- (Goes on in proofs/FirstRefused.antt.)
use Rattle.std.specs.Prelude.{◌≡◌, ◌⊎◌, ℕ, ◌≤◌, ◌<◌, List, []}
use Rattle.std.proofs.Common.{arith}
use Rattle.std.proofs.Math.Option.{none, none-ne-some}
use Rattle.rules.specs.declared.Answer.{Answer}
use Rattle.theorems.specs.Least.{in_none}
use Rattle.theorems.specs.Offences.{Offence, wrong_length, wrong_block, wrong_layout, over_limits, grammar_unnamed, templates_unnamed, wrong_class, misfit, mistyped, short_scratch}

-- The order of the refusals: "in this order, each over grammar, templates, value before the next", and in a stream the first head. A kind and a place:
abbrev pub Earlier : ℕ × ℕ → ℕ × ℕ → Type 0
Earlier x y = (x.0 < y.0) ⊎ ((x.0 ≡ y.0) × (x.1 < y.1))

-- a number, a kind and a place
abbrev pub Before : Answer → Answer → Type 0
Before a b = (a.number < b.number) ⊎ ((a.number ≡ b.number) × Earlier (a.kind, a.place) (b.kind, b.place))

-- the offence that an answer names
abbrev pub Names : (ℕ → ℕ → ℕ → Type 0) → Answer → Type 0
Names Off a = Off a.number a.kind a.place

-- "The check call tries 1 to 7 on grammar and templates": without a value and a scratch there is no offence past these
pub to_7 : (g t : List ℕ) {n k p : ℕ} → Offence g t [] none n k p → n ≤ 7
to_7 g t (wrong_length s i n) = omega arith
to_7 g t (wrong_block s n i w) = omega arith
to_7 g t (wrong_layout s i n) = omega arith
to_7 g t (over_limits s q i o) = omega arith
to_7 g t (grammar_unnamed q o) = omega arith
to_7 g t (templates_unnamed q o) = omega arith
to_7 g t (wrong_class p q i k o) = omega arith
to_7 g t (misfit q o) = omega arith
to_7 g t (mistyped v q i o) = absurd (in_none i)
to_7 g t (short_scratch xs e l) = absurd (none-ne-some xs e)
