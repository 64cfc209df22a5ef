-- "Places are record indexes of the first offending head": each rule's check answers the first place that offends, and none before it does.
-- (Goes on in proofs/FirstOffending.antt.)
use Rattle.std.specs.Prelude.{◌≡◌, refl, ◌↔◌, ℕ, List, Bool, true, false}
use Rattle.std.proofs.Common.{sym, true≢false, arith}
use Rattle.std.proofs.lemmas.Bool.{false≢true}
use Rattle.std.proofs.Math.Option.{Option, none, some, some-ne-none, none-ne-some, some-injective}
use Rattle.rules.specs.Faults.{need, at}
use Rattle.rules.specs.Records.{kind_of}
use Rattle.rules.specs.Blocks.{stream_length}
use Rattle.rules.specs.Layout.{layout_fault, grammar_layout, templates_layout, value_layout}
use Rattle.rules.specs.Answers
use Rattle.rules.specs.Answers.{Stream, bytes_of, layout_of, limits_of}
use Rattle.theorems.specs.Streams.{WellSized, length_exactly}
use Rattle.theorems.specs.LayoutExactly.{grammar_laid_exactly, templates_laid_exactly, value_laid_exactly}
use Rattle.theorems.specs.Least.{First, first_none}
use Rattle.theorems.specs.Offences.{Laid, WrongClass}

-- a test fails where what it decides does not hold
pub fails_iff : {P : Type 0} (b : Bool) → ((b ≡ true) ↔ P) → (b ≡ false) ↔ (P → ⊥)
fails_iff true h = (λ e. absurd (true≢false e), λ n. absurd (n (h.0 refl)))
fails_iff false h = (λ e p. false≢true (h.1 p), λ n. refl)

-- a check that answers place 0 alone
at_0 : (b : Bool) (p : ℕ) → need b 0 ≡ some p → p ≡ 0
unfolding need
at_0 true p e = absurd (none-ne-some p e)
at_0 false p e = sym (some-injective 0 p e)

first_at_0 : {P : Type 0} (o : Option ℕ) → ((p : ℕ) → o ≡ some p → p ≡ 0) → ((o ≡ none) ↔ P) → First (λ p. (p ≡ 0) × (P → ⊥)) o
first_at_0 none z h = first_none (λ q o. o.1 (h.0 refl))
first_at_0 (some p) z h = record {
  none_offends = λ e q o. some-ne-none p e;
  first_offends = λ q e. ((z q e, λ x. some-ne-none p (h.1 x)), λ r l o. let i = z q e in omega arith);
}

-- 1
pub first_length : (s : List ℕ) → First (λ p. (p ≡ 0) × (WellSized s → ⊥)) (stream_length s)
first_length s = first_at_0 (stream_length s) (unfold stream_length in at_0 _) (length_exactly s)

-- 3
pub laid_exactly : (s : Stream) → WellSized (bytes_of s) → (layout_of s ≡ none) ↔ Laid s
unfolding bytes_of layout_of
laid_exactly (Answers.grammar g) w = grammar_laid_exactly g w
laid_exactly (Answers.templates t) w = templates_laid_exactly t w
laid_exactly (Answers.value v) w = value_laid_exactly v w

layout_at_0 : (s : Stream) (p : ℕ) → layout_of s ≡ some p → p ≡ 0
unfolding layout_of grammar_layout templates_layout value_layout layout_fault
layout_at_0 (Answers.grammar g) = at_0 _
layout_at_0 (Answers.templates t) = at_0 _
layout_at_0 (Answers.value v) = at_0 _

pub first_layout : (s : Stream) → WellSized (bytes_of s) → First (λ p. (p ≡ 0) × (Laid s → ⊥)) (layout_of s)
first_layout s w = first_at_0 (layout_of s) (layout_at_0 s) (laid_exactly s w)

pub at_itself : (o : Option ℕ) → at (λ w. w) o ≡ o
unfolding at
at_itself none = refl
at_itself (some w) = refl

-- an escaped class has no bounds
abbrev pub PlainWrong : List ℕ → ℕ → ℕ → Type 0
PlainWrong g p q = (kind_of g p ≡ 1) × WrongClass g p q
