-- An empty separator is none: two grammars that differ only in element 3 against element 4 with an empty separator derive, evaluate and answer alike.
-- (Goes on in proofs/EmptySeparator.antt.)
use Rattle.std.specs.Prelude.{◌≡◌, ◌↔◌, ℕ, ◌/◌, ◌<◌, length}
use mathlib.Core.List.{List}
use Rattle.rules.specs.Grammar.{productions, elements}
use Rattle.rules.specs.Derivation.{Derives}
use Rattle.rules.specs.Answers.{check, evaluate}
use Rattle.laws.specs.Faults.{In}
use Rattle.theorems.specs.Streams.{WellSized, RightBlock}
use Rattle.theorems.specs.Evaluation.{EvaluatesSet}

-- "right by 2": neither 1 nor 2 meets the grammar
pub record RightBy2 (g : List ℕ) : Type 0 where
  pub well_sized : WellSized g
  pub blocks_right : (n : ℕ) → n < length g / 512 → RightBlock 1 g n

-- What two grammars have alike: the elements of each production, the texts that they derive, what the evaluation rules give of a set and a value, and the
-- answers of both calls with all that they leave.
pub record AnswerAlike (g g' : List ℕ) : Type 0 where
  pub same_elements : (p : ℕ) → In p (productions g) → elements g p ≡ elements g' p
  pub derive_alike : (n : ℕ) (x : List ℕ) → Derives g n x ↔ Derives g' n x
  pub evaluate_alike : (t v x : List ℕ) (n : ℕ) → EvaluatesSet g t v x n ↔ EvaluatesSet g' t v x n
  pub check_call : (t : List ℕ) → check g t ≡ check g' t
  pub evaluate_call : (t v : List ℕ) (fuel : ℕ) (out scratch : List ℕ) → evaluate g t v fuel out scratch ≡ evaluate g' t v fuel out scratch
