-- The customer's three demands, gathered: of what the calls answer and leave. `check`, `evaluate`, `pack` and `unpack` are the definitions that the
-- compiled calls are proved equal to.
-- (Goes on in proofs/Demands.antt.)
use Rattle.std.specs.Prelude.{◌≡◌, ◌↔◌, ℕ, ◌*◌, ◌≤◌, ◌<◌, List, length}
use Rattle.rules.specs.Answers.{answer, check, evaluate, pack}
use Rattle.theorems.specs.Streams.{WellSized}
use Rattle.theorems.specs.Accepted.{Accepted}
use Rattle.theorems.specs.Evaluation.{EvaluatesSet}
use Rattle.theorems.specs.Packing.{block_count, fill_count, RoundTrip}
use Rattle.theorems.specs.Unpacked.{RecordsUnpacked}
use Rattle.theorems.specs.Kept.{Kept, text_left}
use Rattle.theorems.specs.EvaluateCall.{Begun}
use Rattle.theorems.specs.InOrder.{CheckInOrder, EvaluateInOrder}

-- 1. "A caller who lends any grammar, template set, record, scratch and output buffer, of any bytes and lengths, gets either a finished text or one numbered
-- refusal, set by a stated order of checks, and finds every lent byte afterwards as document 01 states."
pub record Demand1 : Type 0 where
  pub finished_or_refused : (g t v : List ℕ) (fuel : ℕ) (out scratch : List ℕ) → Kept g t v fuel out scratch (evaluate g t v fuel out scratch)
  pub check_in_order : (g t : List ℕ) → CheckInOrder g t
  pub evaluate_in_order : (g t v : List ℕ) (fuel : ℕ) (out scratch : List ℕ) → EvaluateInOrder g t v fuel out scratch

-- 2. "The checker accepts a grammar and template set exactly when the written rules of blocks, layout, limits, names, classes and typing hold, .. and the text is
-- byte for byte what the written evaluation rules give; blocks packed and unpacked return the same records, with zero fill at most after them."
pub record Demand2 : Type 0 where
  pub accepts_exactly : (g t : List ℕ) → (check g t ≡ answer 0 0 0 0 0) ↔ Accepted g t
  -- a finished text, with its steps; and what was written of one that a limit ended
  pub text_exactly : (g t v : List ℕ) (fuel : ℕ) (out scratch : List ℕ) → (evaluate g t v fuel out scratch).result.number ≡ 0 → (x : List ℕ) (n : ℕ)
      → EvaluatesSet g t v x n ↔ ((x ≡ text_left (evaluate g t v fuel out scratch)) × (n ≡ (evaluate g t v fuel out scratch).result.steps))
  pub text_begun : (g t v : List ℕ) (fuel : ℕ) (out scratch : List ℕ) → 10 ≤ (evaluate g t v fuel out scratch).result.number
      → (x : List ℕ) (n : ℕ) → EvaluatesSet g t v x n → Begun fuel (length out) x n (evaluate g t v fuel out scratch)
  pub same_records : (kind : ℕ) (payload out out' : List ℕ) → (pack kind payload out).result.number ≡ 0 → 504 * block_count payload ≤ length out'
      → RoundTrip kind payload out out'
  pub little_fill : (payload : List ℕ) → fill_count payload < 504
  -- and what unpacking gives are the records as the rules read them
  pub records_read : (s : List ℕ) → WellSized s → RecordsUnpacked s
