-- The customer's three demands, gathered: of what the calls answer and leave. `check`, `evaluate`, `pack` and `unpack` are the definitions that the
-- compiled calls are proved equal to.
-- Goes on from specs/Demands.antt: what rests on definitions that a must-fail edit changes.
use Rattle.std.specs.Prelude.{◌≡◌, ℕ, ◌≤◌, List, length}
use Rattle.rules.specs.Answers.{answer, check, evaluate}
use Rattle.theorems.specs.Accepted.{WellFormed, AtMost200Deep}
use Rattle.theorems.proofs.Accepted.{accepted_exactly}
use Rattle.theorems.specs.ValueExactly.{ValueTyped}
use Rattle.theorems.specs.Packing.{fill_small, unpack_of_pack}
use Rattle.theorems.specs.Unpacked.{records_unpacked}
use Rattle.theorems.proofs.Kept.{refusals_keep}
use Rattle.theorems.specs.EvaluateCall.{AnswersAsWalk}
use Rattle.theorems.proofs.EvaluateCall.{answers_of_accepted, text_exactly, text_begun}
use Rattle.theorems.proofs.InOrder.{check_in_order, evaluate_in_order}
use Rattle.theorems.specs.Demands.{Demand1, Demand2}

pub demand_1 : Demand1
demand_1 = record { finished_or_refused = refusals_keep; check_in_order = check_in_order; evaluate_in_order = evaluate_in_order }

pub demand_2 : Demand2
demand_2 = record {
  accepts_exactly = accepted_exactly;
  text_exactly = text_exactly;
  text_begun = text_begun;
  same_records = unpack_of_pack;
  little_fill = fill_small;
  records_read = records_unpacked;
}

-- 3. "Whatever grammar and template set the check accepts, whatever well-formed record of the declared type, at most 200 deep, comes with them, whatever the fuel, and
-- whatever output and scratch are lent, the scratch of at least the stated length: the result is a finished text exactly when the rules' own walk meets no limit, and
-- fuel spent, nesting too deep or output full exactly when that is the limit the walk meets first. The evaluate call's whole answer and every byte it writes into
-- the output are then the walk's, and every finished text is derived by the target grammar from the root template's nonterminal .."
pub demand_3 : (g t v : List ℕ) (fuel : ℕ) (out scratch : List ℕ) → check g t ≡ answer 0 0 0 0 0 → WellFormed v → ValueTyped g t v → AtMost200Deep v
    → 4800 ≤ length scratch → AnswersAsWalk g t v fuel out scratch (evaluate g t v fuel out scratch)
demand_3 g t v fuel out scratch accepted well_formed typed shallow enough =
    answers_of_accepted g t v fuel out scratch
    (record { accepted = (accepted_exactly g t).0 accepted; well_formed = well_formed; shallow = shallow; of_declared_type = typed; scratch_enough = enough })
