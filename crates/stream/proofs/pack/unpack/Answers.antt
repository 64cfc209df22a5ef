-- Each return is the refusal of its test, or none; what the tests before it said is cited.
use mathlib.Core.Path.{sym, ◌∙◌}
use Rattle.rules.specs.Answers.{unpack}
use Rattle.laws.specs.Blocks.{unpacked_length}
use Rattle.stream.proofs.BlockLaws.{found, unfound}
use Rattle.stream.proofs.PackLaws.{refused_leaves, finished_leaves, unpack_length, unpack_kind, unpack_block, unpack_room, unpack_fits}
use Rattle.stream.proofs.pack.unpack.Goals as goal

pub returns-in-Err : goal.returns-in-Err
unfolding unpack
returns-in-Err c =
    refused_leaves _ _ _ _ _ (unpack_length _ _ _ _ (found _ _ _ c.length_fault.ensures c.in-Err.is)) c.refused.ensures

pub returns-then-not-is_kind : goal.returns-then-not-is_kind
unfolding unpack
returns-then-not-is_kind c =
    refused_leaves _ _ _ _ _ (unpack_kind _ _ _ (unfound _ _ _ c.length_fault.ensures c.in_default.is) (sym c.is_kind.ensures ∙ c.if-not-is_kind.true)) c.refused-then-not-is_kind.ensures

pub returns-in-Err-block_fault : goal.returns-in-Err-block_fault
unfolding unpack
returns-in-Err-block_fault c =
    refused_leaves _ _ _ _ _ (unpack_block _ _ _ _ (unfound _ _ _ c.length_fault.ensures c.in_default.is) (sym c.is_kind.ensures ∙ c.if-not-is_kind.false) (found _ _ _ c.block_fault.ensures c.in-Err-block_fault.is)) c.refused-in-Err-block_fault.ensures

pub returns-then-out-bytes : goal.returns-then-out-bytes
unfolding unpack
returns-then-out-bytes c =
    refused_leaves _ _ _ _ _ (unpack_room _ _ _ (unfound _ _ _ c.length_fault.ensures c.in_default.is) (sym c.is_kind.ensures ∙ c.if-not-is_kind.false) (unfound _ _ _ c.block_fault.ensures c.in_default-block_fault.is) c.if-out-bytes.true) c.refused-then-out-bytes.ensures

pub returns : goal.returns
unfolding unpack
returns c =
    finished_leaves _ _ _ _ _ _ (unpack_fits _ _ _ (unfound _ _ _ c.length_fault.ensures c.in_default.is) (sym c.is_kind.ensures ∙ c.if-not-is_kind.false) (unfound _ _ _ c.block_fault.ensures c.in_default-block_fault.is) c.if-out-bytes.false) (unpacked_length _) c.finished.ensures c.put_payloads.ensures
