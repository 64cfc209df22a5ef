-- Each return is the refusal of its test, or none; what the tests before it said is cited.
use mathlib.Core.Path.{sym, ◌∙◌}
use Rattle.rules.specs.Answers.{pack}
use Rattle.laws.specs.Blocks.{packed_length}
use Rattle.stream.proofs.BlockLaws.{found, unfound}
use Rattle.stream.proofs.PackLaws.{refused_leaves, finished_leaves, pack_length, pack_kind, pack_room, pack_fits}
use Rattle.stream.proofs.pack.pack.Goals as goal

pub returns-in-Err : goal.returns-in-Err
unfolding pack
returns-in-Err c =
    refused_leaves _ _ _ _ _ (pack_length _ _ _ _ (found _ _ _ c.payload_fault.ensures c.in-Err.is)) c.refused.ensures

pub returns-then-not-is_kind : goal.returns-then-not-is_kind
unfolding pack
returns-then-not-is_kind c =
    refused_leaves _ _ _ _ _ (pack_kind _ _ _ (unfound _ _ _ c.payload_fault.ensures c.in_default.is) (sym c.is_kind.ensures ∙ c.if-not-is_kind.true)) c.refused-then-not-is_kind.ensures

pub returns-then-out-bytes : goal.returns-then-out-bytes
unfolding pack
returns-then-out-bytes c =
    refused_leaves _ _ _ _ _ (pack_room _ _ _ (unfound _ _ _ c.payload_fault.ensures c.in_default.is) (sym c.is_kind.ensures ∙ c.if-not-is_kind.false) c.if-out-bytes.true) c.refused-then-out-bytes.ensures

pub returns : goal.returns
unfolding pack
returns c =
    finished_leaves _ _ _ _ _ _ (pack_fits _ _ _ (unfound _ _ _ c.payload_fault.ensures c.in_default.is) (sym c.is_kind.ensures ∙ c.if-not-is_kind.false) c.if-out-bytes.false) (packed_length _ _) c.finished.ensures c.put_blocks.ensures
