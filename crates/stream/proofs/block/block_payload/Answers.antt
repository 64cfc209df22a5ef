-- What it hands back: the part from byte 4 of a block that is right, or the empty part at the beginning.
use Prim.Native.Nat.{ℕ, ◌+◌}
use mathlib.Core.Path.{refl, ap, sym, ◌∙◌}
use native.Mathlib.Omega.{arith}
use Rattle.stream.proofs.BlockLaws.{single_length, single_begins, payload_single, payload_none}
use Rattle.stream.proofs.block.block_payload.Goals as goal

pub slice_bounds-result-end : goal.slice_bounds-result-end
slice_bounds-result-end c = omega (arith, single_length c.args.block.now c.args.start (sym c.is_single.ensures ∙ c.if-is_single.true))

pub returns-then-is_single : goal.returns-then-is_single
returns-then-is_single c =
    let args = c.args in
    let block = args.block in
    let e = sym c.is_single.ensures ∙ c.if-is_single.true in (
      payload_single block.now args.start e,
      ap {B = ℕ × ℕ} (λ (at : ℕ). (block.ref_ptr.0, at + block.ref_ptr.1)) (single_begins block.now args.start e),
    )

pub returns-else-is_single : goal.returns-else-is_single
returns-else-is_single c = (payload_none _ _ (sym c.is_single.ensures ∙ c.if-is_single.false), refl)
