use native.Mathlib.Omega.{arith}
use Rattle.stream.proofs.TextLaws.{text_length_lem}
use Rattle.stream.proofs.TextCopyLaws.{no_room}
use Rattle.stream.proofs.text.copy_text.Goals as goal
use Rattle.stream.proofs.text.copy_text.Goals.{then-out-t+else-out-n, else-out-t}

pub returns-then-out-n : goal.returns-then-out-n
returns-then-out-n c = no_room _ _ _ c.text_len-n.ensures c.if-out-n.true

pub copy_parts-requires : goal.copy_parts-requires
copy_parts-requires c =
    elim c.if-out-t.branch [
      | then-out-t+else-out-n w ↦ omega (arith, w.text_len-n.ensures, w.if-out-n.false)
      | else-out-t w ↦ omega (arith, text_length_lem c.args.s.now c.args.t, w.if-out-t.false)
    ]
