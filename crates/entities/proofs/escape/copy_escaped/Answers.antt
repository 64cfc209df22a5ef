use native.Mathlib.Omega.{arith}
use Rattle.stream.proofs.TextCopyLaws.{no_room}
use Rattle.entities.proofs.EscapeLaws.{laid_copied, surely_fits}
use Rattle.entities.proofs.escape.copy_escaped.Goals as goal
use Rattle.entities.proofs.escape.copy_escaped.Goals.{then-out-t+else-out-n, else-out-t}

pub returns-then-out-n : goal.returns-then-out-n
returns-then-out-n c = no_room _ _ _ c.escaped_len-n.ensures c.if-out-n.true

pub escape_parts-requires : goal.escape_parts-requires
escape_parts-requires c =
    elim c.if-out-t.branch [
      | then-out-t+else-out-n w ↦ omega (arith, w.escaped_len-n.ensures, w.if-out-n.false)
      | else-out-t w ↦ surely_fits c.args.s.now c.args.t _ w.if-out-t.false
    ]

pub returns : goal.returns
returns c = laid_copied c.escape_parts.ensures
