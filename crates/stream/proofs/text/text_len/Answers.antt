use Prim.Native.Nat.{◌+◌}
use mathlib.Core.Path.{ap, sym, ◌∙◌}
use native.Mathlib.Omega.{arith}
use lib.ListN.{length, length-append}
use native.Mathlib.Nat.{add_assoc, add-zero}
use Rattle.stream.proofs.PartsLaws.{turn}
use Rattle.stream.proofs.TextLaws.{text_length_lem, part_length, scan_next, scan_end}
use Rattle.stream.proofs.text.text_len.Goals as goal

pub overflow_add-n : goal.overflow_add-n
overflow_add-n c =
    let now = turn _ _ _ _ c.loop-part.invariant.0 c.in-Some.ensures.steps in
    omega (arith, text_length_lem c.args.s.now c.args.t, part_length c.args.s.now c.loop-part.part-iterator.rest, ap length now.part)

pub loop-part-preserved : goal.loop-part-preserved
loop-part-preserved c =
    let now = turn _ _ _ _ c.loop-part.invariant.0 c.in-Some.ensures.steps in
    (now.stream, rw now.part (scan_next (λ n x. n + length x) (λ n x. n + length x) (λ n x y. rw (length-append x y, add_assoc)) c.args.s.now c.loop-part.part-iterator.rest _ c.loop-part.n _ now.rest c.loop-part.invariant.1))

pub returns : goal.returns
returns c = sym (add-zero _) ∙ scan_end (λ n x. n + length x) (λ n x. n + length x) (λ n x y. rw (length-append x y, add_assoc)) c.args.s.now c.loop-part.part-iterator.rest c.loop-part.n _ (omega (arith, c.in-None.ensures.steps)) c.loop-part.invariant.1
