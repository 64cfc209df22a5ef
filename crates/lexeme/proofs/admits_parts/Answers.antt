use mathlib.Core.Path.{sym, ◌∙◌}
use native.Mathlib.Omega.{arith}
use Rattle.stream.proofs.PartsLaws.{turn}
use Rattle.lexeme.proofs.LexemeLaws.{by_scan, by_kind, read_turn, read_bad, read_past, read_short, read_whole}
use Rattle.lexeme.proofs.admits_parts.Goals as goal

pub returns-then-head-ne1 : goal.returns-then-head-ne1
returns-then-head-ne1 c = by_kind _ _ _ (rw c.fetch-head.ensures.kind at c.if-head-ne1.true)

pub returns-in_default : goal.returns-in_default
returns-in_default c =
    let now = turn _ _ _ _ c.loop-part.invariant.0 c.in-Some.ensures.steps in
    by_scan _ _ _ _ _ (sym c.fetch-head.ensures.kind ∙ c.if-head-ne1.false) (read_bad _ _ _ _ _ _ _ _ c.loop-part.invariant.1 now.part now.rest c.in_default.ensures)

pub returns-then-most-next : goal.returns-then-most-next
returns-then-most-next c =
    let now = turn _ _ _ _ c.loop-part.invariant.0 c.in-Some.ensures.steps in
    by_scan _ _ _ _ _ (sym c.fetch-head.ensures.kind ∙ c.if-head-ne1.false) (read_past _ _ _ _ _ _ _ _ c.loop-part.invariant.1 now.part now.rest _ c.in-Some-scan_part.ensures (omega (arith, c.if-most-next.true, c.fetch-head.ensures.c)))

pub loop-part-preserved : goal.loop-part-preserved
loop-part-preserved c =
    let now = turn _ _ _ _ c.loop-part.invariant.0 c.in-Some.ensures.steps in
    (now.stream, read_turn _ _ _ _ _ _ _ _ c.loop-part.invariant.1 now.part now.rest _ c.in-Some-scan_part.ensures (λ k. (c.type_inv.s k).fits) (omega (arith, c.if-most-next.false, c.fetch-head.ensures.c)))

pub returns-then-state-eq0 : goal.returns-then-state-eq0
returns-then-state-eq0 c = by_scan _ _ _ _ _ (sym c.fetch-head.ensures.kind ∙ c.if-head-ne1.false) (rw c.fetch-head.ensures.b (read_whole _ _ _ _ _ _ c.loop-part.invariant.1 (omega (arith, c.in-None.ensures.steps)) c.if-state-eq0.true))

pub returns-else-state-eq0 : goal.returns-else-state-eq0
returns-else-state-eq0 c = by_scan _ _ _ _ _ (sym c.fetch-head.ensures.kind ∙ c.if-head-ne1.false) (read_short _ _ _ _ _ _ c.loop-part.invariant.1 (omega (arith, c.in-None.ensures.steps)) c.if-state-eq0.false)
