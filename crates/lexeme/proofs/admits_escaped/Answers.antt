use mathlib.Core.Path.{refl, sym, ◌∙◌}
use borrow.Author.Rules.{rules}
use Rattle.lexeme.proofs.EscapedLaws.{by_unescaped, by_kind_unescaped, unescape_start, unescape_none, unescape_turn, unescape_bad, unescape_past, unescape_short, unescape_whole}
use Rattle.lexeme.proofs.admits_escaped.Goals as goal

pub returns-then-head-ne1 : goal.returns-then-head-ne1
returns-then-head-ne1 c = by_kind_unescaped _ _ _ (rw c.fetch-head.ensures.kind at c.if-head-ne1.true)

pub loop-rest-init : goal.loop-rest-init
loop-rest-init c = unescape_start _ _ _ _ _ _ c.text_len.ensures c.between-state.ensures

pub returns-in_default : goal.returns-in_default
returns-in_default c = by_unescaped _ _ _ _ _ _ c.text_len.ensures (sym c.fetch-head.ensures.kind ∙ c.if-head-ne1.false) (unescape_none _ _ _ _ _ _ c.loop-rest.invariant c.in_default.ensures)

pub returns-in_default-scan_part : goal.returns-in_default-scan_part
returns-in_default-scan_part c = by_unescaped _ _ _ _ _ _ c.text_len.ensures (sym c.fetch-head.ensures.kind ∙ c.if-head-ne1.false) (unescape_bad _ _ _ _ _ _ _ c.loop-rest.invariant c.in-Some.ensures _ _ c.text_skip-rest.ensures refl c.in_default-scan_part.ensures)

pub returns-then-most-next : goal.returns-then-most-next
returns-then-most-next c = by_unescaped _ _ _ _ _ _ c.text_len.ensures (sym c.fetch-head.ensures.kind ∙ c.if-head-ne1.false) (unescape_past _ _ _ _ _ _ _ c.loop-rest.invariant c.in-Some.ensures _ _ c.text_skip-rest.ensures refl _ c.in-Some-scan_part.ensures (rw c.fetch-head.ensures.c at c.if-most-next.true))

pub loop-rest-preserved : goal.loop-rest-preserved
loop-rest-preserved c = unescape_turn _ _ _ _ _ _ _ c.loop-rest.invariant c.in-Some.ensures _ _ c.text_skip-rest.ensures refl _ c.in-Some-scan_part.ensures (search rules) (rw c.fetch-head.ensures.c at c.if-most-next.false)

pub returns-then-state-eq0 : goal.returns-then-state-eq0
returns-then-state-eq0 c = by_unescaped _ _ _ _ _ _ c.text_len.ensures (sym c.fetch-head.ensures.kind ∙ c.if-head-ne1.false) (rw c.fetch-head.ensures.b (unescape_whole _ _ _ _ _ _ c.loop-rest.invariant c.loop-rest-test.false c.if-state-eq0.true))

pub returns-else-state-eq0 : goal.returns-else-state-eq0
returns-else-state-eq0 c = by_unescaped _ _ _ _ _ _ c.text_len.ensures (sym c.fetch-head.ensures.kind ∙ c.if-head-ne1.false) (unescape_short _ _ _ _ _ _ c.loop-rest.invariant c.loop-rest-test.false c.if-state-eq0.false)
