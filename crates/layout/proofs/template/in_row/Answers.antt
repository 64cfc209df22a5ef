use Rattle.std.proofs.Common.{◌∙◌, arith}
use Rattle.layout.proofs.CommonLaws.{reach}
use Rattle.layout.proofs.TemplateHeads.{record_wrong, record_right, records_done, place_next}
use Rattle.layout.proofs.template.in_row.Goals as goal

pub returns-then-not-is_one : goal.returns-then-not-is_one
returns-then-not-is_one g c = λ one h p e. record_wrong _ _ _ p c.loop-test.true _ (h _ _ _ (c.fetch_at.ensures _ (c.loop.invariant p e).0) c.is_one.ensures) c.if-not-is_one.true ∙ (c.loop.invariant p e).1 one h

pub forward-here-requires : goal.forward-here-requires
forward-here-requires g c = reach 1 (c.loop.invariant _ c.requires.counts_on.place_is).0 (omega (arith, c.requires.counts_on.near)) (omega arith)

pub loop-preserved : goal.loop-preserved
loop-preserved g c = λ p e. (place_next _ p _ (c.forward-here.ensures _ (c.loop.invariant p e).0), λ one h. record_right _ _ _ p c.loop-test.true _ (h _ _ _ (c.fetch_at.ensures _ (c.loop.invariant p e).0) c.is_one.ensures) c.if-not-is_one.false ∙ (c.loop.invariant p e).1 one h)

pub returns : goal.returns
returns g c = λ one h p e. records_done _ _ _ p (omega arith) c.loop-test.false ∙ (c.loop.invariant p e).1 one h
