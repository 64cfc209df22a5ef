-- The rows of the productions passed are in, and a later row begins after they end. Assumes nothing.
use Rattle.typing.proofs.FillLaws.{production_kind, rows_start, rows_next, rows_done}
use Rattle.typing.proofs.asked.fill.Goals as goal

pub loop-h-init : goal.loop-h-init
loop-h-init c = (c.requires.2, rows_start _ _ _ c.requires.1)

pub put_row-requires : goal.put_row-requires
put_row-requires c = (c.requires.0, production_kind _ _ _ c.requires.1 c.loop-h-test.true, c.loop-h.invariant.0)

pub loop-h-preserved : goal.loop-h-preserved
loop-h-preserved c = (c.put_row.ensures.full, rows_next _ _ _ _ _ c.requires.1 c.loop-h-test.true c.loop-h.invariant.1 c.put_row.ensures)

pub returns : goal.returns
returns c = rows_done _ _ _ c.requires.1 _ c.loop-h-test.false c.loop-h.invariant.1
