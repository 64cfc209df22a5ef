use Rattle.std.proofs.Common.{arith}
use Rattle.layout.proofs.HeadsRowLaws.{first_ahead, in_table, second_ahead, tables}
use Rattle.layout.proofs.heads.two_rows.Goals as goal

pub row-one-requires : goal.row-one-requires
row-one-requires g c = first_ahead c.requires.rows c.requires.fits

pub offset_bounds-heads-first : goal.offset_bounds-heads-first
offset_bounds-heads-first g c = omega (arith, in_table c.requires.rows c.row-one.ensures c.row-one.auto.table c.requires.fits, c.row-one.auto.table, c.well_formed)

pub slice_bounds-row-count : goal.slice_bounds-row-count
slice_bounds-row-count g c = in_table c.requires.rows c.row-one.ensures c.row-one.auto.table c.requires.fits

pub slice_bounds-row-start : goal.slice_bounds-row-start
slice_bounds-row-start g c = in_table c.requires.rows c.row-one.ensures c.row-one.auto.table c.requires.fits

pub row-two-requires : goal.row-two-requires
row-two-requires g c = second_ahead c.requires.rows c.row-one.ensures c.row-one.auto.table c.requires.fits

pub returns : goal.returns
returns g c = λ most room xs ys h l. tables h c.row-one.ensures c.row-one.auto.table l c.row-two.ensures
