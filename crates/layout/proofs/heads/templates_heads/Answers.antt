use Rattle.layout.proofs.HeadsRowLaws.{templates_rows}
use Rattle.layout.proofs.heads.templates_heads.Goals as goal

pub two_rows-requires : goal.two_rows-requires
two_rows-requires c = record { most = _; room = _; first = _; second = _; rows = templates_rows c.requires.laid_templates; fits = c.requires.t_in_bounds }

pub returns : goal.returns
returns c = c.two_rows.ensures _ _ _ _ (templates_rows c.requires.laid_templates) c.requires.t_in_bounds
