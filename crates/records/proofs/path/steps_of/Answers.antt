use native.Mathlib.Omega.{arith}
use Rattle.records.proofs.PathLaws.{steps_count}
use Rattle.records.proofs.path.steps_of.Goals as goal

pub returns : goal.returns
returns c = (omega (arith, steps_count c.args.path, c.min.ensures), omega (arith, c.min.ensures))
