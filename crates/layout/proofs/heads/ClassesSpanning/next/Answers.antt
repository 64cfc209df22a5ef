use Rattle.std.proofs.Common.{arith}
use Rattle.layout.specs.Heads.{with_records}
use Rattle.layout.proofs.heads.ClassesSpanning.next.Goals as goal

pub returns : goal.returns
unfolding with_records
returns c = omega (arith, c.requires.fetched.d)
