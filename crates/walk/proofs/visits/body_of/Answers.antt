use native.Mathlib.Omega.{arith}
use Rattle.rules.specs.Templates.{body}
use Rattle.walk.proofs.visits.body_of.Goals as goal

pub returns : goal.returns
unfolding body
returns c =
    let f = rw c.from-p.ensures at c.fetch.ensures in
    (rw (c.from-p.ensures, c.from.ensures, f.a), omega arith)
