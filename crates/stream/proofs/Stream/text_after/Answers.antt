use mathlib.Core.Path.{ap}
use lib.ListN.{length}
use native.Mathlib.Omega.{arith}
use Rattle.laws.specs.Reads.{whole_blocks}
use Rattle.stream.proofs.TextLaws.{begins_past, begins_after}
use Rattle.stream.proofs.Stream.text_after.Goals as goal

pub returns-then-i-ge-NEAR : goal.returns-then-i-ge-NEAR
returns-then-i-ge-NEAR c = begins_past _ _ _ (omega (arith, c.if-i-ge-NEAR.true, (whole_blocks _ c.self.invariant.sized).0, ap length c.self.view_is))

pub returns : goal.returns
returns c = begins_after _ _ _ _ c.address.ensures
