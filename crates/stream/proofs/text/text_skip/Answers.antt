use mathlib.Core.Path.{◌≡◌}
use native.Mathlib.Omega.{arith}
use Rattle.stream.proofs.SkipLaws.{skips_none, skips_on}
use Rattle.stream.proofs.text.text_skip.Goals as goal

pub loop-init : goal.loop-init
loop-init c = skips_none _

pub text_next-rest-requires : goal.text_next-rest-requires
text_next-rest-requires c =
    let own = c.loop.invariant in
    (omega (arith, own.left, c.requires.0), omega (arith, own.near, c.requires.1))

pub loop-preserved : goal.loop-preserved
loop-preserved c = skips_on _ _ _ _ c.loop.invariant c.text_next-rest.ensures

pub returns : goal.returns
returns c =
    let all : c.loop.counter ≡ c.args.n = omega arith in
    rw all at c.loop.invariant
