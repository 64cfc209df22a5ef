-- What is left to hash of each part, from its present value, is the hash of the whole part.
use mathlib.Core.Path.{refl}
use Rattle.stream.proofs.FnvLaws.{fnv_next, fnv_done}
use Rattle.stream.proofs.fnv.fnv1a_four.Goals as goal

pub loop-i-preserved : goal.loop-i-preserved
loop-i-preserved c = (
  fnv_next _ _ refl _ _ _ c.loop-i.invariant.0 _ c.loop-i-test.true c.step-w.ensures,
  fnv_next _ _ c.requires.0 _ _ _ c.loop-i.invariant.1 _ c.loop-i-test.true c.step-x.ensures,
  fnv_next _ _ c.requires.1 _ _ _ c.loop-i.invariant.2 _ c.loop-i-test.true c.step-y.ensures,
  fnv_next _ _ c.requires.2 _ _ _ c.loop-i.invariant.3 _ c.loop-i-test.true c.step-z.ensures,
)

pub returns : goal.returns
returns c =
    let over = c.loop-i-test.false in
    record {
      a = fnv_done _ _ refl _ _ _ c.loop-i.invariant.0 over;
      b = fnv_done _ _ c.requires.0 _ _ _ c.loop-i.invariant.1 over;
      c = fnv_done _ _ c.requires.1 _ _ _ c.loop-i.invariant.2 over;
      d = fnv_done _ _ c.requires.2 _ _ _ c.loop-i.invariant.3 over;
    }
