use borrow.Author.Tests.{le-leb, lt-leb, eq-eqb, ne_eqb}
use Rattle.rules.specs.Faults.{need}
use Rattle.rules.specs.Blocks.{stream_length}
use Rattle.stream.proofs.blocks.length_fault.Goals as goal
use Rattle.stream.proofs.blocks.length_fault.Goals.{then-n-lt1-via-then-n-lt1, then-n-lt1-via-else-n-lt1+then-n-gt65536, then-n-lt1-via-else-n-lt1+else-n-gt65536+then-n-ne0}

pub returns-then-n-lt1 : goal.returns-then-n-lt1
unfolding stream_length need
returns-then-n-lt1 c =
    elim c.then-n-lt1.branch [
      | then-n-lt1-via-then-n-lt1 w ↦ simp (lt-leb _ _ w.if-n-lt1.true)
      | then-n-lt1-via-else-n-lt1+then-n-gt65536 w ↦ simp (le-leb _ _ w.if-n-lt1.false, lt-leb _ _ w.if-n-gt65536.true)
      | then-n-lt1-via-else-n-lt1+else-n-gt65536+then-n-ne0 w ↦ simp (le-leb _ _ w.if-n-lt1.false, le-leb _ _ w.if-n-gt65536.false, ne_eqb _ _ w.if-n-ne0.true)
    ]

pub returns : goal.returns
unfolding stream_length need
returns c = simp (le-leb _ _ c.if-n-lt1.false, le-leb _ _ c.if-n-gt65536.false, eq-eqb _ _ c.if-n-ne0.false)
