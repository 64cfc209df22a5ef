use borrow.Author.Tests.{le-leb, lt-leb, eq-eqb, ne_eqb}
use Rattle.rules.specs.Faults.{need}
use Rattle.rules.specs.Blocks.{payload_length}
use Rattle.stream.proofs.pack.payload_fault.Goals as goal
use Rattle.stream.proofs.pack.payload_fault.Goals.{then-n-lt8-via-then-n-lt8, then-n-lt8-via-else-n-lt8+then-n-gt64512, then-n-lt8-via-else-n-lt8+else-n-gt64512+then-n-ne0}

pub returns-then-n-lt8 : goal.returns-then-n-lt8
unfolding payload_length need
returns-then-n-lt8 c =
    elim c.then-n-lt8.branch [
      | then-n-lt8-via-then-n-lt8 w ↦ simp (lt-leb _ _ w.if-n-lt8.true)
      | then-n-lt8-via-else-n-lt8+then-n-gt64512 w ↦ simp (le-leb _ _ w.if-n-lt8.false, lt-leb _ _ w.if-n-gt64512.true)
      | then-n-lt8-via-else-n-lt8+else-n-gt64512+then-n-ne0 w ↦ simp (le-leb _ _ w.if-n-lt8.false, le-leb _ _ w.if-n-gt64512.false, ne_eqb _ _ w.if-n-ne0.true)
    ]

pub returns : goal.returns
unfolding payload_length need
returns c = simp (le-leb _ _ c.if-n-lt8.false, le-leb _ _ c.if-n-gt64512.false, eq-eqb _ _ c.if-n-ne0.false)
