use Rattle.std.proofs.Common.{rules, arith}
use Rattle.laws.specs.Reads.{few_records}
use Rattle.rules.specs.Layout.{tail_right}
use Rattle.layout.proofs.common.tail_right.Goals as goal

pub zero_records-requires : goal.zero_records-requires
zero_records-requires c = (omega arith, omega (arith, few_records _ c.whole.ensures.sized, c.record_count-n.ensures))

pub returns-then-n-p-lt-BLOCK_RECORDS : goal.returns-then-n-p-lt-BLOCK_RECORDS
unfolding tail_right
returns-then-n-p-lt-BLOCK_RECORDS c = search rules

pub returns-else-n-p-lt-BLOCK_RECORDS : goal.returns-else-n-p-lt-BLOCK_RECORDS
unfolding tail_right
returns-else-n-p-lt-BLOCK_RECORDS c = search rules
