use Rattle.std.proofs.Common.{◌∙◌, arith, rules, eq-eqb}
use Rattle.layout.proofs.CommonLaws.{zero_number, bytes_small, zeros_past}
use Rattle.layout.proofs.common.zero_from.Goals as goal

pub returns-then-j-eq8 : goal.returns-then-j-eq8
returns-then-j-eq8 c = eq-eqb _ _ c.if-j-eq8.true ∙ zeros_past _ _ (omega arith)

pub returns-else-j-eq8 : goal.returns-else-j-eq8
returns-else-j-eq8 c = rw c.number_of.ensures (zero_number _ (bytes_small _ (search rules) (search rules) (search rules) (search rules) (search rules)) _)
