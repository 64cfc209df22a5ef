use Rattle.std.proofs.Common.{arith}
use borrow.Author.Tests.{ne_eqb}
use Rattle.layout.proofs.CommonLaws.{reach}
use Rattle.std.proofs.Common.{rules, of_calls}
use Rattle.layout.proofs.TemplateHeads.{a_naming}
use Rattle.layout.proofs.TypeLaws.{fields_used_b, fields_row}
use Rattle.layout.proofs.template.fields_right.Goals as goal

pub forward-requires : goal.forward-requires
forward-requires c = reach 1 c.requires.counts_on.place_is (omega (arith, c.requires.counts_on.near)) (omega arith)

pub returns-then-r-eq0 : goal.returns-then-r-eq0
returns-then-r-eq0 c = λ p e f. fields_row _ p _ f c.requires.c_value c.if-r-eq0.true _ (c.in_row.ensures _ (λ q r b f h. a_naming _ q r f 2 b (search (rules, of_calls))) _ (c.forward.ensures p e))

pub returns-else-r-eq0 : goal.returns-else-r-eq0
returns-else-r-eq0 c = λ p e f. rw (ne_eqb _ _ c.if-r-eq0.false) (fields_used_b _ p _ f c.requires.c_value c.if-r-eq0.false)
