use Rattle.std.proofs.Common.{arith}
use borrow.Author.Tests.{ne_eqb}
use Rattle.layout.proofs.TypeLaws.{type_c, type_other, type_named_lem, type_used_b, type_yes_no, type_record, no_case, many_cases, type_variant}
use Rattle.layout.proofs.template.type_right.Goals as goal

pub returns-then-r-ne0 : goal.returns-then-r-ne0
returns-then-r-ne0 c = λ p e f. type_c _ p _ f c.if-r-ne0.true

pub returns-in-0 : goal.returns-in-0
returns-in-0 c = λ p e f. type_named_lem _ p _ f c.if-r-ne0.false c.in-0.is

pub returns-then-r-eq0 : goal.returns-then-r-eq0
returns-then-r-eq0 c = λ p e f. type_yes_no _ p _ f c.if-r-ne0.false c.if-r-eq0.true c.in-1.is

pub returns-else-r-eq0 : goal.returns-else-r-eq0
returns-else-r-eq0 c = λ p e f. rw (ne_eqb _ _ c.if-r-eq0.false) (type_used_b _ p _ f c.if-r-ne0.false c.in-1.is c.if-r-eq0.false)

pub returns-in-3 : goal.returns-in-3
returns-in-3 c = λ p e f. type_record _ p _ f c.if-r-ne0.false c.in-3.is _ (c.fields_right.ensures p e f)

pub returns-in-4 : goal.returns-in-4
returns-in-4 c = λ p e f. type_variant _ p _ f c.if-r-ne0.false c.in-4.is c.if-r-ge1.true c.if-r-le-CASES.true _ (c.fields_right-in-4.ensures p e f)

pub returns-in_default : goal.returns-in_default
returns-in_default c = λ p e f. many_cases _ p _ f c.if-r-ne0.false c.in-4.is c.if-r-ge1.true c.if-r-le-CASES.false

pub returns-in_default-2 : goal.returns-in_default-2
returns-in_default-2 c = λ p e f. no_case _ p _ f c.if-r-ne0.false c.in-4.is c.if-r-ge1.false

pub returns-in_default-3 : goal.returns-in_default-3
returns-in_default-3 c = λ p e f. type_other _ p _ f (omega (arith, c.in_default)) (omega (arith, c.in_default)) (omega (arith, c.in_default)) (omega (arith, c.in_default))
