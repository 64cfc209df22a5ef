use Rattle.std.proofs.Common.{arith, inl, inr}
use Rattle.layout.proofs.ValueLaws.{yes_right, yes_wrong, case_right, case_wrong, a_text, not_text, a_list, not_list, low_kind, high_kind}
use Rattle.layout.proofs.value.value_head.Goals as goal

pub returns-in-1 : goal.returns-in-1
returns-in-1 c = λ p e f. a_text _ p _ f c.in-1.is c.if-r-eq0.true c.if-r-eq0-2.true _ (c.text_head.ensures p e f)

pub returns-in-2 : goal.returns-in-2
returns-in-2 c = λ p e f. yes_right _ p _ f c.in-2.is c.if-yes_no.ensures

pub returns-in-5 : goal.returns-in-5
returns-in-5 c = λ p e f. case_right _ p _ f c.in-5.is c.if-is_case.ensures

pub returns-in-3 : goal.returns-in-3
returns-in-3 c = λ p e f. rw c.from.ensures (a_list _ p _ f (omega (arith, c.in-3)) (omega (arith, c.in-3)) c.if-r-eq0-3.true c.if-r-eq0-4.true)

pub returns-in_default : goal.returns-in_default
returns-in_default c = λ p e f. not_text _ p _ f c.in-1.is (inr (c.if-r-eq0.true, c.if-r-eq0-2.false))

pub returns-in_default-2 : goal.returns-in_default-2
returns-in_default-2 c = λ p e f. not_text _ p _ f c.in-1.is (inl c.if-r-eq0.false)

pub returns-in_default-3 : goal.returns-in_default-3
returns-in_default-3 c = λ p e f. yes_wrong _ p _ f c.in-2.is c.if-yes_no.ensures

pub returns-in_default-4 : goal.returns-in_default-4
returns-in_default-4 c = λ p e f. case_wrong _ p _ f c.in-5.is c.if-is_case.ensures

pub returns-in_default-5 : goal.returns-in_default-5
returns-in_default-5 c = λ p e f. low_kind _ p _ f (omega (arith, c.in_default))

pub returns-in_default-6 : goal.returns-in_default-6
returns-in_default-6 c = λ p e f. not_list _ p _ f (omega (arith, c.in-3)) (omega (arith, c.in-3)) (inr (c.if-r-eq0-3.true, c.if-r-eq0-4.false))

pub returns-in_default-7 : goal.returns-in_default-7
returns-in_default-7 c = λ p e f. not_list _ p _ f (omega (arith, c.in-3)) (omega (arith, c.in-3)) (inl c.if-r-eq0-3.false)

pub returns-in_default-8 : goal.returns-in_default-8
returns-in_default-8 c = λ p e f. high_kind _ p _ f (omega (arith, c.in_default)) (omega (arith, c.in_default))
