use mathlib.Core.Path.{◌∙◌}
use borrow.Author.Tests.{ne_eqb}
use Rattle.typing.proofs.ValueLaws.{text_read, text_other, yes_no_is, items_is, fields_is, fields_other, cases_is, cases_other, missing_is}
use Rattle.typing.proofs.checker.ValueChecker.has_form.Goals as goal

pub returns-then-r-eq1 : goal.returns-then-r-eq1
returns-then-r-eq1 c = rw c.in-Text.is (rw c.bytes.ensures.bytes at c.admits.ensures ∙ text_read _ _ _ _ c.requires _ _ (rw c.from.ensures at c.text_after-text.ensures) c.if-r-eq1.true)

pub returns-else-r-eq1 : goal.returns-else-r-eq1
returns-else-r-eq1 c = rw c.in-Text.is (ne_eqb _ _ c.if-r-eq1.false ∙ text_other _ _ _ _ c.requires _ c.if-r-eq1.false)

pub returns-in-YesNo : goal.returns-in-YesNo
returns-in-YesNo c = rw c.in-YesNo.is (yes_no_is _ _ _ _ c.requires)

pub returns-in-Items : goal.returns-in-Items
returns-in-Items c = rw c.in-Items.is (items_is _ _ _ _ c.requires _)

pub returns-then-r-eq4 : goal.returns-then-r-eq4
returns-then-r-eq4 c = rw c.in-Fields.is (fields_is _ _ _ _ c.requires _ _ _ c.if-r-eq4.true)

pub returns-else-r-eq4 : goal.returns-else-r-eq4
returns-else-r-eq4 c = rw c.in-Fields.is (ne_eqb _ _ c.if-r-eq4.false ∙ fields_other _ _ _ _ c.requires _ _ _ c.if-r-eq4.false)

pub returns-then-r-eq5 : goal.returns-then-r-eq5
returns-then-r-eq5 c = rw (c.in-Cases.is, c.from-then-r-eq5.ensures) (cases_is _ _ _ _ c.requires _ _ _ c.if-r-eq5.true)

pub returns-else-r-eq5 : goal.returns-else-r-eq5
returns-else-r-eq5 c = rw c.in-Cases.is (ne_eqb _ _ c.if-r-eq5.false ∙ cases_other _ _ _ _ c.requires _ _ _ c.if-r-eq5.false)

pub returns-in-Missing : goal.returns-in-Missing
returns-in-Missing c = rw c.in-Missing.is (missing_is _ _ _)
