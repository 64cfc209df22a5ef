use Rattle.std.proofs.Common.{refl}
use Rattle.layout.proofs.TemplateHeads.{no_node, a_build, a_literal, not_literal, a_place, an_expand, an_if, a_for, a_sequence, not_sequence, a_match, unknown}
use Rattle.layout.proofs.template.node_head.Goals as goal

pub returns-then-r-ne5 : goal.returns-then-r-ne5
returns-then-r-ne5 c = λ p e f. no_node _ p _ f c.if-r-ne5.true

pub returns-in-Build : goal.returns-in-Build
returns-in-Build c = λ p e f. rw c.from-below.ensures (a_build _ p _ f c.if-r-ne5.false c.form_of.ensures c.in-Build.is)

pub returns-in-Literal : goal.returns-in-Literal
returns-in-Literal c = λ p e f. a_literal _ p _ f c.if-r-ne5.false c.form_of.ensures c.in-Literal.is c.if-r-eq0.true _ (c.text_head.ensures p e f)

pub returns-in-Place : goal.returns-in-Place
returns-in-Place c = λ p e f. a_place _ p _ f c.if-r-ne5.false c.form_of.ensures c.in-Place.is _ (c.bare_path_head.ensures p e f)

pub returns-in-Expand : goal.returns-in-Expand
returns-in-Expand c = λ p e f. an_expand _ p _ f c.if-r-ne5.false c.form_of.ensures c.in-Expand.is _ (c.expand_head.ensures p e f)

pub returns-in-If : goal.returns-in-If
returns-in-If c = λ p e f. an_if _ p _ f c.if-r-ne5.false c.form_of.ensures c.in-If.is _ (c.bare_path_head-in-If.ensures p e f)

pub returns-in-For : goal.returns-in-For
returns-in-For c = λ p e f. a_for _ p _ f c.if-r-ne5.false c.form_of.ensures c.in-For.is _ (c.bare_path_head-in-For.ensures p e f)

pub returns-in-Sequence : goal.returns-in-Sequence
returns-in-Sequence c = λ p e f. rw c.from-below.ensures (a_sequence _ p _ f c.if-r-ne5.false c.form_of.ensures c.in-Sequence.is c.if-r-eq0-2.true)

pub returns-in-Match : goal.returns-in-Match
returns-in-Match c = λ p e f. a_match _ p _ f c.if-r-ne5.false c.form_of.ensures c.in-Match.is _ (rw c.from-below.ensures at c.path_head.ensures p e f)

pub returns-in-Literal-2 : goal.returns-in-Literal-2
returns-in-Literal-2 c = λ p e f. not_literal _ p _ f c.if-r-ne5.false c.form_of.ensures c.in-Literal.is c.if-r-eq0.false

pub returns-in-Literal-2-2 : goal.returns-in-Literal-2-2
returns-in-Literal-2-2 c = λ p e f. not_sequence _ p _ f c.if-r-ne5.false c.form_of.ensures c.in-Sequence.is c.if-r-eq0-2.false

pub returns-in-Literal-2-3 : goal.returns-in-Literal-2-3
returns-in-Literal-2-3 c = λ p e f. unknown _ p _ f c.if-r-ne5.false c.in-Literal-2.ensures refl
