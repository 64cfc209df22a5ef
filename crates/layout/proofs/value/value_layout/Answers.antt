use Rattle.std.proofs.Common.{rules, sym, ◌∙◌}
use mathlib.Core.Bool.{false≢true}
use borrow.Author.Tests.{lt-leb}
use Rattle.layout.proofs.ValueLaws.{value_past, value_wrong, value_right}
use Rattle.layout.proofs.value.value_layout.Goals as goal
use Rattle.layout.proofs.value.value_layout.Goals.{then-e-record_count, else-e-record_count}

pub returns-then-one_value : goal.returns-then-one_value
returns-then-one_value c =
    elim c.if-e-record_count.branch [
      | then-e-record_count w ↦
          let z = sym w.value-is ∙ c.if-one_value.true in
          (value_right _ _ (c.size_of-e.ensures.is _ 0 c.fetch.ensures) (sym z ∙ w.one_value.ensures.is) _ c.tail_right.ensures, λ t. rw (w.firsts-is, w.places-is) (w.one_value.ensures.children z))
      | else-e-record_count w ↦ absurd (false≢true (sym (lt-leb _ _ w.if-e-record_count.false) ∙ sym w.value-is ∙ c.if-one_value.true))
    ]

pub returns-else-one_value : goal.returns-else-one_value
returns-else-one_value c =
    rw c.if-one_value.false
    (elim c.if-e-record_count.branch [
      | then-e-record_count w ↦ (value_wrong _ _ (c.size_of-e.ensures.is _ 0 c.fetch.ensures) (sym (sym w.value-is ∙ c.if-one_value.false) ∙ w.one_value.ensures.is), λ z. absurd (false≢true z))
      | else-e-record_count w ↦ (value_past _ _ (c.size_of-e.ensures.is _ 0 c.fetch.ensures) (search rules), λ z. absurd (false≢true z))
    ])
