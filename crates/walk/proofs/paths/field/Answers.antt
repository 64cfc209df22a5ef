use mathlib.Core.Logic.{inl, inr}
use Rattle.walk.proofs.PathLaws.{finds_nothing, field_other, field_past, field_there, field_found}
use Rattle.walk.proofs.paths.field.Goals as goal

pub child_at-requires : goal.child_at-requires
child_at-requires c =
    let f = rw c.from.ensures at c.fetch-head.ensures in
    field_there _ _ _ _ _ f.kind f.d c.if-head-eq4.true c.if-j-head.true _ _ c.requires.0.children c.requires.1

pub returns-then-j-head : goal.returns-then-j-head
returns-then-j-head c =
    let f = rw c.from.ensures at c.fetch-head.ensures in
    field_found _ _ _ _ _ f.kind f.d c.if-head-eq4.true c.if-j-head.true _ _ c.requires.0.children c.requires.1 _ c.child_at.ensures

pub returns-else-head-eq4 : goal.returns-else-head-eq4
returns-else-head-eq4 c =
    let f = rw c.from.ensures at c.fetch-head.ensures in
    finds_nothing (elim c.else-head-eq4.either [
      | inl z ↦ field_past _ _ _ _ _ f.kind f.d z.0 z.1
      | inr z ↦ field_other _ _ _ _ _ f.kind f.d z
    ])
