use mathlib.Core.Path.{refl, sym, ◌∙◌}
use native.Mathlib.Omega.{arith}
use Rattle.rules.specs.Records.{units}
use Rattle.layout.proofs.TreeTurns.{wrong, right, text_size, text_unpadded, text_right}
use Rattle.layout.proofs.tree.text_head.Goals as goal

pub overflow_add-units : goal.overflow_add-units
unfolding units
overflow_add-units c = omega (arith, c.units.ensures)

pub returns-then-size-units : goal.returns-then-size-units
returns-then-size-units c = λ p e f. wrong p _ 0 (text_size _ p _ _ _ f.b (c.requires.size_of.is _ _ f) c.units.ensures c.if-size-units.true)

pub padded-requires : goal.padded-requires
unfolding units
padded-requires c = λ n e.
    (record { index = c.requires.within.index; place_is = c.requires.within.place_is; near = c.requires.within.near; inside = omega (arith, c.requires.within.inside, c.if-size-units.false, c.units.ensures) }, omega arith)

pub returns-then-padded : goal.returns-then-padded
returns-then-padded c = λ p e f. right p _ _ 0 0 (text_right _ p _ _ _ f.b (c.requires.size_of.is _ _ f) c.units.ensures c.if-size-units.false (sym c.if-padded.true ∙ c.padded.ensures _ p (λ n r z h. h p e))) refl

pub returns-else-padded : goal.returns-else-padded
returns-else-padded c = λ p e f. wrong p _ 0 (text_unpadded _ p _ _ _ f.b (c.requires.size_of.is _ _ f) c.units.ensures (sym c.if-padded.false ∙ c.padded.ensures _ p (λ n r z h. h p e)))
