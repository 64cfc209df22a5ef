use mathlib.Core.Path.{refl}
use Rattle.typing.proofs.SuitsLaws.{unsuited, by_form, literal_leaf, place_leaf, expand_leaf}
use Rattle.rules.specs.Typing.{suits_form}
use Rattle.typing.proofs.checker.Checker.own_test.Goals as goal

pub returns-in-Build : goal.returns-in-Build
returns-in-Build c = by_form c.requires.1 c.form_of.ensures c.in-Build.is (c.suits_build.ensures _)

pub returns-in-Literal : goal.returns-in-Literal
returns-in-Literal c = by_form c.requires.1 c.form_of.ensures c.in-Literal.is (literal_leaf c.leaf.ensures (c.suits_literal.ensures _))

pub returns-in-Place : goal.returns-in-Place
returns-in-Place c = by_form c.requires.1 c.form_of.ensures c.in-Place.is (place_leaf c.leaf-in-Place.ensures c.suits_place.ensures)

pub returns-in-Expand : goal.returns-in-Expand
returns-in-Expand c = by_form c.requires.1 c.form_of.ensures c.in-Expand.is (expand_leaf c.leaf-in-Expand.ensures c.suits_expand.ensures)

pub returns-in-If : goal.returns-in-If
returns-in-If c = by_form c.requires.1 c.form_of.ensures c.in-If.is c.suits_if.ensures

pub returns-in-For : goal.returns-in-For
returns-in-For c = by_form c.requires.1 c.form_of.ensures c.in-For.is c.suits_for.ensures

pub returns-in-Sequence : goal.returns-in-Sequence
returns-in-Sequence c = by_form c.requires.1 c.form_of.ensures c.in-Sequence.is (c.suits_sequence.ensures _ _ _ _ c.requires.1)

pub returns-in-Match : goal.returns-in-Match
returns-in-Match c = by_form c.requires.1 c.form_of.ensures c.in-Match.is c.suits_match.ensures

pub returns-in-Unknown : goal.returns-in-Unknown
unfolding suits_form
returns-in-Unknown c = by_form c.requires.1 c.form_of.ensures c.in-Unknown.is (unsuited refl)
