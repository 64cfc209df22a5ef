use mathlib.Core.Path.{sym, ◌∙◌}
use mathlib.Core.Bool.{false}
use Rattle.laws.specs.Faults.{on_none}
use Rattle.rules.specs.Faults.{on_found}
use Rattle.rules.specs.Typing.{text_class}
use Rattle.typing.proofs.KindLaws.{no_text}
use Rattle.typing.proofs.SuitsLaws.{place_nothing, place_is}
use Rattle.typing.proofs.checker.Checker.suits_place.Goals as goal

pub returns-in_default : goal.returns-in_default
returns-in_default c = place_nothing _ _ _ (sym c.in_default.ensures)

pub returns-in-Text : goal.returns-in-Text
unfolding text_class on_found
returns-in-Text c = rw (c.plain.ensures, c.source_of.ensures.plain) (place_is _ _ _ _ c.in-Text.ensures _ (sym c.in-Some.ensures))

pub returns-in_default-path_kind : goal.returns-in_default-path_kind
returns-in_default-path_kind c = sym (on_none false _ (no_text _ _ c.in_default-path_kind.not-Text)) ∙ place_is _ _ _ _ c.path_kind.ensures _ (sym c.in-Some.ensures)
