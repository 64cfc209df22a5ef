-- All found in one of the first rounds, or by the lists, or what is left derives no text.
use mathlib.Core.Path.{sym, ◌∙◌}
use Rattle.finite.proofs.FoundLaws.{sound_start, all_found, first_is_ok}
use Rattle.finite.proofs.grammar_finite.Goals as goal

pub loop-back-init : goal.loop-back-init
loop-back-init c = sound_start _

pub returns-then-is_ok : goal.returns-then-is_ok
returns-then-is_ok c = first_is_ok _ _ _ c.round.ensures.sound c.first_unfound.ensures (sym c.is_ok.ensures.value ∙ c.if-is_ok.true)

pub returns : goal.returns
returns c = c.first_unfound-2.ensures ∙ all_found _ _ c.rounds.ensures
