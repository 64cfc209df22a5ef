-- The production as it is: its nonterminal found before, an element that waits, or none.
use mathlib.Core.Path.{sym, ◌∙◌}
use native.Mathlib.Omega.{arith}
use Rattle.finite.proofs.DerivableLaws.{none_left, some_left}
use Rattle.finite.proofs.FoundLaws.{tried_waiting, tried_found}
use Rattle.finite.proofs.productions.try_production.Goals as goal

pub returns-then-rest-gt0 : goal.returns-then-rest-gt0
returns-then-rest-gt0 c = tried_waiting _ _ _ c.fetch-head.ensures _ c.requires.sound (sym c.waiting-rest.ensures ∙ some_left 0 _ (omega arith))

pub returns : goal.returns
returns c = tried_found _ _ _ c.fetch-head.ensures _ c.requires.sound c.requires.a_production (omega arith) (sym c.waiting-rest.ensures ∙ none_left _ (omega arith)) c.mark.ensures
