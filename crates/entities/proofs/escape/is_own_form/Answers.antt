use mathlib.Core.Path.{sym, ◌∙◌}
use native.Mathlib.Omega.{arith}
use Rattle.stream.proofs.PartsLaws.{turn}
use Rattle.entities.proofs.EscapeLaws.{all_own, plain_part, plain_rest, plain_end_lem}
use Rattle.entities.proofs.escape.is_own_form.Goals as goal

pub loop-part-init : goal.loop-part-init
loop-part-init c = let all = c.parts_of-part-items.ensures in rw c.into_iter-part-iterator.ensures.into_iter_gives (all.0, rw all.1 (λ e. e))

pub loop-part-preserved : goal.loop-part-preserved
loop-part-preserved c =
    let now = turn _ _ _ _ c.loop-part.invariant.0 c.in-Some.ensures.steps in
    (now.stream, λ e. c.loop-part.invariant.1 (plain_rest _ _ _ now.rest (plain_part _ _ now.part (all_own _ (sym c.is_own_form_part.ensures ∙ c.if-not-is_own_form_part.false))) e))

pub returns : goal.returns
returns c = λ e. c.loop-part.invariant.1 (plain_end_lem _ _ (omega (arith, c.in-None.ensures.steps)))
