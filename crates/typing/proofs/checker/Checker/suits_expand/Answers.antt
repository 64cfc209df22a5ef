use mathlib.Core.Path.{sym, ◌∙◌}
use Rattle.typing.proofs.ExpandLaws.{expand_nothing, expand_missing, expand_other, expand_counts, expand_is}
use Rattle.typing.proofs.checker.Checker.suits_expand.Goals as goal
use Rattle.typing.proofs.checker.Checker.suits_expand.Goals.{then-p-n-via-then-p-n, then-p-n-via-else-p-n+then-r-parameters}

pub returns-in_default : goal.returns-in_default
returns-in_default c = expand_nothing _ _ _ (sym c.in_default.ensures)

pub returns-in_default-head : goal.returns-in_default-head
returns-in_default-head c = expand_missing _ _ _ _ (sym c.in-Some.ensures) _ c.args.self.now.ready.templates_are _ c.requires.1.b (sym c.in_default-head.ensures)

pub returns-then-p-n : goal.returns-then-p-n
returns-then-p-n c = elim c.then-p-n.branch [
  | then-p-n-via-then-p-n w ↦ expand_other _ _ _ _ (sym c.in-Some.ensures) _ c.args.self.now.ready.templates_are _ c.requires.1.b _ (sym c.in-Some-head.ensures) _ (rw c.from-q.ensures at c.fetch-p.ensures.b) w.if-p-n.true
  | then-p-n-via-else-p-n+then-r-parameters w ↦ expand_counts _ _ _ _ (sym c.in-Some.ensures) _ c.args.self.now.ready.templates_are _ c.requires.1.b _ (sym c.in-Some-head.ensures) _ (rw c.from-q.ensures at c.fetch-p.ensures.b) w.if-p-n.false _ _ c.requires.1.d (rw c.from-q.ensures at c.fetch-p.ensures.a) (rw c.from-parameters.ensures at w.if-r-parameters.true)
]

pub returns : goal.returns
returns c = c.arguments_fit.ensures ∙ rw (c.from.ensures, c.from-q.ensures) (expand_is _ _ _ _ (sym c.in-Some.ensures) _ c.args.self.now.ready.templates_are _ c.requires.1.b _ (sym c.in-Some-head.ensures) _ (rw c.from-q.ensures at c.fetch-p.ensures.b) c.if-p-n.false _ _ c.requires.1.d (rw c.from-q.ensures at c.fetch-p.ensures.a) (rw c.from-parameters.ensures at c.if-r-parameters.false))
