use mathlib.Core.Path.{sym, ◌∙◌}
use native.Mathlib.Omega.{arith}
use Rattle.typing.proofs.AskedLaws.{asked_row}
use Rattle.typing.proofs.SuitsLaws.{unsuited, suited, build_nothing, build_missing, build_other, build_counts, build_is}
use Rattle.typing.proofs.checker.Checker.suits_build.Goals as goal
use Rattle.typing.proofs.checker.Checker.suits_build.Goals.{then-fetch-n-via-then-fetch-n, then-fetch-n-via-else-fetch-n+then-self-at}

pub returns-in_err-n : goal.returns-in_err-n
returns-in_err-n c = λ vars. rw c.from_residual.ensures (unsuited (build_nothing _ _ _ (sym c.in_err-n.ensures)))

pub returns-in_err-q : goal.returns-in_err-q
returns-in_err-q c = λ vars. rw c.from_residual-in_err-q.ensures (unsuited (build_missing _ _ _ _ (sym c.in_ok-n.ensures) c.args.self.now.ready.builds _ c.requires.1.b (sym c.in_err-q.ensures)))

pub bounds-self-at : goal.bounds-self-at
bounds-self-at c = omega (arith, c.from-at.ensures, (asked_row c.args.self.now.ready.builds _ _ (sym c.in_ok-q.ensures)).inside)

pub returns-then-fetch-n : goal.returns-then-fetch-n
returns-then-fetch-n c = λ vars. elim c.then-fetch-n.branch [
  | then-fetch-n-via-then-fetch-n w ↦ unsuited (build_other _ _ _ _ (sym c.in_ok-n.ensures) c.args.self.now.ready.builds _ c.requires.1.b _ (sym c.in_ok-q.ensures) _ (rw c.from-at.ensures at c.fetch.ensures.b) w.if-fetch-n.true)
  | then-fetch-n-via-else-fetch-n+then-self-at w ↦ unsuited (build_counts _ _ _ _ (sym c.in_ok-n.ensures) c.args.self.now.ready.builds _ c.requires.1.b _ (sym c.in_ok-q.ensures) _ (rw c.from-at.ensures at c.fetch.ensures.b) w.if-fetch-n.false _ c.requires.1.d (rw c.from-at.ensures at w.if-self-at.true))
]

pub returns : goal.returns
returns c = λ vars. suited (build_is _ _ _ _ (sym c.in_ok-n.ensures) c.args.self.now.ready.builds _ c.requires.1.b _ (sym c.in_ok-q.ensures) _ (rw c.from-at.ensures at c.fetch.ensures.b) c.if-fetch-n.false _ (c.from.ensures ∙ c.requires.1.d) (rw c.from-at.ensures at c.if-self-at.false ∙ sym c.from.ensures) (omega (arith, c.from.ensures)))
