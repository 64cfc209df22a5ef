-- Refusals 4 and 5 as statements, and that the checks find no fault exactly where they hold.
-- Goes on from specs/LimitsExactly.antt: what rests on definitions that a must-fail edit changes.
use Rattle.std.specs.Prelude.{◌≡◌, ◌↔◌, ℕ, List}
use Rattle.std.proofs.Common.{arith}
use Rattle.std.proofs.Math.Option.{none}
use Rattle.rules.specs.Templates.{templates, body}
use Rattle.rules.specs.Limits.{deepest, looped, few_loops, template_limits, templates_limits}
use Rattle.theorems.proofs.Around.{around_exactly}
use Rattle.laws.specs.Faults.{need_none, need_iff, both_none, both_iff, In, every_in, in_every, leb_iff, at_none, tree_in, in_tree}
use Rattle.theorems.specs.LimitsExactly.{TemplateWithin, looped_below_lem, below_looped}

template_limits_lem : (t : List ℕ) (p : ℕ) → (template_limits t p ≡ none) ↔ TemplateWithin t p
unfolding template_limits few_loops deepest looped
template_limits_lem t p = (
  λ e. let a = both_none _ _ e in let r = (at_none _ _).0 a.1 in
      record {
        parameters_few = (leb_iff _ _).0 (need_none _ p a.0);
        at_most_200_deep = λ d q b. let l = (tree_in _ _ 200 r (looped_below_lem t 0 b).1).0 in omega arith;
        at_most_16_loops = λ n q k. (leb_iff _ _).0 (tree_in _ _ 200 r ((around_exactly t (body t p) (looped n q)).1 k).1).1;
      },
  λ w. (both_iff _ _).1 (
    (need_iff _ p).1 ((leb_iff _ _).1 w.parameters_few),
    (at_none _ _).1 (in_tree _ _ 200 _ (λ d x b. (
      let l = w.at_most_200_deep d x.node (below_looped t b) in omega arith,
      (leb_iff _ _).1 (w.at_most_16_loops x.loops x.node ((around_exactly t (body t p) x).0 (d, b))),
    ))),
  ),
)

pub limits_exactly : (t : List ℕ) → (templates_limits t ≡ none) ↔ ((p : ℕ) → In p (templates t) → TemplateWithin t p)
unfolding templates_limits
limits_exactly t = (λ e p i. (template_limits_lem t p).0 (every_in _ e i), λ h. in_every _ _ λ p i. (template_limits_lem t p).1 (h p i))
