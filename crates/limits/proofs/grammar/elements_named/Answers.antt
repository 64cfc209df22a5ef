-- What is wrong in the elements from e on is what is wrong in all of them.
use mathlib.Core.Path.{refl, sym, ◌∙◌}
use native.Mathlib.Omega.{arith}
use Rattle.rules.specs.Faults.{every}
use Rattle.rules.specs.Grammar.{element_heads}
use Rattle.laws.specs.Faults.{need_right, need_wrong, every_next, every_stop, every_end}
use Rattle.laws.specs.Rows.{heads_more, heads_done, heads_all}
use Rattle.limits.specs.Rows.{elements_named}
use Rattle.limits.proofs.grammar.elements_named.Goals as goal

pub loop-init : goal.loop-init
unfolding elements_named element_heads
loop-init c = (omega arith, heads_all (every _) _ _ _ c.fetch-head.ensures.d)

pub returns-then-not-is_named : goal.returns-then-not-is_named
returns-then-not-is_named c = every_stop _ c.loop.invariant.1 (heads_more _ _ _ _ c.loop-test.true _ refl) (need_wrong _ (sym c.is_named.ensures ∙ c.if-not-is_named.true))

pub loop-preserved : goal.loop-preserved
loop-preserved c = (omega (arith, c.size_of-e.ensures.small), every_next _ c.loop.invariant.1 (heads_more _ _ _ _ c.loop-test.true _ (c.size_of-e.ensures.is _ _ c.fetch-element.ensures)) (need_right _ (sym c.is_named.ensures ∙ c.if-not-is_named.false)))

pub returns : goal.returns
returns c = every_end _ c.loop.invariant.1 (heads_done _ _ _ _ c.loop-test.false)
