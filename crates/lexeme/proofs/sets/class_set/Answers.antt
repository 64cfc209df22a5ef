use mathlib.Core.Path.{◌∙◌, ap}
use lib.ListN.{replicate}
use borrow.Author.Rules.{rules}
use Rattle.lexeme.proofs.ClassLaws.{fill_start, fill_turn, fill_end}
use Rattle.lexeme.proofs.sets.class_set.Goals as goal

pub loop-k-init : goal.loop-k-init
loop-k-init c = rw c.from-first.ensures (fill_start _ _ _ _ c.requires.1 c.range_count-k-end.ensures.0 (c.fill.ensures.len ∙ c.requires.0) (c.fill.ensures.after (λ y e. search rules) ∙ ap (λ n. replicate n 0) c.requires.0))

pub loop-k-preserved : goal.loop-k-preserved
loop-k-preserved c = fill_turn _ _ _ _ _ _ _ _ c.loop-k.invariant c.loop-k-test.true c.range_at-r.ensures c.add_range.auto.set c.add_range.ensures

pub returns : goal.returns
returns c = fill_end _ _ _ _ _ _ _ c.loop-k.invariant c.loop-k-test.false c.keep_xml.auto.set c.keep_xml.ensures
