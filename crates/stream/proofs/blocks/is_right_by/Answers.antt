-- The part that is judged is block n.
use mathlib.Core.Path.{◌∙◌}
use borrow.Author.Tests.{eq-eqb, ne_eqb}
use Rattle.rules.specs.Blocks.{block_right}
use Rattle.stream.proofs.BlockLaws.{sound_by_lem}
use Rattle.stream.proofs.blocks.is_right_by.Goals as goal

pub returns-then-word_at-n : goal.returns-then-word_at-n
unfolding block_right
returns-then-word_at-n c =
    let e = c.block_at-b.ensures.0 in
    rw (← e, ← c.word_at.ensures.0, eq-eqb _ _ c.if-word_at-n.true) (c.is_sound_by.ensures ∙ sound_by_lem _ _ _ _ (rw e c.requires.1))

pub returns-else-word_at-n : goal.returns-else-word_at-n
unfolding block_right
returns-else-word_at-n c = rw (← c.block_at-b.ensures.0, ← c.word_at.ensures.0, ne_eqb _ _ c.if-word_at-n.false)
