-- Each check is made of its own block's bytes, from its own block's start.
use mathlib.Core.Path.{ap₂, sym, ◌∙◌}
use Rattle.rules.specs.Blocks.{fnv1a}
use Rattle.stream.proofs.blocks.checks_from.Goals as goal

pub fnv1a_four-requires : goal.fnv1a_four-requires
fnv1a_four-requires c =
    let long = sym c.covered.ensures.1 in
    (c.covered-2.ensures.1 ∙ long, c.covered-3.ensures.1 ∙ long, c.covered-4.ensures.1 ∙ long)

pub returns : goal.returns
returns c =
    let starts = c.starts_from.ensures in
    record {
      a = c.fnv1a_four.ensures.a ∙ ap₂ fnv1a starts.a c.covered.ensures.0;
      b = c.fnv1a_four.ensures.b ∙ ap₂ fnv1a starts.b c.covered-2.ensures.0;
      c = c.fnv1a_four.ensures.c ∙ ap₂ fnv1a starts.c c.covered-3.ensures.0;
      d = c.fnv1a_four.ensures.d ∙ ap₂ fnv1a starts.d c.covered-4.ensures.0;
    }
