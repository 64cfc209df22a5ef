use mathlib.Core.Path.{sym, ap, ◌∙◌}
use Rattle.walk.specs.Run.{stopped_of}
use borrow.Author.Tests.{lt-ltb, le-ltb}
use Rattle.walk.specs.Nodes.{written_at}
use Rattle.walk.proofs.writer.written.Goals as goal

pub returns-then-left-long : goal.returns-then-left-long
unfolding written_at
returns-then-left-long c = ap stopped_of c.stopped.ensures ∙ sym (rw (lt-ltb _ _ c.if-left-long.true))

pub returns : goal.returns
unfolding written_at
returns c = sym (rw (le-ltb _ _ c.if-left-long.false))
