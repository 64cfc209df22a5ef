use mathlib.Core.Path.{◌∙◌}
use native.Mathlib.Omega.{arith}
use Rattle.typing.proofs.TemplateLaws.{body_of}
use Rattle.typing.proofs.templates.body_frame.Goals as goal

pub returns : goal.returns
returns c = let f = rw c.from-at.ensures at c.fetch-r.ensures in rw c.from-at.ensures (body_of _ _ _ _ c.ranges.q.fits (c.from-count.ensures ∙ f.a) f.b (omega (arith, c.requires, c.from-count.ensures, f.a)))
