use mathlib.Core.Path.{refl, ap}
use Rattle.walk.proofs.RunLaws.{wrote}
use Rattle.rules.specs.Escape.{escape}
use Rattle.walk.proofs.writer.write_escaped.Goals as goal

pub returns : goal.returns
returns c = wrote _ _ _ c.args.at _ _ (ap escape (rw c.from.ensures at c.text_after-text.ensures.text)) refl c.requires (rw c.bytes.ensures.bytes at c.copy_escaped-long.ensures) _ c.written.ensures
