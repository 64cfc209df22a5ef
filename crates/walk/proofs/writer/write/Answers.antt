use mathlib.Core.Path.{refl}
use Rattle.walk.proofs.RunLaws.{wrote}
use Rattle.walk.proofs.writer.write.Goals as goal

pub returns : goal.returns
returns c = wrote _ _ _ c.args.at _ _ (rw c.from.ensures at c.text_after-text.ensures.text) refl c.requires (rw c.bytes.ensures.bytes at c.copy_text-long.ensures) _ c.written.ensures
