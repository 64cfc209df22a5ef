use Rattle.lexeme.proofs.BitLaws.{mask_made}
use Rattle.lexeme.proofs.sets.mask.Goals as goal

pub returns : goal.returns
returns c = mask_made c.args.low c.args.high c.args.w c.below.ensures c.ones.ensures c.below-2.ensures c.ones-2.ensures
