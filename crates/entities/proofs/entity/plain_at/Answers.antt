use Rattle.std.proofs.Common.{rules}
use Rattle.entities.proofs.PlainLaws.{own_or_none, past_end}
use Rattle.entities.proofs.entity.plain_at.Goals as goal

pub returns-in_err-byte : goal.returns-in_err-byte
returns-in_err-byte c = past_end c.args.text.now c.args.at (search rules) c.from_residual.ensures

pub returns-in_default : goal.returns-in_default
returns-in_default c = own_or_none c.args.text.now c.args.at (search rules) (search rules) (search rules) _ c.is_own.ensures c.then_some.ensures
