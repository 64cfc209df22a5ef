use Rattle.entities.proofs.FiveLaws.{NoneOf}
use Rattle.entities.proofs.entity.entity_at.Given as goal

abbrev pub invariant-loop-byte : goal.invariant-loop-byte
invariant-loop-byte l = NoneOf l.text l.byte-index
