use Rattle.lexeme.proofs.EscapedLaws.{Unescaping}
use Rattle.lexeme.proofs.admits_escaped.Given as goal

abbrev pub invariant-loop-rest : goal.invariant-loop-rest
invariant-loop-rest l = Unescaping l.g l.p l.s l.initial.rest l.state l.rest

abbrev pub decreases-loop-rest : goal.decreases-loop-rest
decreases-loop-rest l = l.rest.left
