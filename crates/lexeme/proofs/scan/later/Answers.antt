use Rattle.lexeme.proofs.PartLaws.{later_none, later_ends, later_goes}
use Rattle.lexeme.proofs.scan.later.Goals as goal

pub returns-then-b-s : goal.returns-then-b-s
returns-then-b-s c = later_none _ _ _ _ c.requires.state c.requires.due c.then-b-s.either

pub returns-then-s-eq1 : goal.returns-then-s-eq1
returns-then-s-eq1 c = later_ends _ _ _ _ c.requires.state c.requires.due _ _ c.if-b-s.false c.if-s-b.false c.if-s-eq1.true (rw c.from.ensures) _ c.in_class.ensures c.judge.ensures

pub returns : goal.returns
returns c = later_goes _ _ _ _ c.requires.state c.requires.due _ _ c.if-b-s.false c.if-s-b.false c.if-s-eq1.false (rw c.from.ensures) c.inside.ensures
