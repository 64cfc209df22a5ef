use Rattle.walk.proofs.RunLaws.{ran_is}
use Rattle.walk.proofs.SeparatorLaws.{separate_written, from_there}
use Rattle.walk.proofs.separator.separate.Goals as goal

pub write-requires : goal.write-requires
write-requires c = rw c.placed.ensures c.requires

pub returns : goal.returns
returns c = λ n h. ran_is (separate_written c.args.g.now c.args.sep c.args.at c.args.out.now n h) (from_there c.args.at _ _ c.placed.ensures c.write.ensures)
