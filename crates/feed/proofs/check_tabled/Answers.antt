use Rattle.feed.proofs.SetLaws.{check_judges}
use borrow.Author.Rules.{rules}
use Rattle.feed.proofs.check_tabled.Goals as goal

pub judge-requires : goal.judge-requires
judge-requires g c = check_judges _ _ _ _ c.requires.laid (search rules) c.requires.templates_room
