use mathlib.Core.Path.{sym}
use borrow.Author.Tests.{ltb-false}
use Rattle.lexeme.proofs.LexemeLaws.{set_room, set_there}
use Rattle.lexeme.proofs.SourceLaws.{admits_none, admits_escaped, admits_plain}
use Rattle.lexeme.proofs.admits.Goals as goal

pub returns-in_default : goal.returns-in_default
returns-in_default c = admits_none _ _ _ _ c.requires _ _ c.plain-n.ensures (ltb-false _ _ (sym c.in_default.ensures.lookup.0))

pub slice_bounds-set-end : goal.slice_bounds-set-end
slice_bounds-set-end c = set_room _ _ _ _ c.requires c.in-Some.ensures.lookup.3.0

pub admits_text-requires : goal.admits_text-requires
admits_text-requires c = set_there _ _ _ _ _ c.requires c.in-Some.ensures.lookup.3.0 (c.in-Some.ensures.lookup.3.1 0)

pub admits_escaped-requires : goal.admits_escaped-requires
admits_escaped-requires c = set_there _ _ _ _ _ c.requires c.in-Some.ensures.lookup.3.0 (c.in-Some.ensures.lookup.3.1 0)

pub returns-in-Plain : goal.returns-in-Plain
returns-in-Plain c = admits_plain _ _ _ _ c.requires _ _ c.plain-n.ensures c.in-Some.ensures.lookup.3.0 _ (c.in-Some.ensures.lookup.3.1 0) _ _ c.in-Plain.is c.admits_text.ensures

pub returns-in-Escaped : goal.returns-in-Escaped
returns-in-Escaped c = admits_escaped _ _ _ _ c.requires _ _ c.plain-n.ensures c.in-Some.ensures.lookup.3.0 _ (c.in-Some.ensures.lookup.3.1 0) _ _ c.in-Escaped.is c.admits_escaped.ensures
