-- `any` asks of one interval after the other.
use mathlib.Core.Path.{◌∙◌}
use borrow.Author.Rules.{rules}
use Rattle.std.proofs.Common.{tests}
use Rattle.std.proofs.lemmas.Iterator.{YieldsList-from_slice}
use Rattle.std.proofs.lemmas.Iterator.Search.{any_from_yields_List}
use Rattle.rules.specs.Finite.{overlap, xml_intervals}
use Rattle.finite.proofs.LexemeLaws.{some_overlap}
use Rattle.finite.proofs.lexemes.holds_xml.Goals as goal

pub returns : goal.returns
unfolding xml_intervals
returns c = any_from_yields_List (overlap c.args.lowest c.args.highest) _ _ _ c.any.ensures.ran (YieldsList-from_slice xml_intervals cc) (λ x b q k. search (rules, tests)) ∙ some_overlap c.args.lowest c.args.highest xml_intervals
