use Rattle.lexeme.proofs.XmlLaws.{keep_set}
use Rattle.lexeme.proofs.sets.keep_xml.Goals as goal

pub returns : goal.returns
returns c = keep_set _ _ _ c.keep_xml_at.ensures c.keep_xml_at-2.ensures
