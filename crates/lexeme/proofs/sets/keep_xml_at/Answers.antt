use native.Mathlib.Omega.{arith}
use Rattle.lexeme.proofs.XmlLaws.{keep_number}
use Rattle.lexeme.proofs.sets.keep_xml_at.Goals as goal

pub returns : goal.returns
returns c = keep_number _ _ _ (omega (arith, c.requires)) c.xml_bits.ensures
