use Rattle.lexeme.proofs.XmlLaws.{XmlBits}
use Rattle.lexeme.proofs.sets.xml_bits.Given as goal

abbrev pub invariant-loop-j : goal.invariant-loop-j
invariant-loop-j l = XmlBits l.w l.bits l.j
