use mathlib.Core.Path.{◌∙◌, sym}
use Rattle.lexeme.proofs.XmlLaws.{bits_start, bits_turn, bits_skip}
use Rattle.lexeme.proofs.sets.xml_bits.Goals.{then-is_xml_char, else-is_xml_char}
use Rattle.lexeme.proofs.sets.xml_bits.Goals as goal

pub loop-j-init : goal.loop-j-init
loop-j-init c = bits_start _

pub loop-j-preserved : goal.loop-j-preserved
loop-j-preserved c = elim c.if-is_xml_char.branch [
  | then-is_xml_char w ↦ rw w.bits-is (bits_turn _ _ _ c.loop-j.invariant c.loop-j-test.true _ w.mask-bits.ensures (sym c.is_xml_char.ensures ∙ w.if-is_xml_char.true))
  | else-is_xml_char w ↦ rw w.bits-is (bits_skip _ _ _ c.loop-j.invariant c.loop-j-test.true (sym c.is_xml_char.ensures ∙ w.if-is_xml_char.false))
]
