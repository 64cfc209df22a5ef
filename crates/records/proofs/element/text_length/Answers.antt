use native.Mathlib.Omega.{arith}
use Rattle.records.proofs.SizeLaws.{keyword_text, separator_text, no_text}
use Rattle.records.proofs.element.text_length.Goals as goal

pub returns-in-0 : goal.returns-in-0
returns-in-0 c = keyword_text _ c.in-0.is

pub returns-in-4 : goal.returns-in-4
returns-in-4 c = separator_text _ c.in-4.is

pub returns-in_default : goal.returns-in_default
returns-in_default c = no_text _ (omega arith) (omega arith)
