use native.Mathlib.Omega.{arith}
use Rattle.std.proofs.Common.{rules, of_calls}
use Rattle.layout.proofs.CommonLaws.{reach}
use Rattle.layout.proofs.TemplateHeads.{a_path, expand_right, expand_wrong}
use Rattle.layout.proofs.template.expand_head.Goals as goal

pub forward-requires : goal.forward-requires
forward-requires c = reach 1 c.requires.place_is (omega (arith, c.requires.near)) (omega arith)

pub returns-then-in_row : goal.returns-then-in_row
returns-then-in_row c = λ p e f. rw c.from.ensures (expand_right _ p _ f.d _ (c.in_row.ensures _ (λ q r b f h. a_path _ q r f b (search (rules, of_calls))) _ (c.forward.ensures p e)) c.if-in_row.true)

pub returns-else-in_row : goal.returns-else-in_row
returns-else-in_row c = λ p e f. expand_wrong _ p _ f.d _ (c.in_row.ensures _ (λ q r b f h. a_path _ q r f b (search (rules, of_calls))) _ (c.forward.ensures p e)) c.if-in_row.false
