use Rattle.std.proofs.Common.{arith, ◌+◌}
use Rattle.layout.proofs.CommonLaws.{reach}
use Rattle.layout.proofs.TemplateHeads.{a_path, path_b, path_right, path_wrong}
use Rattle.layout.proofs.template.path_head.Goals as goal
use Rattle.layout.proofs.template.path_head.Goals.{else-r-eq0-via-then-r-eq0+else-is_path, else-r-eq0-via-else-r-eq0}

pub forward-requires : goal.forward-requires
forward-requires c = reach 1 c.requires.place_is (omega (arith, c.requires.near)) (omega arith)

pub returns-then-is_path : goal.returns-then-is_path
returns-then-is_path c = λ p e f. path_right _ p _ f _ c.if-r-eq0.true _ (a_path _ (p + 1) _ (c.fetch_at.ensures _ (c.forward.ensures p e)) _ c.is_path.ensures) c.if-is_path.true

pub returns-else-r-eq0 : goal.returns-else-r-eq0
returns-else-r-eq0 c = λ p e f.
    elim c.else-r-eq0.branch [
      | else-r-eq0-via-then-r-eq0+else-is_path w ↦ path_wrong _ p _ f _ w.if-r-eq0.true _ (a_path _ (p + 1) _ (w.fetch_at.ensures _ (w.forward.ensures p e)) _ w.is_path.ensures) w.if-is_path.false
      | else-r-eq0-via-else-r-eq0 w ↦ path_b _ p _ f _ w.if-r-eq0.false
    ]
