use Rattle.walk.proofs.MarkLaws.{stands_plain, stands_so, plain_text_lem}
use Rattle.walk.proofs.writer.as_it_stands.Goals as goal

pub returns-then-not-is_escaped_at : goal.returns-then-not-is_escaped_at
returns-then-not-is_escaped_at c = rw c.if-not-is_escaped_at.true (stands_plain _ _ _ _ c.is_escaped_at.ensures c.if-not-is_escaped_at.true)

pub returns-else-not-is_escaped_at : goal.returns-else-not-is_escaped_at
returns-else-not-is_escaped_at c = stands_so _ _ _ _ c.is_escaped_at.ensures c.if-not-is_escaped_at.false _ (plain_text_lem (rw c.from.ensures at c.text_after.ensures.text) (rw c.bytes.ensures.bytes at c.is_own_form.ensures))
