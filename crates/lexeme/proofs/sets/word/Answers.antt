use Prim.Native.Nat.{◌+◌, ◌*◌}
use native.Mathlib.Omega.{arith}
use Rattle.lexeme.proofs.BitLaws.{word_made}
use Rattle.lexeme.proofs.sets.word.Goals as goal

pub returns : goal.returns
returns c = word_made _ _ c.from-a.ensures c.from-b.ensures c.from-c.ensures c.from-d.ensures (omega (arith, c.type_inv.set (4 * c.args.j))) (omega (arith, c.type_inv.set (4 * c.args.j + 1))) (omega (arith, c.type_inv.set (4 * c.args.j + 2)))
