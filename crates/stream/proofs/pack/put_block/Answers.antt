-- Each call fills the beginning of the rest after what stands already: `block_put` says what stands in the end.
use Prim.Native.Nat.{ℕ}
use borrow.Author.Rules.{rules}
use mathlib.Core.List.{List, ◌++◌}
use mathlib.Core.Path.{◌≡◌, refl, ◌∙◌}
use lib.ListN.{length, drop}
use Rattle.std.specs.Int.{to_le_bytes, w32}
use Rattle.rules.specs.Blocks.{bytes32}
use Rattle.stream.proofs.PackLaws.{block_put}
use Rattle.stream.proofs.pack.put_block.Goals as goal

-- the four bytes of a number, the lowest first, at the beginning of what is lent
put_low_first : (h : ℕ) (bytes out out₁ : List ℕ) → out₁ ≡ bytes ++ drop (length bytes) out → bytes ≡ to_le_bytes w32 h → out₁ ≡ bytes32 h ++ drop 4 out
unfolding bytes32
put_low_first h bytes out out₁ e l =
    let b : bytes ≡ bytes32 h = l ∙ (search rules) in
    rw b at e

pub returns : goal.returns
returns c =
    block_put c.args.out.now c.put_four.new.out _ _ _ c.copy_into.new.dst c.put_zeros.new.out c.copy_into-2.new.dst _ _ _ _ _
    c.requires.0 c.requires.1 c.put_four.ensures refl c.copy_into.ensures refl c.put_zeros.ensures c.fnv1a-check.ensures refl (put_low_first _ _ _ _ c.copy_into-2.ensures c.to_le_bytes.ensures)
