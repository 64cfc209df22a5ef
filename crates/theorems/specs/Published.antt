-- The check is 32-bit FNV-1a as it is published: "for each byte, xor, then multiply by 16777619 modulo 2^32".
use Rattle.std.specs.Prelude.{◌≡◌, refl, ℕ, ◌+◌, ◌*◌, ◌/◌, ◌%◌, ◌<◌, List, [], ◌∷◌, ◌++◌, replicate}
use Rattle.std.proofs.Common.{ap, ap₂, sym, ◌∙◌, mod-lt, zero-add, pow_pos}
use Rattle.std.specs.Int.Bits.{bit_xor, xor_zero_l}
use Rattle.std.proofs.lemmas.Nat.{xor_comm, xor_block}
use Rattle.std.proofs.Math.Pow.{split}
use Rattle.rules.specs.Records.{word}
use Rattle.rules.specs.Blocks.{fnv_start, multiplied, fnv1a, word32, check_of, bytes32, checked, filled, packed_block}

-- From any start: no byte leaves it as it is, and each is one step. The definition has the byte first in the xor; the published step has the number
-- so far first.
pub published : (h : ℕ) → (fnv1a h [] ≡ h) × ((b : ℕ) (bs : List ℕ) → fnv1a h (b ∷ bs) ≡ fnv1a (bit_xor h b * 16777619 % 4294967296) bs)
unfolding fnv1a multiplied
published h = (refl, λ b bs. ap (λ (x : ℕ). fnv1a (x * 16777619 % 4294967296) bs) (xor_comm b h))

-- the xor with a byte changes the low byte only
pub xor_byte : (h b : ℕ) → b < 256 → bit_xor b h ≡ h / 256 * 256 + bit_xor b (h % 256)
xor_byte h b l =
    ap₂ bit_xor (sym (zero-add b)) (sym (split h 8))
    ∙ xor_block 8 0 (h / 256) b (h % 256) l (mod-lt h (pow_pos 8))
    ∙ ap (λ (x : ℕ). x * 256 + bit_xor b (h % 256)) (xor_zero_l (h / 256))

-- "published values: empty 0x811c9dc5, "a" 0xe40c292c, "foobar" 0xbf9cf968"
pub published_values : (fnv1a fnv_start [] ≡ 0x811c9dc5) × (fnv1a fnv_start (97 ∷ []) ≡ 0xe40c292c)
    × (fnv1a fnv_start (102 ∷ 111 ∷ 111 ∷ 98 ∷ 97 ∷ 114 ∷ []) ≡ 0xbf9cf968)
unfolding fnv_start multiplied fnv1a
published_values = (refl, refl, refl)

-- "unless every block before its last has by chance the check 2166136261": there are such blocks
pub chance_value : check_of (packed_block 1 fnv_start 0 (replicate 499 0 ++ 6 ∷ 134 ∷ 226 ∷ 251 ∷ 0 ∷ [])) ≡ 2166136261
unfolding fnv_start multiplied fnv1a word word32 check_of bytes32 checked filled packed_block
chance_value = refl
