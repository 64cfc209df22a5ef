-- Escaping, document 02 c: "& < > " ' turned into the five predefined entities of XML 1.0 (amp, lt, gt, quot, apos)", and its inverse.
use Rattle.std.specs.Prelude.{ℕ, zero, suc, ◌-◌, List, [], ◌∷◌, ◌++◌, Bool, true, false, cond, ◌&&◌, length, eqb}
use Rattle.std.proofs.Math.Option.{Option, none, some}
use Rattle.rules.specs.Faults.{on_found}

-- what a byte is turned into: & &amp;  < &lt;  > &gt;  " &quot;  ' &apos;  and any other into itself
unfoldable pub entity : ℕ → List ℕ
entity b =
    cond (eqb b 0x26) (0x26 ∷ 0x61 ∷ 0x6d ∷ 0x70 ∷ 0x3b ∷ [])
    (cond (eqb b 0x3c) (0x26 ∷ 0x6c ∷ 0x74 ∷ 0x3b ∷ [])
    (cond (eqb b 0x3e) (0x26 ∷ 0x67 ∷ 0x74 ∷ 0x3b ∷ [])
    (cond (eqb b 0x22) (0x26 ∷ 0x71 ∷ 0x75 ∷ 0x6f ∷ 0x74 ∷ 0x3b ∷ [])
    (cond (eqb b 0x27) (0x26 ∷ 0x61 ∷ 0x70 ∷ 0x6f ∷ 0x73 ∷ 0x3b ∷ [])
    (b ∷ [])))))

unfoldable pub escape : List ℕ → List ℕ
escape [] = []
escape (b ∷ bs) = entity b ++ escape bs

-- The inverse reads by the same table: the byte whose entity a text begins with, one of the five or the text's own first byte
unfoldable pub begins : List ℕ → List ℕ → Bool
begins [] text = true
begins (x ∷ xs) [] = false
begins (x ∷ xs) (b ∷ bs) = eqb x b && begins xs bs

unfoldable pub first_of : (ℕ → Bool) → List ℕ → Option ℕ
first_of holds [] = none
first_of holds (c ∷ cs) = cond (holds c) (some c) (first_of holds cs)

unfoldable pub plain_byte : ℕ → List ℕ → Option ℕ
plain_byte b bs = first_of (λ c. begins (entity c) (b ∷ bs)) (0x26 ∷ 0x3c ∷ 0x3e ∷ 0x22 ∷ 0x27 ∷ b ∷ [])

-- the text whose escaped form follows the next n bytes, if there is one; the n bytes belong to an entity that was read
unfoldable pub unescaped_after : ℕ → List ℕ → Option (List ℕ)
unescaped_after zero [] = some []
unescaped_after (suc n) [] = none
unescaped_after (suc n) (b ∷ bs) = unescaped_after n bs
unescaped_after zero (b ∷ bs) =
    on_found (plain_byte b bs) none λ c.
    on_found (unescaped_after (length (entity c) - 1) bs) none λ x.
    some (c ∷ x)

unfoldable pub unescaped : List ℕ → Option (List ℕ)
unescaped text = unescaped_after 0 text
