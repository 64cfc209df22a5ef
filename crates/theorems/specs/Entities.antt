-- Escaping a second time, in the words of 02 c: which bytes are turned into which entities, and the escaped form of a text. `escape` of `rules` gives
-- exactly these, and `unescaped` is their inverse.
-- (Goes on in proofs/Entities.antt.)
use Rattle.std.specs.Prelude.{ℕ, List, [], ◌∷◌, ◌++◌}
use Prim.Native.Char.{code}
use Prim.Native.String.{String, [] as []ˢ, ◌∷◌ as ◌∷ˢ◌}
use Rattle.laws.specs.Faults.{In}

-- the bytes of a text in ASCII
unfoldable pub spelt : String → List ℕ
spelt []ˢ = []
spelt (c ∷ˢ s) = code c ∷ spelt s

-- "& < > " ' turned into the five predefined entities of XML 1.0 (amp, lt, gt, quot, apos)": what a byte is turned into; any other stays as it is
pub data Entity : ℕ → List ℕ → Type 0 where
  amp : Entity (code "&") (spelt "&amp;")
  lt : Entity (code "<") (spelt "&lt;")
  gt : Entity (code ">") (spelt "&gt;")
  quot : Entity (code "\"") (spelt "&quot;")
  apos : Entity (code "'") (spelt "&apos;")
  stays : (b : ℕ) → (In b (spelt "&<>\"'") → ⊥) → Entity b (b ∷ [])

-- the escaped form of a text: what its bytes are turned into, in order and with nothing between
pub data EscapedForm : List ℕ → List ℕ → Type 0 where
  of_nothing : EscapedForm [] []
  of_byte : (b : ℕ) (bs e text : List ℕ) → Entity b e → EscapedForm bs text → EscapedForm (b ∷ bs) (e ++ text)
