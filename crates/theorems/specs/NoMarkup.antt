-- An escaped form holds no markup: none of < > " ', and no & but where one of the five entities begins. So the unescape call refuses a text that does.
-- (Goes on in proofs/NoMarkup.antt.)
use Rattle.std.specs.Prelude.{◌≡◌, ℕ, List, [], ◌∷◌, ◌++◌, map}
use Rattle.laws.specs.Faults.{In}
use Rattle.theorems.specs.Entities.{spelt}

-- "the five predefined entities of XML 1.0 (amp, lt, gt, quot, apos)"
unfoldable pub five : List (List ℕ)
five = map spelt ("&amp;" ∷ "&lt;" ∷ "&gt;" ∷ "&quot;" ∷ "&apos;" ∷ [])

pub record HoldsNoMarkup (text : List ℕ) : Type 0 where
  pub none_of_these : (b : ℕ) → In b (spelt "<>\"'") → In b text → ⊥
  pub begins_an_entity : (before after : List ℕ) → text ≡ before ++ (spelt "&" ++ after) → (e rest : List ℕ) × In e five × (spelt "&" ++ after ≡ e ++ rest)
