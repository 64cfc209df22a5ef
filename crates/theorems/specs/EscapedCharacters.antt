-- Escaping by characters. 02 c speaks of characters, `escape` goes by bytes; it comes to the same, and an escaped form is well-formed UTF-8 again.
-- (Goes on in proofs/EscapedCharacters.antt.)
use Rattle.std.specs.Prelude.{◌≡◌, ℕ}
use Rattle.std.proofs.Math.Path.{refl}
use Rattle.std.proofs.Common.{sym, ◌∙◌, ap}
use mathlib.Core.List.{List, [], ◌∷◌, ◌++◌, append_assoc}
use Rattle.theorems.specs.Utf8.{encoded, encoded_all}

pub encoded_append : (xs ys : List ℕ) → encoded_all (xs ++ ys) ≡ encoded_all xs ++ encoded_all ys
unfolding encoded_all
encoded_append [] ys = refl
encoded_append (x ∷ xs) ys = ap (λ (t : List ℕ). encoded x ++ t) (encoded_append xs ys) ∙ sym (append_assoc (encoded x) _ _)
