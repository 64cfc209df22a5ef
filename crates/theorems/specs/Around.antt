-- The loops that stand around a node: the fors above it in its own template, and the arms that it stands in, and nothing else.
-- (Goes on in proofs/Around.antt.)
use Rattle.std.specs.Prelude.{◌≡◌, ℕ, suc, List}
use Rattle.rules.specs.Templates.{form_of, nodes_below}
use Rattle.rules.specs.declared.Form.TheVariants.{For, Match}
use Rattle.laws.specs.Faults.{In}

-- `Around t p n q`: of the nodes at p and below it, n loops stand around the node at q: fors; 02 g: "An arm counts as a loop toward the limit of 16."
pub data Around (t : List ℕ) (p : ℕ) : ℕ → ℕ → Type 0 where
  no_loop : Around t p 0 p
  in_a_for : (n q c : ℕ) → Around t p n q → form_of t q ≡ For → In c (nodes_below t q) → Around t p (suc n) c
  in_an_arm : (n q c : ℕ) → Around t p n q → form_of t q ≡ Match → In c (nodes_below t q) → Around t p (suc n) c
  in_neither : (n q c : ℕ) → Around t p n q → (form_of t q ≡ For → ⊥) → (form_of t q ≡ Match → ⊥) → In c (nodes_below t q) → Around t p n c
