-- The parts of a text, one after the other.
use Rattle.std.specs.Prelude.{ℕ, ◌≡◌, ◌<◌, List, Option, MatchOption}
use Rattle.std.specs.Borrow.{Bor}
use Rattle.stream.specs.declared.text.Parts.{Parts}
use Rattle.stream.specs.Text.{part_of, Rest}

-- the part x that was given is that of the text that was left, and what is left then is the rest of it
pub record Given (p : Parts) (x : Bor (List ℕ)) (q : Parts) : Type 0 where
  pub more : 0 < p.rest.left
  pub part : x.now ≡ part_of p.stream.now p.rest
  pub same : q.stream.now ≡ p.stream.now
  pub rest : Rest p.stream.now p.rest q.rest

-- the next part of what is left of a text; none where nothing is left
abbrev pub GivesPart : Parts → Option (Bor (List ℕ)) → Parts → Type 0
GivesPart p r q = MatchOption r (p.rest.left ≡ 0) (λ x. Given p x q)
