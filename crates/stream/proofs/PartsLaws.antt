-- A loop over the parts of a text: what a turn of it goes by, and that it goes on as long as something is left.
use Prim.Native.Nat.{ℕ}
use mathlib.Core.List.{List}
use mathlib.Core.Path.{◌≡◌, ◌∙◌}
use denote.Ref.{Bor}
use Rattle.stream.specs.declared.text.Parts.{Parts}
use Rattle.stream.specs.Text.{part_of, Rest}
use Rattle.stream.specs.Parts.{Given}

-- where s is the stream: the part, and the rest of the text behind it
pub record Turn (s : List ℕ) (p : Parts) (x : Bor (List ℕ)) (q : Parts) : Type 0 where
  pub stream : q.stream.now ≡ s
  pub part : x.now ≡ part_of s p.rest
  pub rest : Rest s p.rest q.rest

pub turn : (s : List ℕ) (p : Parts) (x : Bor (List ℕ)) (q : Parts) → p.stream.now ≡ s → Given p x q → Turn s p x q
turn s p x q e g = record {
  stream = g.same ∙ e;
  part = rw (← e) g.part;
  rest = rw (← e) g.rest;
}
