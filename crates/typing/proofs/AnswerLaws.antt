-- Laws of answers, and of a number put behind others. Assumes nothing.
use Prim.Native.Nat.{ℕ, ◌+◌, ◌<◌}
use mathlib.Core.Path.{◌≡◌, sym, ap, ◌∙◌}
use mathlib.Core.List.{List, [], ◌∷◌, ◌++◌}
use mathlib.Core.Bool.{true, false}
use mathlib.Core.Option.{Option, none, some}
use native.Mathlib.Numerals.{add-one}
use lib.ListN.{length, take, set}
use lib.Seq.{take-suc-set}
use Rattle.std.specs.Prelude.{Option as Maybe, Some, None, is_some, Result, Ok, Err}
use Rattle.typing.specs.Answers.{found, judged, Offence}
use Rattle.typing.specs.declared.Misfit.{Misfit}

-- what an answer says, once it is known whether it has a number
pub there : {X : Option ℕ} (r : Maybe ℕ) → found r ≡ X → is_some r ≡ true → (n : ℕ) × (X ≡ some n)
there (Some n) e h = (n, sym e)
there None e h = cc

pub missing : {X : Option ℕ} (r : Maybe ℕ) → found r ≡ X → is_some r ≡ false → X ≡ none
missing (Some n) e h = cc
missing None e h = sym e

pub fine : {X : Option Offence} {r : Result Unit Misfit} {u : Unit} → judged r ≡ X → r ≡ Ok u → X ≡ none
fine e h = sym e ∙ ap judged h

pub wrong : {X : Option Offence} {r : Result Unit Misfit} {m : Misfit} → judged r ≡ X → r ≡ Err m → X ≡ some (m.node, m.position)
wrong e h = sym e ∙ ap judged h

pub one_more : (xs : List ℕ) (n v : ℕ) → n < length xs → take (n + 1) (set xs n v) ≡ take n xs ++ v ∷ []
one_more xs n v h = rw add-one (take-suc-set xs n v h)
