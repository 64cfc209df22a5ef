-- How a for comes out in its sequence.
use Rattle.std.specs.Prelude.{ℕ, ◌+◌, ◌≤◌, ◌≡◌, List}
use Rattle.rules.specs.Answers.{input}
use Rattle.rules.specs.Walk.{items, items_of}
use Rattle.walk.specs.declared.at.At.{At}
use Rattle.walk.specs.declared.separator.Separator.{Separator}
use Rattle.walk.specs.declared.state.Run.{Run}
use Rattle.walk.specs.Frames.{frame}
use Rattle.walk.specs.Nodes.{filled_at, asked_at}
use Rattle.walk.specs.Run.{VisitedFrom}

-- it was visited as the items of its sequence after those before it; and if it goes on, the sequence has had as many more as its list has
pub record Turned (g t v : List ℕ) (x : Separator) (before : ℕ) (at : At) (r : Run) (had : ℕ) (out out' scratch scratch' : List ℕ) : Type 0 where
  pub visited : VisitedFrom (asked_at (items (filled_at g x) before) g t v at out scratch) at r out out' scratch scratch'
  pub more : r.number ≡ 0 → had ≡ before + items_of (input g t v at.fuel out) (frame at.frame.base at.frame.vars scratch) at.node
  pub few : had ≤ before + 65535
