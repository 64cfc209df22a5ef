-- A class, from its record.
use Prim.Native.Nat.{ℕ}
use mathlib.Core.Path.{◌≡◌, ap, ◌∙◌}
use mathlib.Core.List.{List}
use mathlib.Core.Bool.{Bool, ◌||◌}
use lib.Dec.{eqb}
use Rattle.rules.specs.Records.{of_kind}
use Rattle.rules.specs.Grammar.{is_class}
use Rattle.stream.specs.Record.{Fetched}
use Rattle.stream.specs.declared.record.Record.{Record}

-- what is_class and is_escaped answer of a record that was fetched
module _ (g : List ℕ) (p : ℕ) (r : Record) (h : Fetched g p r) where
  pub class_is : (b : Bool) → b ≡ (eqb r.kind 1 || eqb r.kind 5) → b ≡ is_class g p
  unfolding is_class
  class_is b e = e ∙ ap (λ (k : ℕ). eqb k 1 || eqb k 5) h.kind

  pub escaped_is : (b : Bool) → b ≡ eqb r.kind 5 → b ≡ of_kind g 5 p
  escaped_is b e = e ∙ ap (λ (k : ℕ). eqb k 5) h.kind
