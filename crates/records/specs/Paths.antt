-- "6 path: byte 1 variable, byte 2 number of steps (0 to 5), bytes 3-7 field numbers": the field numbers, from the path's record.
use Rattle.std.specs.Prelude.{ℕ, ◌/◌, ◌%◌, ◌≡◌, List, [], ◌∷◌, get_or, take}
use Rattle.stream.specs.declared.record.Record.{Record}

-- bytes 3 to 7, as many as there are steps. (`steps_are` of PathLaws: they are `field_numbers` of the stream that the record was fetched from.)
unfoldable pub steps_in : Record → List ℕ
steps_in r = take (r.b % 256) (r.b / 256 ∷ r.c % 256 ∷ r.c / 256 ∷ r.d % 256 ∷ r.d / 256 ∷ [])

-- j is step i
pub record StepIn (r : Record) (i j : ℕ) : Type 0 where
  pub is : j ≡ get_or (steps_in r) i 0
