-- The place after a thing, as the code answers it.
use Rattle.std.specs.Prelude.{ℕ, ◌<◌, ◌≡◌, Bool, true, cond, ◌&&◌, ◌||◌, eqb, leb, Some, None}
use Rattle.std.proofs.Math.Option.{Option, none, some}
use Rattle.std.specs.Prelude as code
use Rattle.stream.specs.declared.record.Record.{Record}

abbrev pub end_of : code.Option ℕ → Option ℕ
end_of (Some p) = some p
end_of None = none

-- the test of `escaped_end` beside the number: what an escaped class says of itself; a plain one uses c and d
unfoldable pub class_head : Record → Bool
class_head r = cond (eqb r.kind 5) (eqb r.c 0 && eqb r.d 0) true

-- the first test of `element_end`: what an element's head says of itself
unfoldable pub element_head : Record → Bool
element_head e = eqb e.kind 4 && (leb e.a 4 && ((eqb e.a 4 || eqb e.c 0) && eqb e.d 0))
