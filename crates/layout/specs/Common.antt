-- The most records that a stream has, and bytes as a number.
use Rattle.std.specs.Prelude.{ℕ, ◌+◌, ◌*◌, List, [], ◌∷◌}

-- 128 blocks of 63 records
abbrev pub most_records : ℕ
most_records = 8064

-- bytes as one number, the first the lowest
unfoldable pub number_of : List ℕ → ℕ
number_of [] = 0
number_of (b ∷ bs) = b + 256 * number_of bs
