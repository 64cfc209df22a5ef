-- Records, section "Records": 8 bytes, by index, straight from the blocks of a stream. A byte past the end of the stream is 0, and a text
-- that runs past it is cut short; refusal 3 meets both.
use Rattle.std.specs.Prelude.{ℕ, zero, suc, ◌+◌, ◌*◌, ◌/◌, ◌%◌, List, [], ◌∷◌, ◌++◌, Bool, true, false, ◌&&◌, length, get_or, take, drop, eqb}
use Rattle.std.proofs.Math.Option.{Option, none, some}

-- "Bytes 4-507: payload, 63 records of 8 bytes": where record i of a stream begins
unfoldable pub base : ℕ → ℕ
base i = 512 * (i / 63) + 4 + 8 * (i % 63)

unfoldable pub byte_of : List ℕ → ℕ → ℕ → ℕ
byte_of s i j = get_or s (base i + j) 0

-- a number of 16 bits, little-endian
unfoldable pub word : List ℕ → ℕ → ℕ
word s at = get_or s at 0 + 256 * get_or s (at + 1) 0

-- "Byte 0 kind, byte 1 a, then words b, c, d of 16 bits, little-endian"
unfoldable pub kind_of : List ℕ → ℕ → ℕ
kind_of s i = byte_of s i 0

unfoldable pub field_a : List ℕ → ℕ → ℕ
field_a s i = byte_of s i 1

unfoldable pub field_b : List ℕ → ℕ → ℕ
field_b s i = word s (base i + 2)

unfoldable pub field_c : List ℕ → ℕ → ℕ
field_c s i = word s (base i + 4)

unfoldable pub field_d : List ℕ → ℕ → ℕ
field_d s i = word s (base i + 6)

-- the records of a whole stream; the bytes of n records from i on
unfoldable pub record_count : List ℕ → ℕ
record_count s = length s / 512 * 63

unfoldable pub records_from : List ℕ → ℕ → ℕ → List ℕ
records_from s zero i = []
records_from s (suc n) i = take 8 (drop (base i) s) ++ records_from s n (suc i)

-- "Text follows its head in units of 8 bytes, the last zero-padded; length 0 has no unit": the units of n bytes; the text of n bytes
-- after the head at i, and its padding
unfoldable pub units : ℕ → ℕ
units n = (n + 7) / 8

unfoldable pub text_of : List ℕ → ℕ → ℕ → List ℕ
text_of s n i = take n (records_from s (units n) (i + 1))

unfoldable pub padding_of : List ℕ → ℕ → ℕ → List ℕ
padding_of s n i = drop n (records_from s (units n) (i + 1))

unfoldable pub zeros : List ℕ → Bool
zeros [] = true
zeros (b ∷ bs) = eqb b 0 && zeros bs

-- n things in a row from p on, each of so many records: their heads, and the place after them
unfoldable pub heads : (ℕ → ℕ) → ℕ → ℕ → List ℕ
heads size zero p = []
heads size (suc n) p = p ∷ heads size n (p + size p)

unfoldable pub after : (ℕ → ℕ) → ℕ → ℕ → ℕ
after size zero p = p
after size (suc n) p = after size n (p + size p)

-- n records in a row
unfoldable pub row : ℕ → ℕ → List ℕ
row n p = heads (λ q. 1) n p

-- the heads of the things from p on, up to the zero records after the last; there are no more than n
unfoldable pub things : List ℕ → (ℕ → ℕ) → ℕ → ℕ → List ℕ
things s size zero p = []
things s size (suc n) p = elim (eqb (kind_of s p) 0) [ true ↦ [] | false ↦ p ∷ things s size n (p + size p) ]

-- the heads of a list that are of a sort
unfoldable pub those : (ℕ → Bool) → List ℕ → List ℕ
those is [] = []
those is (p ∷ ps) = elim (is p) [ true ↦ p ∷ those is ps | false ↦ those is ps ]

-- whether a head is of a kind: most sorts are one
abbrev pub of_kind : List ℕ → ℕ → ℕ → Bool
of_kind s kind p = eqb (kind_of s p) kind

-- entry n of a list, if there is one
unfoldable pub nth : {A : Type 0} → List A → ℕ → Option A
nth [] n = none
nth (x ∷ xs) zero = some x
nth (x ∷ xs) (suc n) = nth xs n

-- the entries of a list with their numbers from n on
unfoldable pub numbered : ℕ → List ℕ → List (ℕ × ℕ)
numbered n [] = []
numbered n (p ∷ ps) = (n, p) ∷ numbered (suc n) ps
