-- The records of a stream, as the rules read them, are what unpacking gives: "Bytes 4-507: payload, 63 records of 8 bytes"; "unpacking gives all
-- payload bytes". The rules read record i straight from its block, and unpacking knows of no records. Here the two are held together, for every
-- reader that the rules have and for the records of every block.
use Rattle.std.specs.Prelude.{◌≡◌, length, drop}
use Rattle.std.proofs.Math.Path.{refl, sym, ap, ap₂}
use Rattle.std.proofs.Common.{◌∙◌, add-zero, zero-add, length-take, length-drop, length-take-le, take_all, get_or-take, get_or-drop, get_or-append-add, ext_get_or}
use Prim.Native.Nat.{ℕ, zero, suc, ◌+◌, ◌*◌, ◌/◌, ◌%◌, ◌≤◌, ◌<◌}
use mathlib.Core.List.{List, [], ◌∷◌, ◌++◌}
use native.Mathlib.Omega.{arith}
use Rattle.std.proofs.Math.Nat.{add_assoc}
use Rattle.std.proofs.Math.ListN.{get_or, take, take-append-drop, get_or-append}
use Rattle.std.proofs.Math.Seq.{take-add, take-take, drop-drop}
use Rattle.rules.specs.Records.{base, byte_of, word, kind_of, field_a, field_b, field_c, field_d, record_count, records_from, units, text_of, padding_of}
use Rattle.rules.specs.Blocks.{payloads, unpacked}
use Rattle.rules.specs.Lexeme.{lowest, highest}
use Rattle.rules.specs.Templates.{variable, field_numbers}
use Rattle.laws.specs.Blocks.{unpacked_length}
use Rattle.laws.specs.Lists.{drop_take}
use Rattle.theorems.specs.Streams.{WellSized}

-- record i of the stream s is the 8 bytes of u from `at` on, by whichever reader; a byte past the end is 0
pub record ReadAt (s : List ℕ) (i : ℕ) (u : List ℕ) (at : ℕ) : Type 0 where
  -- "Byte 0 kind, byte 1 a, then words b, c, d of 16 bits, little-endian."
  pub bytes : (j : ℕ) → j < 8 → byte_of s i j ≡ get_or u (at + j) 0
  pub kind : kind_of s i ≡ get_or u at 0
  pub a : field_a s i ≡ get_or u (at + 1) 0
  pub b : field_b s i ≡ get_or u (at + 2) 0 + 256 * get_or u (at + 3) 0
  pub c : field_c s i ≡ get_or u (at + 4) 0 + 256 * get_or u (at + 5) 0
  pub d : field_d s i ≡ get_or u (at + 6) 0 + 256 * get_or u (at + 7) 0
  -- "2 range: bytes 1-3 lowest and 4-6 highest code point, little-endian."
  pub range_lowest : lowest s i ≡ get_or u (at + 1) 0 + 256 * get_or u (at + 2) 0 + 65536 * get_or u (at + 3) 0
  pub range_highest : highest s i ≡ get_or u (at + 4) 0 + 256 * get_or u (at + 5) 0 + 65536 * get_or u (at + 6) 0
  -- "6 path: byte 1 variable, byte 2 number of steps (0 to 5), bytes 3-7 field numbers."
  pub path_variable : variable s i ≡ get_or u (at + 1) 0
  pub path_fields : field_numbers s i ≡ take (get_or u (at + 2) 0) (take 5 (drop (at + 3) u))
  -- "Text follows its head in units of 8 bytes, the last zero-padded", n bytes of it
  pub text : (n : ℕ) → text_of s n i ≡ take n (drop (at + 8) u)
  pub text_padded : (n : ℕ) → text_of s n i ++ padding_of s n i ≡ take (8 * ((n + 7) / 8)) (drop (at + 8) u)

-- the records of a stream are its payload: all of them laid end to end; n of them from i on, cut short where the stream ends; each by itself
pub record RecordsUnpacked (s : List ℕ) : Type 0 where
  pub end_to_end : records_from s (record_count s) 0 ≡ unpacked s
  -- "Bytes 4-507: payload": byte x of block b's
  pub payload_bytes : (b x : ℕ) → x < 504 → get_or (unpacked s) (504 * b + x) 0 ≡ get_or s (512 * b + 4 + x) 0
  pub eight_each : length (unpacked s) ≡ 8 * record_count s
  pub in_a_row : (n i : ℕ) → records_from s n i ≡ take (8 * n) (drop (8 * i) (unpacked s))
  pub each : (i : ℕ) → ReadAt s i (unpacked s) (8 * i)

-- byte x of block b's payload, and 0 past the end
block_payload_length : (s : List ℕ) → 512 ≤ length s → length (take 504 (drop 4 s)) ≡ 504
block_payload_length s l = length-take-le 504 (drop 4 s) (rw length-drop (omega arith))

payload_byte : (k b x : ℕ) (s : List ℕ) → length s ≡ 512 * k → x < 504 → get_or (payloads k s) (504 * b + x) 0 ≡ get_or s (512 * b + 4 + x) 0
unfolding payloads
payload_byte zero b x [] l m = refl
payload_byte zero b x (y ∷ s) l m = absurd (omega arith)
payload_byte (suc k) zero x s l m =
    let p : List ℕ = take 504 (drop 4 s) in
    let z : length p ≡ 504 = block_payload_length s (omega arith) in
    rw (zero-add x) (get_or-append p (payloads k (drop 512 s)) 0 x (omega arith) ∙ get_or-take 504 (drop 4 s) x 0 m ∙ get_or-drop 4 s x 0)
payload_byte (suc k) (suc b) x s l m =
    let p : List ℕ = take 504 (drop 4 s) in
    let z : length p ≡ 504 = block_payload_length s (omega arith) in
    let e : 504 * suc b + x ≡ length p + (504 * b + x) = omega arith in
    let f : 512 + (512 * b + 4 + x) ≡ 512 * suc b + 4 + x = omega arith in
    ap (λ (n : ℕ). get_or (p ++ payloads k (drop 512 s)) n 0) e
    ∙ get_or-append-add p (payloads k (drop 512 s)) (504 * b + x) 0
    ∙ payload_byte k b x (drop 512 s) (rw length-drop (omega arith)) m
    ∙ get_or-drop 512 s (512 * b + 4 + x) 0
    ∙ ap (λ (n : ℕ). get_or s n 0) f

module _ (s : List ℕ) (w : length s % 512 ≡ 0) where
  eight_bytes_each : length (unpacked s) ≡ 8 * record_count s
  unfolding record_count
  eight_bytes_each = unpacked_length s ∙ omega arith

  bytes_of_payload : (b x : ℕ) → x < 504 → get_or (unpacked s) (504 * b + x) 0 ≡ get_or s (512 * b + 4 + x) 0
  unfolding unpacked
  bytes_of_payload b x l = payload_byte (length s / 512) b x s (omega arith) l

  -- byte j of record i, which is record i % 63 of block i / 63
  record_byte : (i j : ℕ) → j < 8 → get_or s (base i + j) 0 ≡ get_or (unpacked s) (8 * i + j) 0
  unfolding unpacked base
  record_byte i j l =
      let e : base i + j ≡ 512 * (i / 63) + 4 + (8 * (i % 63) + j) = omega arith in
      let f : 504 * (i / 63) + (8 * (i % 63) + j) ≡ 8 * i + j = omega arith in
      ap (λ (n : ℕ). get_or s n 0) e
      ∙ sym (payload_byte (length s / 512) (i / 63) (8 * (i % 63) + j) s (omega arith) (omega arith))
      ∙ ap (λ (n : ℕ). get_or (payloads (length s / 512) s) n 0) f

  -- the whole of record i: past the end of the stream both are cut short
  record_length : (i : ℕ) → length (take 8 (drop (base i) s)) ≡ length (take 8 (drop (8 * i) (unpacked s)))
  unfolding base record_count
  record_length i = simp (length-take, length-drop) (omega (arith, eight_bytes_each))

  record_bytes_lem : (i : ℕ) → take 8 (drop (base i) s) ≡ take 8 (drop (8 * i) (unpacked s))
  record_bytes_lem i = ext_get_or 0 _ _ (record_length i) λ j l.
      let m : j < 8 = omega (arith, length-take 8 (drop (base i) s)) in
      rw (get_or-take 8 (drop (base i) s) j 0 m, get_or-drop, get_or-take 8 (drop (8 * i) (unpacked s)) j 0 m, get_or-drop) (record_byte i j m)

  records_in_a_row : (n i : ℕ) → records_from s n i ≡ take (8 * n) (drop (8 * i) (unpacked s))
  unfolding records_from
  records_in_a_row zero i = refl
  records_in_a_row (suc n) i =
      let e : 8 * suc n ≡ 8 + 8 * n = omega arith in
      let f : 8 * i + 8 ≡ 8 * suc i = omega arith in
      rw (e, take-add 8 (8 * n) (drop (8 * i) (unpacked s)), drop-drop, f) (ap₂ ◌++◌ (record_bytes_lem i) (records_in_a_row n (suc i)))

  records_end_to_end : records_from s (record_count s) 0 ≡ unpacked s
  records_end_to_end = records_in_a_row (record_count s) 0 ∙ take_all (8 * record_count s) (unpacked s) (omega (arith, eight_bytes_each))

  -- each reader by itself
  byte_of_lem : (i j : ℕ) → j < 8 → byte_of s i j ≡ get_or (unpacked s) (8 * i + j) 0
  unfolding byte_of
  byte_of_lem i j l = record_byte i j l

  word_of : (i j : ℕ) → j < 7 → word s (base i + j) ≡ get_or (unpacked s) (8 * i + j) 0 + 256 * get_or (unpacked s) (8 * i + (j + 1)) 0
  unfolding word
  word_of i j l = ap₂ (λ (x y : ℕ). x + 256 * y) (record_byte i j (omega arith)) (rw add_assoc (record_byte i (j + 1) (omega arith)))

  numbers_of : (i : ℕ) → drop 3 (records_from s 1 i) ≡ take 5 (drop (8 * i + 3) (unpacked s))
  numbers_of i = ap (drop 3) (records_in_a_row 1 i) ∙ drop_take 3 5 (drop (8 * i) (unpacked s)) ∙ rw drop-drop

  units_of : (n i : ℕ) → records_from s n (i + 1) ≡ take (8 * n) (drop (8 * i + 8) (unpacked s))
  units_of n i = let e : 8 * (i + 1) ≡ 8 * i + 8 = omega arith in records_in_a_row n (i + 1) ∙ rw e

  text_of_lem : (n i : ℕ) → take n (records_from s (units n) (i + 1)) ≡ take n (drop (8 * i + 8) (unpacked s))
  unfolding units
  text_of_lem n i = ap (take n) (units_of (units n) i) ∙ take-take n (8 * units n) _ (omega arith)

  read_at : (i : ℕ) → ReadAt s i (unpacked s) (8 * i)
  unfolding kind_of field_a field_b field_c field_d lowest highest variable field_numbers units text_of padding_of
  read_at i = record {
    bytes = byte_of_lem i;
    kind = byte_of_lem i 0 (omega arith) ∙ rw add-zero;
    a = byte_of_lem i 1 (omega arith);
    b = word_of i 2 (omega arith);
    c = word_of i 4 (omega arith);
    d = word_of i 6 (omega arith);
    range_lowest = omega (arith, byte_of_lem i 1 (omega arith), byte_of_lem i 2 (omega arith), byte_of_lem i 3 (omega arith));
    range_highest = omega (arith, byte_of_lem i 4 (omega arith), byte_of_lem i 5 (omega arith), byte_of_lem i 6 (omega arith));
    path_variable = byte_of_lem i 1 (omega arith);
    path_fields = ap₂ take (byte_of_lem i 2 (omega arith)) (numbers_of i);
    text = λ n. text_of_lem n i;
    text_padded = λ n. take-append-drop n _ ∙ units_of (units n) i;
  }

-- Of a stream of right length:
pub records_unpacked : (s : List ℕ) → WellSized s → RecordsUnpacked s
records_unpacked s h =
    let w = h.whole_blocks in
    record { end_to_end = records_end_to_end s w; payload_bytes = bytes_of_payload s w; eight_each = eight_bytes_each s w; in_a_row = records_in_a_row s w; each = read_at s w }
