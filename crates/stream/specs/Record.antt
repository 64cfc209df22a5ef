-- A record fetched whole, and where it lies. The fields are those of crate rules: 0 past the end of the stream.
use Rattle.std.specs.Prelude.{ℕ, ◌+◌, ◌*◌, ◌/◌, ◌%◌, ◌≤◌, ◌<◌, ◌^◌, ◌≡◌, List, [], ◌∷◌, length, get_or, take, drop}
use Rattle.std.proofs.Common.{arith}
use Rattle.rules.specs.Records.{base, word, byte_of, kind_of, field_a, field_b, field_c, field_d, record_count}
use Rattle.stream.specs.declared.record.Record.{Record}
use Rattle.stream.specs.declared.record.Place.{Place}

-- the record whose 8 bytes begin at an address
unfoldable pub record_at : List ℕ → ℕ → Record
record_at s at = record { kind = get_or s at 0; a = get_or s (at + 1) 0; b = word s (at + 2); c = word s (at + 4); d = word s (at + 6) }

-- record i of a stream
unfoldable pub record_of : List ℕ → ℕ → Record
record_of s i = record { kind = kind_of s i; a = field_a s i; b = field_b s i; c = field_c s i; d = field_d s i }

-- the 8 bytes of a record, in their order: byte 0, byte 1, and of each word the low byte before the high one
unfoldable pub bytes_of : Record → List ℕ
bytes_of r = r.kind ∷ r.a ∷ r.b % 256 ∷ r.b / 256 ∷ r.c % 256 ∷ r.c / 256 ∷ r.d % 256 ∷ r.d / 256 ∷ []

-- r is record i of a stream of bytes, field by field; of a record that the stream has, its 8 bytes are those of 02 e
pub record Fetched (s : List ℕ) (i : ℕ) (r : Record) : Type 0 where
  pub kind : r.kind ≡ kind_of s i
  pub a : r.a ≡ field_a s i
  pub b : r.b ≡ field_b s i
  pub c : r.c ≡ field_c s i
  pub d : r.d ≡ field_d s i
  pub small : (j : ℕ) → byte_of s i j < 256
  pub reads : i < record_count s → bytes_of r ≡ take 8 (drop (512 * (i / 63) + 4 + 8 * (i % 63)) s)

-- 02 e: "Prove that for each record 0 to 8,063 it reads the 8 bytes from 512 times the quotient by 63, plus 4, plus 8 times the remainder". All of these
-- a stream of 128 blocks has; whatever fetches one of them hands back a record that is `Fetched`
pub reads_its_eight_bytes : (s : List ℕ) → length s ≡ 65536 → (i : ℕ) → i ≤ 8063 → (r : Record) → Fetched s i r
    → bytes_of r ≡ take 8 (drop (512 * (i / 63) + 4 + 8 * (i % 63)) s)
unfolding record_count
reads_its_eight_bytes s l i m r f = f.reads (omega arith)

-- the 8 bytes of record i, from its fields (`eight_bytes`, of RecordLaws, for a record that was fetched)
pub record EightBytes (s : List ℕ) (i : ℕ) (r : Record) : Type 0 where
  pub byte0 : byte_of s i 0 ≡ r.kind
  pub byte1 : byte_of s i 1 ≡ r.a
  pub byte2 : byte_of s i 2 ≡ r.b % 256
  pub byte3 : byte_of s i 3 ≡ r.b / 256
  pub byte4 : byte_of s i 4 ≡ r.c % 256
  pub byte5 : byte_of s i 5 ≡ r.c / 256
  pub byte6 : byte_of s i 6 ≡ r.d % 256
  pub byte7 : byte_of s i 7 ≡ r.d / 256

-- the place of record i: its address, and which of its block's 63 records it is
unfoldable pub place_of : ℕ → Place
place_of i = record { at = base i; slot = i % 63 }

-- n records on from a place, its numbers stay below 2^64
pub record Reach (p : Place) (n : ℕ) : Type 0 where
  pub reach : p.at + p.slot + 16 * n < 2 ^ 64
