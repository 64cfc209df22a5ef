-- Blocks, section "Blocks": the check, the payload of a single block, refusals 1 and 2 of a stream, packing and unpacking.
use Rattle.std.specs.Prelude.{ℕ, zero, suc, ◌+◌, ◌-◌, ◌*◌, ◌/◌, ◌%◌, List, [], ◌∷◌, ◌++◌, Bool, cond, ◌&&◌, length, get_or, take, drop, replicate, eqb, leb}
use Rattle.std.proofs.Math.Option.{Option}
use Rattle.std.specs.Int.Bits.{bit_xor}
use Rattle.rules.specs.Faults.{need, every}
use Rattle.rules.specs.Records.{word, row}

-- 32-bit FNV-1a: "start 2166136261; for each byte, xor, then multiply by 16777619 modulo 2^32". The number to start from is the first argument,
-- since only block 0 of a stream starts from 2166136261 (02 b).
-- The byte stands first in the xor, which is symmetric, as antt goes through the first number's digits.
unfoldable pub fnv_start : ℕ
fnv_start = 2166136261

unfoldable pub multiplied : ℕ → ℕ
multiplied h = h * 16777619 % 4294967296

unfoldable pub fnv1a : ℕ → List ℕ → ℕ
fnv1a h [] = h
fnv1a h (b ∷ bs) = fnv1a (multiplied (bit_xor b h)) bs

-- a number of 32 bits, little-endian
unfoldable pub word32 : List ℕ → ℕ → ℕ
word32 s at = word s at + 65536 * word s (at + 2)

-- the check that a block has: "Bytes 508-511: 32-bit FNV-1a of bytes 0-507, little-endian"
unfoldable pub check_of : List ℕ → ℕ
check_of b = word32 b 508

-- a block's kind and byte 3 are as they should be, and its check is that of bytes 0-507 from a start
unfoldable pub sound : ℕ → ℕ → List ℕ → Bool
sound kind start b = eqb (get_or b 2 0) kind && (eqb (get_or b 3 0) 0 && eqb (check_of b) (fnv1a start (take 508 b)))

-- "stream kind (1 grammar, 2 templates, 3 value)"
unfoldable pub is_kind : ℕ → Bool
is_kind kind = leb 1 kind && leb kind 3

-- the single-block call: "its number isn't judged, and a length other than 512, a kind outside 1 to 3, a byte 3 that isn't zero or a wrong check
-- gives back an empty part". It "is now given the starting number" (02 b). These are the bytes; that they are a part of the lent buffer is said
-- where the call is.
unfoldable pub block_payload : List ℕ → ℕ → List ℕ
block_payload b start = cond (eqb (length b) 512 && (is_kind (get_or b 2 0) && sound (get_or b 2 0) start b)) (take 504 (drop 4 b)) []

-- refusal 1: "A stream's length is zero, above 65,536 or no multiple of 512"
unfoldable pub stream_length : List ℕ → Option ℕ
stream_length s = need (leb 1 (length s) && (leb (length s) 65536 && eqb (length s % 512) 0)) 0

-- block n of a stream
unfoldable pub block : List ℕ → ℕ → List ℕ
block s n = take 512 (drop (512 * n) s)

-- the number that the check of block n of a stream starts from: "The check of each block now starts from the check of the block before it; block 0
-- still starts from 2166136261" (02 b)
unfoldable pub start_of : List ℕ → ℕ → ℕ
start_of s zero = fnv_start
start_of s (suc n) = check_of (block s n)

-- refusal 2: "A block has a wrong number, kind, byte 3 or check (place: block)"
unfoldable pub block_right : ℕ → List ℕ → ℕ → Bool
block_right kind s n = eqb (word (block s n) 0) n && sound kind (start_of s n) (block s n)

unfoldable pub stream_blocks : ℕ → List ℕ → Option ℕ
stream_blocks kind s = every (λ n. need (block_right kind s n) n) (row (length s / 512) 0)

-- "turns a payload (a multiple of 8 bytes, 8 to 64,512) into blocks, zero-filled at the end"
unfoldable pub bytes32 : ℕ → List ℕ
bytes32 n = n % 256 ∷ n / 256 % 256 ∷ n / 65536 % 256 ∷ n / 16777216 % 256 ∷ []

-- bytes 0-507 and their check from a start
unfoldable pub checked : ℕ → List ℕ → List ℕ
checked start b = b ++ bytes32 (fnv1a start b)

unfoldable pub filled : List ℕ → List ℕ
filled payload = payload ++ replicate (504 - length payload) 0

unfoldable pub packed_block : ℕ → ℕ → ℕ → List ℕ → List ℕ
packed_block kind start n payload = checked start ((n % 256 ∷ n / 256 % 256 ∷ kind ∷ 0 ∷ []) ++ filled payload)

-- k blocks, numbered from n on: the check of the first starts from the number given, of each other "from the check of the block before it";
-- "packing writes the new ones" (02 b)
unfoldable pub packed_blocks : ℕ → ℕ → ℕ → ℕ → List ℕ → List ℕ
packed_blocks kind zero start n payload = []
packed_blocks kind (suc k) start n payload =
    let b = packed_block kind start n (take 504 payload) in
    b ++ packed_blocks kind k (check_of b) (suc n) (drop 504 payload)

unfoldable pub packed : ℕ → List ℕ → List ℕ
packed kind payload = packed_blocks kind ((length payload + 503) / 504) fnv_start 0 payload

unfoldable pub payload_length : List ℕ → Option ℕ
payload_length payload = need (leb 8 (length payload) && (leb (length payload) 64512 && eqb (length payload % 8) 0)) 0

-- "unpacking gives all payload bytes"
unfoldable pub payloads : ℕ → List ℕ → List ℕ
payloads zero s = []
payloads (suc k) s = take 504 (drop 4 s) ++ payloads k (drop 512 s)

unfoldable pub unpacked : List ℕ → List ℕ
unpacked s = payloads (length s / 512) s
