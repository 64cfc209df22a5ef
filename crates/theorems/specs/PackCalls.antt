-- What packing, unpacking and the single-block call answer and leave, in every case.
-- (Goes on in proofs/PackCalls.antt.)
use Rattle.std.specs.Prelude.{◌≡◌, refl, ◌↔◌, ℕ, zero, suc, ◌-◌, ◌*◌, ◌/◌, ◌%◌, ◌≤◌, ◌<◌, List, [], ◌∷◌, ◌++◌, Bool, true, false, cond, ◌&&◌, length, take, drop, get_or, replicate, eqb, leb}
use Rattle.std.proofs.Common.{sym, ◌∙◌, arith, leb-true, leb-false}
use Rattle.std.proofs.lemmas.Bool.{false≢true}
use Rattle.std.proofs.Math.Option.{Option}
use Rattle.rules.specs.Faults.{need}
use Rattle.rules.specs.Blocks.{fnv1a, check_of, sound, is_kind, block_payload, bytes32, checked, filled, packed_block, packed_blocks, packed, payload_length, unpacked}
use Rattle.rules.specs.Answers.{answer, placed, try, accept, pack_refusal, Written, written, pack}
use Rattle.rules.specs.declared.Answer.{Answer}
use Rattle.laws.specs.Blocks.{packed_length}
use Rattle.laws.specs.Faults.{In, here, later, need_iff, and_iff, eqb_iff, leb_iff}
use Rattle.theorems.specs.Streams.{WellSized, blocks_exactly}
use Rattle.theorems.specs.Accepted.{RightBlocks}
use Rattle.theorems.specs.Least.{in_none}
use Rattle.theorems.specs.HeadByHead.{in_cons}
use Rattle.theorems.specs.Offences.{WrongBlock}
use Rattle.theorems.specs.Packing.{block_count, fill_count, packed_meets_neither, unpacked_packed}

-- "Byte 2: stream kind (1 grammar, 2 templates, 3 value)."
pub record StreamKind (kind : ℕ) : Type 0 where
  pub from_1 : 1 ≤ kind
  pub to_3 : kind ≤ 3

-- "a payload (a multiple of 8 bytes, 8 to 64,512)"
pub record Packable (payload : List ℕ) : Type 0 where
  pub at_least : 8 ≤ length payload
  pub at_most : length payload ≤ 64512
  pub whole_records : length payload % 8 ≡ 0

-- entries that are bytes
abbrev pub Bytes : List ℕ → Type 0
Bytes s = (x : ℕ) → In x s → x < 256

-- the stream of a kind that a payload is packed into: right blocks, "zero-filled at the end"
pub record PackedAs (kind : ℕ) (payload s : List ℕ) : Type 0 where
  pub bytes_only : Bytes payload → Bytes s
  pub so_many_blocks : length s ≡ 512 * block_count payload
  pub right_blocks : RightBlocks kind s
  pub same_payload : unpacked s ≡ payload ++ replicate (fill_count payload) 0

-- "refused, they write nothing"; the place is 0 "but for the block of a 2"
pub record Refused (number place : ℕ) (out : List ℕ) (w : Written) : Type 0 where
  pub refusal : w.result ≡ answer number 0 place 0 0
  pub nothing_written : w.output ≡ out

-- "else only the bytes counted"
pub record Wrote (s out : List ℕ) (w : Written) : Type 0 where
  pub bytes_counted : w.result ≡ answer 0 0 0 0 (length s)
  pub only_these : w.output ≡ s ++ drop (length s) out

-- "Packing tries 1 (payload length), 2 (kind outside 1 to 3, place 0), then 12 if the blocks don't fit"
pub data Packs (kind : ℕ) (payload out : List ℕ) (w : Written) : Type 0 where
  wrong_length : (Packable payload → ⊥) → Refused 1 0 out w → Packs kind payload out w
  wrong_kind : Packable payload → (StreamKind kind → ⊥) → Refused 2 0 out w → Packs kind payload out w
  no_room : Packable payload → StreamKind kind → length out < 512 * block_count payload → Refused 12 0 out w → Packs kind payload out w
  packs : (s : List ℕ) → Packable payload → StreamKind kind → PackedAs kind payload s → length s ≤ length out → Wrote s out w → Packs kind payload out w

-- "unpacking, told the kind to expect, 1, 2, 12"; it "gives all payload bytes"
pub data Unpacks (kind : ℕ) (s out : List ℕ) (w : Written) : Type 0 where
  wrong_length : (WellSized s → ⊥) → Refused 1 0 out w → Unpacks kind s out w
  wrong_kind : WellSized s → (StreamKind kind → ⊥) → Refused 2 0 out w → Unpacks kind s out w
  wrong_block : (n : ℕ) → WellSized s → StreamKind kind → WrongBlock kind s n → ((m : ℕ) → m < n → WrongBlock kind s m → ⊥) → Refused 2 n out w → Unpacks kind s out w
  no_room : WellSized s → StreamKind kind → RightBlocks kind s → length out < length (unpacked s) → Refused 12 0 out w → Unpacks kind s out w
  unpacks : WellSized s → StreamKind kind → RightBlocks kind s → length (unpacked s) ≤ length out → Wrote (unpacked s) out w → Unpacks kind s out w

-- the single-block call: "its number isn't judged, and a length other than 512, a kind outside 1 to 3, a byte 3 that isn't zero or a wrong check
-- gives back an empty part"; it "is now given the starting number" (02 b)
pub record RightAlone (b : List ℕ) (start : ℕ) : Type 0 where
  pub whole : length b ≡ 512
  pub kind_right : StreamKind (get_or b 2 0)
  pub byte3_right : get_or b 3 0 ≡ 0
  pub check_right : check_of b ≡ fnv1a start (take 508 b)

pub data Payload (b : List ℕ) (start : ℕ) : List ℕ → Type 0 where
  bytes_4_to_507 : RightAlone b start → Payload b start (take 504 (drop 4 b))
  empty_part : (RightAlone b start → ⊥) → Payload b start []

-- each test in words
pub kind_exactly : (kind : ℕ) → (is_kind kind ≡ true) ↔ StreamKind kind
unfolding is_kind
kind_exactly kind = (
  λ e. let h = (and_iff _ _).0 e in record { from_1 = (leb_iff _ _).0 h.0; to_3 = (leb_iff _ _).0 h.1 },
  λ k. (and_iff _ _).1 ((leb_iff _ _).1 k.from_1, (leb_iff _ _).1 k.to_3),
)

-- a test that is tried with place 0: where it holds what is tried next decides, and where it fails it is refused
pub try_need : (P : Written → Type 0) (number : ℕ) (b : Bool) (next : Unit {0} → Option Answer) (bytes : Unit {0} → List ℕ) (out : List ℕ)
    → (b ≡ true → P (written (next tt) bytes out)) → (b ≡ false → P (record { result = answer number 0 0 0 0; output = out }))
    → P (written (try number (placed 0 (need b 0)) next) bytes out)
unfolding need placed try written
try_need P number true next bytes out held failed = held refl
try_need P number false next bytes out held failed = failed refl

-- what fails is not so
pub fails : {A : Type 0} {b : Bool} → (b ≡ true) ↔ A → b ≡ false → A → ⊥
fails i e a = false≢true (sym e ∙ i.1 a)

pub refused_by : (number place : ℕ) (out : List ℕ) → Refused number place out (record { result = answer number 0 place 0 0; output = out })
refused_by number place out = record { refusal = refl; nothing_written = refl }

pub wrote_all : (bytes : Unit {0} → List ℕ) (out : List ℕ) → Wrote (bytes tt) out (written (accept tt) bytes out)
unfolding written accept
wrote_all bytes out = record { bytes_counted = refl; only_these = refl }

pub packable_test : (payload : List ℕ) → ((leb 8 (length payload) && (leb (length payload) 64512 && eqb (length payload % 8) 0)) ≡ true) ↔ Packable payload
packable_test payload = (
  λ e. let h = (and_iff _ _).0 e in let k = (and_iff _ _).0 h.1 in
      record { at_least = (leb_iff _ _).0 h.0; at_most = (leb_iff _ _).0 k.0; whole_records = (eqb_iff _ _).0 k.1 },
  λ p. (and_iff _ _).1 ((leb_iff _ _).1 p.at_least, (and_iff _ _).1 ((leb_iff _ _).1 p.at_most, (eqb_iff _ _).1 p.whole_records)),
)

-- packing makes bytes of bytes
bytes_append : (xs ys : List ℕ) → Bytes xs → Bytes ys → Bytes (xs ++ ys)
bytes_append [] ys a b y i = b y i
bytes_append (x ∷ xs) ys a b y i = in_cons (λ (z : ℕ). z < 256) (a x (here xs)) (bytes_append xs ys (λ z j. a z (later x xs j)) b) i

bytes_take : (n : ℕ) (xs : List ℕ) → Bytes xs → Bytes (take n xs)
bytes_take zero xs a y i = absurd (in_none i)
bytes_take (suc n) [] a y i = absurd (in_none i)
bytes_take (suc n) (x ∷ xs) a y i = in_cons (λ (z : ℕ). z < 256) (a x (here xs)) (bytes_take n xs (λ z j. a z (later x xs j))) i

bytes_drop : (n : ℕ) (xs : List ℕ) → Bytes xs → Bytes (drop n xs)
bytes_drop zero xs a y i = a y i
bytes_drop (suc n) [] a y i = absurd (in_none i)
bytes_drop (suc n) (x ∷ xs) a y i = bytes_drop n xs (λ z j. a z (later x xs j)) y i

zero_bytes : (n : ℕ) → Bytes (replicate n 0)
zero_bytes zero y i = absurd (in_none i)
zero_bytes (suc n) y i = in_cons (λ (z : ℕ). z < 256) (omega arith) (zero_bytes n) i

one_byte : (x : ℕ) (xs : List ℕ) → x < 256 → Bytes xs → Bytes (x ∷ xs)
one_byte x xs l a y i = in_cons (λ (z : ℕ). z < 256) l a i

no_byte : Bytes []
no_byte y i = absurd (in_none i)

digit_byte : (x : ℕ) (xs : List ℕ) → Bytes xs → Bytes (x % 256 ∷ xs)
digit_byte x xs a = one_byte (x % 256) xs (omega arith) a

four_bytes : (n : ℕ) → Bytes (bytes32 n)
unfolding bytes32
four_bytes n = digit_byte n _ (digit_byte (n / 256) _ (digit_byte (n / 65536) _ (digit_byte (n / 16777216) _ no_byte)))

block_bytes : (kind start n : ℕ) (payload : List ℕ) → kind < 256 → Bytes payload → Bytes (packed_block kind start n payload)
unfolding packed_block checked filled
block_bytes kind start n payload l a =
    let fill = bytes_append payload (replicate (504 - length payload) 0) a (zero_bytes (504 - length payload)) in
    bytes_append _ _ (digit_byte n _ (digit_byte (n / 256) _ (one_byte kind _ l (one_byte 0 _ (omega arith) fill)))) (four_bytes _)

blocks_bytes : (kind k start n : ℕ) (payload : List ℕ) → kind < 256 → Bytes payload → Bytes (packed_blocks kind k start n payload)
unfolding packed_blocks
blocks_bytes kind zero start n payload l a = no_byte
blocks_bytes kind (suc k) start n payload l a =
    bytes_append _ _ (block_bytes kind start n _ l (bytes_take 504 payload a)) (blocks_bytes kind k _ (suc n) _ l (bytes_drop 504 payload a))

packed_as : (kind : ℕ) (payload : List ℕ) → Packable payload → StreamKind kind → PackedAs kind payload (packed kind payload)
unfolding payload_length packed
packed_as kind payload h k = record {
  bytes_only = blocks_bytes kind _ _ 0 payload (let m = k.to_3 in omega arith);
  so_many_blocks = packed_length kind payload;
  right_blocks = (blocks_exactly kind _).0 (packed_meets_neither kind payload ((need_iff {A = ℕ} _ 0).1 ((packable_test payload).1 h))).1;
  same_payload = unpacked_packed kind payload;
}

pub pack_answers : (kind : ℕ) (payload out : List ℕ) → Packs kind payload out (pack kind payload out)
unfolding pack pack_refusal payload_length
pack_answers kind payload out =
    try_need (Packs kind payload out) 1 _ _ _ out
    (λ e. let h = (packable_test payload).0 e in try_need (Packs kind payload out) 2 _ _ _ out
    (λ f. let k = (kind_exactly kind).0 f in try_need (Packs kind payload out) 12 _ _ _ out
    (λ d. packs (packed kind payload) h k (packed_as kind payload h k) (leb-true _ _ d) (wrote_all (λ _. packed kind payload) out))
    (λ d. no_room h k (rw (← packed_length kind payload) (leb-false _ _ d)) (refused_by 12 0 out)))
    (λ f. wrong_kind h (fails (kind_exactly kind) f) (refused_by 2 0 out)))
    (λ e. wrong_length (fails (packable_test payload) e) (refused_by 1 0 out))

alone_exactly : (b : List ℕ) (start : ℕ) → ((eqb (length b) 512 && (is_kind (get_or b 2 0) && sound (get_or b 2 0) start b)) ≡ true) ↔ RightAlone b start
unfolding sound
alone_exactly b start = (
  λ e. let h = (and_iff _ _).0 e in let k = (and_iff _ _).0 h.1 in let l = (and_iff (eqb (get_or b 2 0) (get_or b 2 0)) _).0 k.1 in let m = (and_iff _ _).0 l.1 in
      record { whole = (eqb_iff _ _).0 h.0; kind_right = (kind_exactly _).0 k.0; byte3_right = (eqb_iff _ _).0 m.0; check_right = (eqb_iff _ _).0 m.1 },
  λ r. (and_iff _ _).1 (
    (eqb_iff _ _).1 r.whole,
    (and_iff _ _).1 (
      (kind_exactly _).1 r.kind_right,
      (and_iff _ _).1 ((eqb_iff (get_or b 2 0) _).1 refl, (and_iff _ _).1 ((eqb_iff _ _).1 r.byte3_right, (eqb_iff _ _).1 r.check_right)),
    ),
  ),
)

pub payload_answers : (b : List ℕ) (start : ℕ) → Payload b start (block_payload b start)
unfolding block_payload
payload_answers b start = go (eqb (length b) 512 && (is_kind (get_or b 2 0) && sound (get_or b 2 0) start b)) refl
  where
    go : (c : Bool) → (eqb (length b) 512 && (is_kind (get_or b 2 0) && sound (get_or b 2 0) start b)) ≡ c → Payload b start (cond c (take 504 (drop 4 b)) [])
    go true e = bytes_4_to_507 ((alone_exactly b start).0 e)
    go false e = empty_part (fails (alone_exactly b start) e)
