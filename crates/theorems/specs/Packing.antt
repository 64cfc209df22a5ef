-- "blocks packed and unpacked return the same records, with zero fill at most after them" (demand 2): a packed stream meets neither 1 nor 2,
-- and unpacking it gives the payload, zero-filled.
use Rattle.std.specs.Prelude.{◌≡◌, refl, ℕ, zero, suc, ◌+◌, ◌-◌, ◌*◌, ◌/◌, ◌≤◌, ◌<◌, List, [], ◌∷◌, ◌++◌, Bool, true, false, leb, length, take, drop, replicate}
use Rattle.std.proofs.Common.{ap, ap₂, sym, ◌∙◌, append_assoc, append-nil, arith, add-zero, zero-add, le-leb, leb-true, leb-false, length-append, length-take, length-drop, take-append-drop, drop_of_length-le, length-take-le, take_at, drop_at, take_all, drop-drop}
use Rattle.std.proofs.Math.Option.{Option, none, some, none-ne-some, some-injective}
use Rattle.std.proofs.Math.Nat.{sub-zero}
use Rattle.std.proofs.lemmas.List.{length-replicate, replicate-append-replicate}
use Rattle.std.proofs.Math.Seq.{take-append_seam}
use Rattle.rules.specs.Records.{word}
use Rattle.rules.specs.Blocks.{fnv_start, fnv1a, check_of, is_kind, stream_length, block, start_of, stream_blocks, checked, filled, packed_block, packed_blocks, packed, payload_length, payloads, unpacked}
use Rattle.rules.specs.Answers.{answer, try, accept, pack_refusal, unpack_refusal, Written, written, pack, unpack}
use Rattle.rules.specs.declared.Answer.{Answer}
use Rattle.laws.specs.Blocks.{block_behind, filled_length, unchecked, unchecked_length, block_length, packed_length, check_of_packed}
use Rattle.laws.specs.Faults.{need_iff, both_iff, and_iff, leb_iff, placed_iff, try_iff}
use Rattle.theorems.specs.Streams.{length_exactly, RightBlock, blocks_exactly}

-- the check that a packed block has is that of its bytes 0 to 507
check_at : (kind start n : ℕ) (p : List ℕ) → length p ≤ 504 → check_of (packed_block kind start n p) ≡ fnv1a start (take 508 (packed_block kind start n p))
unfolding packed_block checked
check_at kind start n p l =
    check_of_packed kind start n p l ∙ ap (fnv1a start) (sym (take_at (unchecked kind n p) _ 508 (unchecked_length kind n p l)))

-- the first block of a row of blocks, and those after it
block_first : (b r : List ℕ) → length b ≡ 512 → block (b ++ r) 0 ≡ b
unfolding block
block_first b r l = take_at b r 512 l

block_later : (b r : List ℕ) (i : ℕ) → length b ≡ 512 → block (b ++ r) (suc i) ≡ block r i
block_later b r i l = block_behind b r 1 (suc i) i l (omega arith)

-- the number that the check of block i of a row of blocks starts from; that of the first is given
start_after : ℕ → List ℕ → ℕ → ℕ
start_after start s zero = start
start_after start s (suc i) = check_of (block s i)

start_later : (start : ℕ) (b r : List ℕ) (i : ℕ) → length b ≡ 512 → start_after (check_of b) r i ≡ start_after start (b ++ r) (suc i)
unfolding start_after
start_later start b r zero l = ap check_of (sym (block_first b r l))
start_later start b r (suc i) l = ap check_of (sym (block_later b r i l))

start_of_stream : (s : List ℕ) (i : ℕ) → start_after fnv_start s i ≡ start_of s i
unfolding start_after start_of
start_of_stream s zero = refl
start_of_stream s (suc i) = refl

-- block i of packed blocks that are numbered from n on
block_of_packed : (kind k start n : ℕ) (p : List ℕ) (i : ℕ) → i < k
    → block (packed_blocks kind k start n p) i ≡ packed_block kind (start_after start (packed_blocks kind k start n p) i) (n + i) (take 504 (drop (504 * i) p))
unfolding packed_blocks start_after
block_of_packed kind zero start n p i l = absurd (omega arith)
block_of_packed kind (suc k) start n p zero l =
    rw add-zero (block_first (packed_block kind start n (take 504 p)) _ (block_length kind start n (take 504 p) (rw length-take (omega arith))))
block_of_packed kind (suc k) start n p (suc i) l =
    let b : List ℕ = packed_block kind start n (take 504 p) in
    let r : List ℕ = packed_blocks kind k (check_of b) (suc n) (drop 504 p) in
    let z : length b ≡ 512 = block_length kind start n (take 504 p) (rw length-take (omega arith)) in
    let d : 504 + 504 * i ≡ 504 * suc i = omega arith in
    let m : suc n + i ≡ n + suc i = omega arith in
    block_later b r i z
    ∙ block_of_packed kind k (check_of b) (suc n) (drop 504 p) i (omega arith)
    ∙ rw (start_later start b r i z, m, drop-drop (504 * i) 504 p, d)

-- a packed block has nothing wrong
right_block : (kind n : ℕ) (s p : List ℕ) → block s n ≡ packed_block kind (start_of s n) n p → length p ≤ 504 → n < 65536 → RightBlock kind s n
unfolding packed_block checked word
right_block kind n s p e l m =
    record { number_right = rw e (omega arith); kind_right = rw e; byte3_right = rw e; check_right = rw e (check_at kind (start_of s n) n p l) }

-- the number of blocks of a payload, and of the zeros after it
abbrev pub block_count : List ℕ → ℕ
block_count payload = (length payload + 503) / 504

abbrev pub fill_count : List ℕ → ℕ
fill_count payload = 504 * block_count payload - length payload

-- "with zero fill at most after them": less than a block's payload
pub fill_small : (payload : List ℕ) → fill_count payload < 504
fill_small payload = omega arith

-- "a multiple of 8 bytes, 8 to 64,512"
legal_length : (payload : List ℕ) → payload_length payload ≡ none → (8 ≤ length payload) × (length payload ≤ 64512)
unfolding payload_length
legal_length payload e =
    let h = (and_iff _ _).0 ((need_iff {A = ℕ} _ 0).0 e) in
    ((leb_iff 8 (length payload)).0 h.0, (leb_iff (length payload) 64512).0 ((and_iff _ _).0 h.1).0)

-- a packed stream meets neither 1 nor 2
pub packed_meets_neither : (kind : ℕ) (payload : List ℕ) → payload_length payload ≡ none
    → (stream_length (packed kind payload) ≡ none) × (stream_blocks kind (packed kind payload) ≡ none)
unfolding packed
packed_meets_neither kind payload e =
    let r = legal_length payload e in
    let a : 8 ≤ length payload = r.0 in
    let b : length payload ≤ 64512 = r.1 in
    let n : length (packed kind payload) ≡ 512 * block_count payload = packed_length kind payload in (
      (length_exactly (packed kind payload)).1 (record { some_bytes = omega arith; at_most = omega arith; whole_blocks = rw n (omega arith) }),
      (blocks_exactly kind (packed kind payload)).1 λ i l.
          right_block kind i (packed kind payload) (take 504 (drop (504 * i) payload))
          (block_of_packed kind (block_count payload) fnv_start 0 payload i (omega arith) ∙ rw (start_of_stream, zero-add)) (rw length-take (omega arith)) (omega arith),
    )

payload_of_block : (kind start n : ℕ) (p r : List ℕ) → length p ≤ 504 → take 504 (drop 4 (packed_block kind start n p ++ r)) ≡ filled p
unfolding packed_block checked
payload_of_block kind start n p r l = rw append_assoc (take_at (filled p) _ 504 (filled_length p l))

fill_long : (k : ℕ) (p : List ℕ) → 504 ≤ length p → filled (take 504 p) ++ (drop 504 p ++ replicate (504 * k - length (drop 504 p)) 0) ≡ p ++ replicate (504 * suc k - length p) 0
unfolding filled
fill_long k p l =
    let e : 504 * k - length (drop 504 p) ≡ 504 * suc k - length p = rw length-drop (omega arith) in
    rw (length-take-le 504 p l, append-nil, e, ← append_assoc, take-append-drop)

fill_short : (k : ℕ) (p : List ℕ) → length p < 504 → filled (take 504 p) ++ (drop 504 p ++ replicate (504 * k - length (drop 504 p)) 0) ≡ p ++ replicate (504 * suc k - length p) 0
unfolding filled
fill_short k p l =
    let e : 504 - length p + 504 * k ≡ 504 * suc k - length p = omega arith in
    let d : drop 504 p ≡ [] = drop_of_length-le p {i = 504} (omega arith) in
    rw (take_all 504 p (omega arith), d, append_assoc, sub-zero, replicate-append-replicate {A = ℕ} (504 - length p) (504 * k) 0, e)

fill_more : (k : ℕ) (p : List ℕ) → filled (take 504 p) ++ (drop 504 p ++ replicate (504 * k - length (drop 504 p)) 0) ≡ p ++ replicate (504 * suc k - length p) 0
fill_more k p = go (leb 504 (length p)) refl
  where
    go : (b : Bool) → leb 504 (length p) ≡ b → filled (take 504 p) ++ (drop 504 p ++ replicate (504 * k - length (drop 504 p)) 0) ≡ p ++ replicate (504 * suc k - length p) 0
    go true b = fill_long k p (leb-true 504 (length p) b)
    go false b = fill_short k p (leb-false 504 (length p) b)

payloads_packed : (kind k start n : ℕ) (p : List ℕ) → length p ≤ 504 * k → payloads k (packed_blocks kind k start n p) ≡ p ++ replicate (504 * k - length p) 0
unfolding payloads packed_blocks
payloads_packed kind zero start n [] l = refl
payloads_packed kind zero start n (x ∷ xs) l = absurd (omega arith)
payloads_packed kind (suc k) start n p l =
    let b : List ℕ = packed_block kind start n (take 504 p) in
    let r : List ℕ = packed_blocks kind k (check_of b) (suc n) (drop 504 p) in
    let m : length (take 504 p) ≤ 504 = rw length-take (omega arith) in
    ap₂ ◌++◌ (payload_of_block kind start n (take 504 p) r m)
    (ap (payloads k) (drop_at b r 512 (block_length kind start n (take 504 p) m)) ∙ payloads_packed kind k (check_of b) (suc n) (drop 504 p) (rw length-drop (omega arith)))
    ∙ fill_more k p

-- the round trip of the definitions
pub unpacked_packed : (kind : ℕ) (payload : List ℕ) → unpacked (packed kind payload) ≡ payload ++ replicate (fill_count payload) 0
unfolding unpacked packed
unpacked_packed kind payload =
    let c : length (packed kind payload) / 512 ≡ block_count payload = omega (arith, packed_length kind payload) in
    ap (λ (k : ℕ). payloads k (packed kind payload)) c ∙ payloads_packed kind (block_count payload) fnv_start 0 payload (omega arith)

-- the bytes that a call wrote
abbrev pub bytes_written : Written → List ℕ
bytes_written w = take w.result.bytes w.output

-- a pack call that is not refused wrote the packed stream
pub pack_writes : (kind : ℕ) (payload out : List ℕ) → pack_refusal kind payload out ≡ none → bytes_written (pack kind payload out) ≡ packed kind payload
unfolding pack written answer
pack_writes kind payload out e = rw (e, written) (take-append_seam (packed kind payload) _)

-- what a pack call tried, where it is not refused
pack_tried : (kind : ℕ) (payload out : List ℕ) → pack_refusal kind payload out ≡ none → (payload_length payload ≡ none) × (is_kind kind ≡ true)
unfolding pack_refusal
pack_tried kind payload out e =
    let a = (try_iff 1 _ _).0 e in
    let b = (try_iff 2 _ _).0 a.1 in
    ((placed_iff 0 _).0 a.0, (need_iff {A = ℕ} _ 0).0 ((placed_iff 0 _).0 b.0))

-- an unpack call is not refused where nothing that it tries is wrong
unpack_tries : (kind : ℕ) (s out : List ℕ) → stream_length s ≡ none → is_kind kind ≡ true → stream_blocks kind s ≡ none → length (unpacked s) ≤ length out → unpack_refusal kind s out ≡ none
unfolding unpack_refusal accept
unpack_tries kind s out a b c l =
    (try_iff 1 _ _).1 (
      (placed_iff 0 _).1 a,
      (try_iff 2 _ _).1 (
        (placed_iff 0 _).1 ((both_iff _ _).1 ((need_iff {A = ℕ} _ 0).1 b, c)),
        (try_iff 12 _ _).1 ((placed_iff 0 _).1 ((need_iff {A = ℕ} _ 0).1 (le-leb _ _ l)), refl),
      ),
    )

-- a pack call that answers 0 is not refused: its refusals are 1, 2 and 12
try_number : (n : ℕ) (found : Option (ℕ × ℕ)) (next : Unit {0} → Option Answer) → 1 ≤ n → ((a : Answer) → next tt ≡ some a → 1 ≤ a.number)
    → (a : Answer) → try n found next ≡ some a → 1 ≤ a.number
unfolding try answer
try_number n none next l h a e = h a e
try_number n (some x) next l h a e = rw (sym (some-injective _ a e)) l

pack_number : (kind : ℕ) (payload out : List ℕ) (a : Answer) → pack_refusal kind payload out ≡ some a → 1 ≤ a.number
unfolding pack_refusal accept
pack_number kind payload out =
    try_number 1 _ _ (omega arith) (try_number 2 _ _ (omega arith) (try_number 12 _ _ (omega arith) (λ a e. absurd (none-ne-some a e))))

pack_unrefused : (kind : ℕ) (payload out : List ℕ) → (pack kind payload out).result.number ≡ 0 → pack_refusal kind payload out ≡ none
unfolding pack written
pack_unrefused kind payload out = go (pack_refusal kind payload out) (pack_number kind payload out)
  where
    go : (o : Option Answer) → ((a : Answer) → o ≡ some a → 1 ≤ a.number) → (written o (λ _. packed kind payload) out).result.number ≡ 0 → o ≡ none
    go none h e = refl
    go (some a) h e = absurd (let l : 1 ≤ a.number = h a refl in let z : a.number ≡ 0 = e in omega arith)

-- Of the calls: the stream that a pack call wrote, unpacked into a buffer with room for it
pub record RoundTrip (kind : ℕ) (payload out out' : List ℕ) : Type 0 where
  -- "turns a payload .. into blocks"
  pub pack_answer : (pack kind payload out).result ≡ answer 0 0 0 0 (512 * block_count payload)
  pub unpack_answer : (unpack kind (bytes_written (pack kind payload out)) out').result ≡ answer 0 0 0 0 (504 * block_count payload)
  -- the payload, the fill, and then what the buffer held
  pub unpack_output : (unpack kind (bytes_written (pack kind payload out)) out').output ≡ payload ++ replicate (fill_count payload) 0 ++ drop (504 * block_count payload) out'

pub unpack_of_pack : (kind : ℕ) (payload out out' : List ℕ) → (pack kind payload out).result.number ≡ 0 → 504 * block_count payload ≤ length out'
    → RoundTrip kind payload out out'
unfolding unpack written pack
unpack_of_pack kind payload out out' z l =
    let e = pack_unrefused kind payload out z in
    let s : List ℕ = packed kind payload in
    let w : bytes_written (pack kind payload out) ≡ s = pack_writes kind payload out e in
    let u : unpacked s ≡ payload ++ replicate (fill_count payload) 0 = unpacked_packed kind payload in
    let n : length (unpacked s) ≡ 504 * block_count payload = rw u (length-append payload (replicate (fill_count payload) 0) ∙ simp length-replicate (omega arith)) in
    let t = pack_tried kind payload out e in
    let m = packed_meets_neither kind payload t.0 in
    let r : unpack_refusal kind s out' ≡ none = unpack_tries kind s out' m.0 t.1 m.1 (omega arith) in
    record {
      pack_answer = rw (e, written, packed_length);
      unpack_answer = rw (w, r, written, n);
      unpack_output = rw (w, r, written, n, u, append_assoc);
    }
