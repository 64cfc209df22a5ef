-- How long blocks and payloads are, blocks behind others, and which check a packed block has.
use Rattle.std.specs.Prelude.{ℕ, zero, suc, ◌+◌, ◌-◌, ◌*◌, ◌/◌, ◌%◌, ◌≤◌, ◌<◌, ◌≡◌, refl, List, [], ◌∷◌, ◌++◌, length, take, drop, get_or, replicate}
use Rattle.std.proofs.Common.{ap₂, ◌∙◌, arith, mod-eq_of_lt, add-one, length-append, length-take, length-drop, shr-shr, get_or-append-add}
use Rattle.std.specs.Int.Bits.{bit_xor}
use Rattle.std.proofs.lemmas.List.{length-replicate}
use Rattle.std.proofs.Math.Seq.{drop-append-add}
use Rattle.rules.specs.Records.{word}
use Rattle.rules.specs.Blocks.{multiplied, fnv1a, word32, check_of, block, start_of, bytes32, checked, filled, packed_block, packed_blocks, packed, payloads, unpacked}

-- FNV-1a gives numbers of 32 bits: of no bytes at all where it starts from one, of some bytes always
pub fnv1a_small : (h : ℕ) (s : List ℕ) → h < 4294967296 → fnv1a h s < 4294967296
unfolding fnv1a multiplied
fnv1a_small h [] l = l
fnv1a_small h (b ∷ bs) l = fnv1a_small (multiplied (bit_xor b h)) bs (omega arith)

pub fnv1a_of_some : (h : ℕ) (s : List ℕ) → 1 ≤ length s → fnv1a h s < 4294967296
unfolding fnv1a multiplied
fnv1a_of_some h [] l = absurd (omega arith)
fnv1a_of_some h (b ∷ bs) l = fnv1a_small (multiplied (bit_xor b h)) bs (omega arith)

pub block_whole : (s : List ℕ) (n : ℕ) → 512 * n + 512 ≤ length s → length (block s n) ≡ 512
unfolding block
block_whole s n l = simp (length-take, length-drop) (omega arith)

-- blocks behind others
pub block_behind : (x y : List ℕ) (k m n : ℕ) → length x ≡ 512 * k → m ≡ k + n → block (x ++ y) m ≡ block y n
unfolding block
block_behind x y k m n l e =
    let f : 512 * m ≡ length x + 512 * n = omega arith in
    rw (f, drop-append-add x y (512 * n))

-- the check of a block that has one before it starts from that one's
pub start_later : (s : List ℕ) (n m : ℕ) → n ≡ m + 1 → check_of (block s m) ≡ start_of s n
unfolding start_of
start_later s n m e = rw (e, add-one m)

pub filled_length : (p : List ℕ) → length p ≤ 504 → length (filled p) ≡ 504
unfolding filled
filled_length p l = length-append p (replicate (504 - length p) 0) ∙ simp length-replicate (omega arith)

-- bytes 0 to 507 of a packed block
abbrev pub unchecked : ℕ → ℕ → List ℕ → List ℕ
unchecked kind n p = (n % 256 ∷ n / 256 % 256 ∷ kind ∷ 0 ∷ []) ++ filled p

pub unchecked_length : (kind n : ℕ) (p : List ℕ) → length p ≤ 504 → length (unchecked kind n p) ≡ 508
unchecked_length kind n p l = omega (arith, filled_length p l)

pub bytes32_length : (n : ℕ) → length (bytes32 n) ≡ 4
unfolding bytes32
bytes32_length n = refl

pub block_length : (kind start n : ℕ) (p : List ℕ) → length p ≤ 504 → length (packed_block kind start n p) ≡ 512
unfolding packed_block checked
block_length kind start n p l =
    let b : List ℕ = unchecked kind n p in
    length-append b (bytes32 (fnv1a start b)) ∙ omega (arith, unchecked_length kind n p l, bytes32_length (fnv1a start b))

pub blocks_length : (kind k start n : ℕ) (p : List ℕ) → length (packed_blocks kind k start n p) ≡ 512 * k
unfolding packed_blocks
blocks_length kind zero start n p = refl
blocks_length kind (suc k) start n p =
    let b : List ℕ = packed_block kind start n (take 504 p) in
    length-append b (packed_blocks kind k (check_of b) (suc n) (drop 504 p))
    ∙ ap₂ ◌+◌ (block_length kind start n (take 504 p) (rw length-take (omega arith))) (blocks_length kind k (check_of b) (suc n) (drop 504 p))
    ∙ omega arith

pub packed_length : (kind : ℕ) (p : List ℕ) → length (packed kind p) ≡ 512 * ((length p + 503) / 504)
unfolding packed
packed_length kind p = blocks_length kind ((length p + 503) / 504) _ 0 p

pub payloads_length : (k : ℕ) (s : List ℕ) → 512 * k ≤ length s → length (payloads k s) ≡ 504 * k
unfolding payloads
payloads_length zero s l = refl
payloads_length (suc k) s l =
    let a : length (take 504 (drop 4 s)) ≡ 504 = simp (length-take, length-drop) (omega arith) in
    length-append (take 504 (drop 4 s)) (payloads k (drop 512 s)) ∙ ap₂ ◌+◌ a (payloads_length k (drop 512 s) (rw length-drop (omega arith))) ∙ omega arith

pub unpacked_length : (s : List ℕ) → length (unpacked s) ≡ 504 * (length s / 512)
unfolding unpacked
unpacked_length s = payloads_length (length s / 512) s (omega arith)

past : (b c : List ℕ) (n k : ℕ) → length b ≡ n → get_or (b ++ c) (n + k) 0 ≡ get_or c k 0
past b c n k l = rw (← l) (get_or-append-add b c k 0)

-- four digits of base 256 give a number of 32 bits back
digits : (h : ℕ) → h < 4294967296 → h % 256 + 256 * (h / 256 % 256) + 65536 * (h / 65536 % 256 + 256 * (h / 16777216 % 256)) ≡ h
digits h m =
    let c : h / 16777216 < 256 = omega arith in
    let d : h / 16777216 % 256 ≡ h / 16777216 = mod-eq_of_lt c in
    omega (arith, shr-shr h 8 8, shr-shr h 16 8)

word32_at : (b : List ℕ) (h : ℕ) → length b ≡ 508 → h < 4294967296 → word32 (b ++ bytes32 h) 508 ≡ h
unfolding word32 word bytes32
word32_at b h l m = omega (arith, past b (bytes32 h) 508 0 l, past b (bytes32 h) 508 1 l, past b (bytes32 h) 508 2 l, past b (bytes32 h) 508 3 l, digits h m)

-- the check that a checked block has is that of the bytes before it
pub check_of_checked : (start : ℕ) (b : List ℕ) → length b ≡ 508 → check_of (checked start b) ≡ fnv1a start b
unfolding check_of checked
check_of_checked start b l = word32_at b (fnv1a start b) l (fnv1a_of_some start b (omega arith))

pub check_of_packed : (kind start n : ℕ) (p : List ℕ) → length p ≤ 504 → check_of (packed_block kind start n p) ≡ fnv1a start (unchecked kind n p)
unfolding packed_block
check_of_packed kind start n p l = check_of_checked start (unchecked kind n p) (unchecked_length kind n p l)
