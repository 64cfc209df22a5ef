-- Refusals 1 and 2 as statements, and that the checks find no fault exactly where they hold.
use Rattle.std.specs.Prelude.{◌≡◌, refl, ◌↔◌, ℕ, zero, suc, ◌+◌, ◌*◌, ◌/◌, ◌%◌, ◌≤◌, ◌<◌, List, Bool, true, false, length, get_or, take, drop, eqb}
use Rattle.std.proofs.Common.{subst, ◌∙◌, arith, get_or-take, get_or-drop, eqb-true}
use Rattle.std.proofs.Math.Option.{none}
use Rattle.std.proofs.lemmas.Bool.{eqb-false}
use Rattle.rules.specs.Records.{word, row, heads}
use Rattle.rules.specs.Blocks.{fnv1a, fnv_start, word32, check_of, sound, stream_length, block, start_of, block_right, stream_blocks}
use Rattle.laws.specs.Faults.{need_iff, every_in, in_every, and_iff, eqb_iff, leb_iff, In, here, later}

-- 1: "A stream's length is zero, above 65,536 or no multiple of 512." None of these:
pub record WellSized (s : List ℕ) : Type 0 where
  pub some_bytes : 1 ≤ length s
  pub at_most : length s ≤ 65536
  pub whole_blocks : length s % 512 ≡ 0

pub length_exactly : (s : List ℕ) → (stream_length s ≡ none) ↔ WellSized s
unfolding stream_length
length_exactly s = (
  λ e. let h = (and_iff _ _).0 ((need_iff {A = ℕ} _ 0).0 e) in let k = (and_iff _ _).0 h.1 in
      record { some_bytes = (leb_iff _ _).0 h.0; at_most = (leb_iff _ _).0 k.0; whole_blocks = (eqb_iff _ _).0 k.1 },
  λ w. (need_iff {A = ℕ} _ 0).1 ((and_iff _ _).1 ((leb_iff _ _).1 w.some_bytes, (and_iff _ _).1 ((leb_iff _ _).1 w.at_most, (eqb_iff _ _).1 w.whole_blocks))),
)

-- 2: "A block has a wrong number, kind, byte 3 or check". None of these, of block n of a stream of a kind whose check starts from a given number:
pub record RightFrom (start kind : ℕ) (s : List ℕ) (n : ℕ) : Type 0 where
  pub number_right : word (block s n) 0 ≡ n
  pub kind_right : get_or (block s n) 2 0 ≡ kind
  pub byte3_right : get_or (block s n) 3 0 ≡ 0
  pub check_right : check_of (block s n) ≡ fnv1a start (take 508 (block s n))

-- and from the number that the check of block n of the stream starts from (`start_bytes`)
abbrev pub RightBlock : ℕ → List ℕ → ℕ → Type 0
RightBlock kind s n = RightFrom (start_of s n) kind s n

pub block_exactly : (kind : ℕ) (s : List ℕ) (n : ℕ) → (block_right kind s n ≡ true) ↔ RightBlock kind s n
unfolding block_right sound
block_exactly kind s n = (
  λ e. let a = (and_iff _ _).0 e in let b = (and_iff _ _).0 a.1 in let c = (and_iff _ _).0 b.1 in
      record { number_right = (eqb_iff _ _).0 a.0; kind_right = (eqb_iff _ _).0 b.0; byte3_right = (eqb_iff _ _).0 c.0; check_right = (eqb_iff _ _).0 c.1 },
  λ r. (and_iff _ _).1 ((eqb_iff _ _).1 r.number_right, (and_iff _ _).1 ((eqb_iff _ _).1 r.kind_right, (and_iff _ _).1 ((eqb_iff _ _).1 r.byte3_right, (eqb_iff _ _).1 r.check_right))),
)

-- "A stream is 1 to 128 blocks of 512 bytes": byte x of block n. "Bytes 508-511: 32-bit FNV-1a of bytes 0-507, little-endian"
pub block_byte : (s : List ℕ) (n x : ℕ) → x < 512 → get_or (block s n) x 0 ≡ get_or s (512 * n + x) 0
unfolding block
block_byte s n x l = get_or-take 512 (drop (512 * n) s) x 0 l ∙ get_or-drop (512 * n) s x 0

pub check_bytes : (b : List ℕ) → check_of b ≡ get_or b 508 0 + 256 * get_or b 509 0 + 65536 * get_or b 510 0 + 16777216 * get_or b 511 0
unfolding check_of word32 word
check_bytes b = omega arith

-- "The check of each block now starts from the check of the block before it; block 0 still starts from 2166136261." (02 b)
pub start_bytes : (s : List ℕ) → (start_of s 0 ≡ 2166136261)
    × ((n : ℕ) → start_of s (suc n) ≡ get_or s (512 * n + 508) 0 + 256 * get_or s (512 * n + 509) 0 + 65536 * get_or s (512 * n + 510) 0 + 16777216 * get_or s (512 * n + 511) 0)
unfolding start_of fnv_start
start_bytes s = (
  refl,
  λ n. rw (check_bytes (block s n), block_byte s n 508 (omega arith), block_byte s n 509 (omega arith), block_byte s n 510 (omega arith), block_byte s n 511 (omega arith)),
)

-- the numbers in a row
pub row_in : (k p n : ℕ) → p ≤ n → n < p + k → In n (row k p)
unfolding row heads
row_in zero p n a b = absurd (omega arith)
row_in (suc k) p n a b = go (eqb p n) refl (λ c. row_in k (p + 1) n (omega arith) (omega arith))
  where
    go : (c : Bool) → eqb p n ≡ c → ((p ≡ n → ⊥) → In n (row k (p + 1))) → In n (row (suc k) p)
    go true c rest = subst (λ m. In m (row (suc k) p)) (eqb-true p n c) (here _)
    go false c rest = later p _ (rest (eqb-false p n c))

pub in_row : (k p : ℕ) {n : ℕ} → In n (row k p) → (p ≤ n) × (n < p + k)
unfolding row heads
in_row zero p {n = n} x' = elim x' [ ]
in_row (suc k) p (here xs) = (omega arith, omega arith)
in_row (suc k) p (later y xs i) = let r = in_row k (p + 1) i in (omega arith, omega arith)

pub blocks_exactly : (kind : ℕ) (s : List ℕ) → (stream_blocks kind s ≡ none) ↔ ((n : ℕ) → n < length s / 512 → RightBlock kind s n)
unfolding stream_blocks
blocks_exactly kind s = (
  λ e n l. (block_exactly kind s n).0 ((need_iff _ n).0 (every_in _ e (row_in _ 0 n (omega arith) (omega arith)))),
  λ h. in_every _ _ λ n i. (need_iff _ n).1 ((block_exactly kind s n).1 (h n (let r = in_row _ 0 i in omega arith))),
)
