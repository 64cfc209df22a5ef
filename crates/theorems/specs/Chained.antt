-- "A block from another upload" (02 b): what it means that the check of each block starts from the check of the block before it. Streams
-- with the old checks are refused, but for those that are right by chance; and so are blocks of two streams that were joined.
-- (Goes on in proofs/Chained.antt.)
use Rattle.std.specs.Prelude.{◌≡◌, ◌↔◌, get_or}
use Rattle.std.proofs.Math.Path.{refl, ap}
use Rattle.std.proofs.Common.{sym, length-take, length-drop}
use Prim.Native.Nat.{ℕ, zero, suc, ◌+◌, ◌-◌, ◌*◌, ◌/◌, ◌<◌}
use mathlib.Core.List.{List, ◌++◌}
use Rattle.std.proofs.Math.Option.{some}
use native.Mathlib.Omega.{arith}
use Rattle.std.proofs.Math.ListN.{length, take, drop}
use Rattle.rules.specs.Records.{word}
use Rattle.rules.specs.Blocks.{fnv_start, block_payload, check_of, block, start_of, stream_blocks}
use Rattle.laws.specs.Blocks.{block_whole}
use Rattle.theorems.specs.Streams.{WellSized, RightFrom, RightBlock}
use Rattle.theorems.specs.Accepted.{RightBlocks}
use Rattle.theorems.specs.PackCalls.{StreamKind, RightAlone, Payload, bytes_4_to_507, empty_part, payload_answers}

-- The old rule: the check of every block starts from 2166136261.
abbrev pub RightByOldRule : ℕ → List ℕ → Type 0
RightByOldRule kind s = (n : ℕ) → n < length s / 512 → RightFrom 2166136261 kind s n

-- "Streams of one block keep their bytes."
pub one_block_keeps : (kind : ℕ) (s : List ℕ) → length s ≡ 512 → RightBlocks kind s ↔ RightByOldRule kind s
unfolding start_of fnv_start
one_block_keeps kind s e = (λ r n l. go r n l, λ r n l. back r n l)
  where
    go : RightBlocks kind s → (n : ℕ) → n < length s / 512 → RightFrom 2166136261 kind s n
    go r zero l = r zero l
    go r (suc n) l = absurd (omega arith)

    back : RightByOldRule kind s → (n : ℕ) → n < length s / 512 → RightBlock kind s n
    back r zero l = r zero l
    back r (suc n) l = absurd (omega arith)

-- "every block before its last has by chance the check 2166136261"
abbrev pub ByChance : List ℕ → Type 0
ByChance s = (n : ℕ) → n + 1 < length s / 512 → check_of (block s n) ≡ 2166136261

-- a stream whose blocks are right by the old rule, by the new one
pub record OldChecks (kind : ℕ) (s : List ℕ) : Type 0 where
  -- "A longer stream with the old checks meets refusal 2, unless every block before its last has by chance the check 2166136261"
  pub meets_2 : (ByChance s → ⊥) → (n : ℕ) × (stream_blocks kind s ≡ some n)
  -- it does at the block after the first that has another check
  pub at_the_block_after : (n : ℕ) → n + 1 < length s / 512 → ((m : ℕ) → m < n → check_of (block s m) ≡ 2166136261) → (check_of (block s n) ≡ 2166136261 → ⊥)
      → stream_blocks kind s ≡ some (n + 1)
  -- "where old and new are the same bytes"
  pub by_chance : ByChance s → RightBlocks kind s
  pub only_by_chance : RightBlocks kind s → ByChance s

-- "A server once joined blocks of two shows": the first k blocks of one stream, followed by the blocks from k on of another
abbrev pub joined : ℕ → List ℕ → List ℕ → List ℕ
joined k s t = take (512 * k) s ++ drop (512 * k) t

-- two streams that are right, joined after k blocks
pub record Joined (kind k : ℕ) (s t : List ℕ) : Type 0 where
  pub right_length : WellSized (joined k s t)
  -- the joined blocks are right exactly when the two have the same check in block k - 1
  pub right_exactly : RightBlocks kind (joined k s t) ↔ (check_of (block s (k - 1)) ≡ check_of (block t (k - 1)))
  -- else refusal 2 is met at block k, the first of the other stream
  pub refused_at : (check_of (block s (k - 1)) ≡ check_of (block t (k - 1)) → ⊥) → stream_blocks kind (joined k s t) ≡ some k

-- what the single-block call hands back of a whole block, and when
payload_handed : (b : List ℕ) (start : ℕ) → RightAlone b start → block_payload b start ≡ take 504 (drop 4 b)
payload_handed b start r = go (payload_answers b start)
  where
    go : {x : List ℕ} → Payload b start x → x ≡ take 504 (drop 4 b)
    go (bytes_4_to_507 a) = refl
    go (empty_part wrong) = absurd (wrong r)

handed_right : (b : List ℕ) (start : ℕ) → length b ≡ 512 → block_payload b start ≡ take 504 (drop 4 b) → RightAlone b start
handed_right b start w e = go (payload_answers b start) e
  where
    go : {x : List ℕ} → Payload b start x → x ≡ take 504 (drop 4 b) → RightAlone b start
    go (bytes_4_to_507 a) e = a
    go (empty_part wrong) e = absurd (
        let none-there : length (take 504 (drop 4 b)) ≡ 0 = ap length (sym e) in
        let all_there : length (take 504 (drop 4 b)) ≡ 504 = simp (length-take, length-drop) (omega arith) in
        omega arith
        )

-- "The single-block call is now given the starting number." A stream block by block: block n is right exactly when its number is right, which the
-- call does not judge, its kind is the stream's, where the call takes any of the three, and the call, given start_of s n, hands back its payload.
pub block_by_block : (kind : ℕ) (s : List ℕ) (n : ℕ) → StreamKind kind → n < length s / 512
    → RightBlock kind s n ↔ ((word (block s n) 0 ≡ n) × (get_or (block s n) 2 0 ≡ kind) × (block_payload (block s n) (start_of s n) ≡ take 504 (drop 4 (block s n))))
block_by_block kind s n k l = let w = block_whole s n (omega arith) in (
  λ r. (
    r.number_right,
    r.kind_right,
    payload_handed _ _ (record { whole = w; kind_right = rw r.kind_right k; byte3_right = r.byte3_right; check_right = r.check_right }),
  ),
  λ p. let a = handed_right _ _ w p.2 in record { number_right = p.0; kind_right = p.1; byte3_right = a.byte3_right; check_right = a.check_right },
)
