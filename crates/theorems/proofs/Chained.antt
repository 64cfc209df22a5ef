-- "A block from another upload" (02 b): what it means that the check of each block starts from the check of the block before it. Streams
-- with the old checks are refused, but for those that are right by chance; and so are blocks of two streams that were joined.
-- Goes on from specs/Chained.antt: what rests on definitions that a must-fail edit changes.
use Rattle.std.specs.Prelude.{◌≡◌}
use Rattle.std.proofs.Math.Path.{refl, ap}
use Rattle.std.proofs.Common.{sym, subst, ◌∙◌, add-one, length-append, length-take, length-drop, length-take-le, drop-drop}
use Prim.Native.Nat.{ℕ, zero, suc, ◌+◌, ◌-◌, ◌*◌, ◌/◌, ◌≤◌, ◌<◌}
use mathlib.Core.List.{List}
use Rattle.std.proofs.Math.Option.{Option, none, some}
use native.Mathlib.Omega.{arith}
use Rattle.std.proofs.Math.ListN.{length, take, drop}
use Rattle.std.proofs.Math.Seq.{take-append-le, take-take}
use Rattle.std.proofs.lemmas.List.{drop-append-le}
use Rattle.rules.specs.Blocks.{fnv_start, check_of, block, start_of, stream_blocks}
use Rattle.laws.specs.Blocks.{fnv1a_of_some, block_whole, block_behind, start_later}
use Rattle.laws.specs.Lists.{drop_take}
use Rattle.laws.specs.Orders.{Order, less, same, more, order}
use Rattle.theorems.specs.Streams.{WellSized, RightFrom, RightBlock, blocks_exactly}
use Rattle.theorems.specs.Accepted.{RightBlocks}
use Rattle.theorems.specs.Least.{first_is}
use Rattle.theorems.proofs.FirstOffending.{first_block}
use Rattle.theorems.specs.Starts.{same_start}
use Rattle.theorems.specs.Chained.{RightByOldRule, ByChance, OldChecks, joined, Joined}

-- The check of a right block is a number of 32 bits, whatever it starts from.
some_bytes : (s : List ℕ) (n : ℕ) → n < length s / 512 → 1 ≤ length (take 508 (block s n))
some_bytes s n l = let w = block_whole s n (omega arith) in simp length-take (omega arith)

check_small : (start kind : ℕ) (s : List ℕ) (n : ℕ) → n < length s / 512 → RightFrom start kind s n → check_of (block s n) < 4294967296
check_small start kind s n l r = rw r.check_right (fnv1a_of_some start (take 508 (block s n)) (some_bytes s n l))

-- Two starts that one block is right from are the same
one_start : (h k kind : ℕ) (s : List ℕ) (n : ℕ) → h < 4294967296 → k < 4294967296 → RightFrom h kind s n → RightFrom k kind s n → h ≡ k
one_start h k kind s n l m r q = same_start (take 508 (block s n)) h k l m (sym r.check_right ∙ q.check_right)

-- A right block is right in another stream too, under the same number and from the same start
right_alike : (h k kind : ℕ) (s t : List ℕ) (n : ℕ) → k ≡ h → block t n ≡ block s n → RightFrom h kind s n → RightFrom k kind t n
right_alike h k kind s t n d e r = record {
  number_right = rw e r.number_right;
  kind_right = rw e r.kind_right;
  byte3_right = rw e r.byte3_right;
  check_right = rw (d, e) r.check_right;
}

-- The first wrong block is the one that is refused
first_wrong : (kind : ℕ) (s : List ℕ) (n : ℕ) → n < length s / 512 → ((m : ℕ) → m < n → RightBlock kind s m) → (RightBlock kind s n → ⊥) → stream_blocks kind s ≡ some n
first_wrong kind s n l before wrong = first_is _ (first_block kind s) n (record { a_block = l; wrong = wrong }) λ m b w. w.wrong (before m b)

module _ (kind : ℕ) (s : List ℕ) (old : RightByOldRule kind s) where
  -- a block whose check starts from 2166136261 is right
  right_from_first : (n : ℕ) → n < length s / 512 → ((m : ℕ) → m + 1 ≡ n → check_of (block s m) ≡ 2166136261) → RightBlock kind s n
  unfolding start_of fnv_start
  right_from_first zero l so = old zero l
  right_from_first (suc n) l so = right_alike _ _ kind s s (suc n) (so n (omega arith)) refl (old (suc n) l)

  -- and no other
  first_from_right : (n : ℕ) → suc n < length s / 512 → RightBlock kind s (suc n) → check_of (block s n) ≡ 2166136261
  unfolding start_of
  first_from_right n l r =
      one_start (check_of (block s n)) 2166136261 kind s (suc n) (check_small 2166136261 kind s n (omega arith) (old n (omega arith))) (omega arith) r (old (suc n) l)

  by_chance_right : ByChance s → RightBlocks kind s
  by_chance_right c n l = right_from_first n l λ m e. c m (omega arith)

  right_by_chance : RightBlocks kind s → ByChance s
  right_by_chance r n l = first_from_right n (omega arith) (r (suc n) (omega arith))

  refused_after : (n : ℕ) → n + 1 < length s / 512 → ((m : ℕ) → m < n → check_of (block s m) ≡ 2166136261) → (check_of (block s n) ≡ 2166136261 → ⊥)
      → stream_blocks kind s ≡ some (n + 1)
  refused_after n l before other =
      rw (add-one n)
      (first_wrong kind s (suc n) (omega arith) (λ m a. right_from_first m (omega arith) λ q e. before q (omega arith)) (λ r. other (first_from_right n (omega arith) r)))

  some_refused : (ByChance s → ⊥) → (o : Option ℕ) → stream_blocks kind s ≡ o → (n : ℕ) × (o ≡ some n)
  some_refused other none e = absurd (other (right_by_chance ((blocks_exactly kind s).0 e)))
  some_refused other (some n) e = (n, refl)

pub old_checks : (kind : ℕ) (s : List ℕ) → RightByOldRule kind s → OldChecks kind s
old_checks kind s old = record {
  meets_2 = λ other. some_refused kind s old other (stream_blocks kind s) refl;
  at_the_block_after = refused_after kind s old;
  by_chance = by_chance_right kind s old;
  only_by_chance = right_by_chance kind s old;
}

module _ (k : ℕ) (s t : List ℕ) (a : k ≤ length s / 512) (b : k < length t / 512) where
  first_part : length (take (512 * k) s) ≡ 512 * k
  first_part = length-take-le (512 * k) s (omega arith)

  joined_length : length (joined k s t) ≡ length t
  joined_length = length-append (take (512 * k) s) (drop (512 * k) t) ∙ rw (first_part, length-drop) (omega arith)

  joined_before : (n : ℕ) → n < k → block (joined k s t) n ≡ block s n
  unfolding block
  joined_before n l =
      let x : List ℕ = take (512 * k) s in
      let y : List ℕ = drop (512 * k) t in
      let w : length x ≡ 512 * k = first_part in
      let e : 512 * k ≡ 512 * n + (512 * k - 512 * n) = omega arith in
      let m : length (drop (512 * n) x) ≡ 512 * k - 512 * n = rw (length-drop, w) in
      ap (take 512) (drop-append-le (512 * n) x y (omega arith))
      ∙ take-append-le 512 (drop (512 * n) x) y (omega arith)
      ∙ ap (λ (i : ℕ). take 512 (drop (512 * n) (take i s))) e
      ∙ ap (take 512) (drop_take (512 * n) (512 * k - 512 * n) s)
      ∙ take-take 512 (512 * k - 512 * n) (drop (512 * n) s) (omega arith)

  joined_after : (n : ℕ) → k ≤ n → block (joined k s t) n ≡ block t n
  unfolding block
  joined_after n l =
      let e : 512 * k + 512 * (n - k) ≡ 512 * n = omega arith in
      block_behind (take (512 * k) s) (drop (512 * k) t) k n (n - k) first_part (omega arith) ∙ rw (drop-drop (512 * (n - k)) (512 * k) t, e)

  -- what the checks of its blocks start from: up to the joint as in the one stream, after it as in the other
  start_before : (n : ℕ) → n ≤ k → start_of (joined k s t) n ≡ start_of s n
  unfolding start_of
  start_before zero l = refl
  start_before (suc n) l = ap check_of (joined_before n (omega arith))

  start_after_lem : (n : ℕ) → k < n → start_of (joined k s t) n ≡ start_of t n
  unfolding start_of
  start_after_lem zero l = absurd (omega arith)
  start_after_lem (suc n) l = ap check_of (joined_after n (omega arith))

start_small : (kind : ℕ) (s : List ℕ) (n : ℕ) → RightBlocks kind s → n ≤ length s / 512 → start_of s n < 4294967296
unfolding start_of fnv_start
start_small kind s zero r l = omega arith
start_small kind s (suc n) r l = check_small _ kind s n (omega arith) (r n (omega arith))

module _ (kind k : ℕ) (s t : List ℕ) (rs : RightBlocks kind s) (rt : RightBlocks kind t) (a : k ≤ length s / 512) (b : k < length t / 512) where
  -- the blocks before the joint are right, as they are in the one stream, and those after it, as they are in the other
  right_before : (n : ℕ) → n < k → RightBlock kind (joined k s t) n
  right_before n l = right_alike _ _ kind s _ n (start_before k s t a b n (omega arith)) (joined_before k s t a b n l) (rs n (omega arith))

  right_after : (n : ℕ) → k < n → n < length t / 512 → RightBlock kind (joined k s t) n
  right_after n l m = right_alike _ _ kind t _ n (start_after_lem k s t a b n l) (joined_after k s t a b n (omega arith)) (rt n m)

  -- the block at the joint is the other's and starts as the one's
  right_at : start_of s k ≡ start_of t k → RightBlock kind (joined k s t) k
  right_at e = right_alike _ _ kind t _ k (start_before k s t a b k (omega arith) ∙ e) (joined_after k s t a b k (omega arith)) (rt k b)

  same_at : RightBlock kind (joined k s t) k → start_of s k ≡ start_of t k
  same_at r =
      one_start (start_of s k) (start_of t k) kind t k (start_small kind s k rs a) (start_small kind t k rt (omega arith))
      (right_alike _ _ kind (joined k s t) t k (sym (start_before k s t a b k (omega arith))) (sym (joined_after k s t a b k (omega arith))) r)
      (rt k b)

  right_all : start_of s k ≡ start_of t k → RightBlocks kind (joined k s t)
  right_all e n l = go (order n k)
    where
      go : Order n k → RightBlock kind (joined k s t) n
      go (less m) = right_before n m
      go (same o) = subst (λ (m : ℕ). RightBlock kind (joined k s t) m) (sym o) (right_at e)
      go (more m) = right_after n m (rw (joined_length k s t a b) at l)

-- What the server did. (Of the one stream's length nothing is asked but that it has k blocks.)
pub joined_refused : (kind k : ℕ) (s t : List ℕ) → RightBlocks kind s → WellSized t → RightBlocks kind t → 1 ≤ k → k ≤ length s / 512 → k < length t / 512 → Joined kind k s t
joined_refused kind k s t rs w rt o a b =
    let e : length (joined k s t) ≡ length t = joined_length k s t a b in
    let l : k < length (joined k s t) / 512 = rw e b in
    let d : (x : List ℕ) → check_of (block x (k - 1)) ≡ start_of x k = λ x. start_later x k (k - 1) (omega arith) in
    record {
      right_length = record { some_bytes = rw e w.some_bytes; at_most = rw e w.at_most; whole_blocks = rw e w.whole_blocks };
      right_exactly = rw (d s, d t) (λ r. same_at kind k s t rs rt a b (r k l), right_all kind k s t rs rt a b);
      refused_at = rw (d s, d t) λ other.
          first_wrong kind (joined k s t) k l (right_before kind k s t rs rt a b) (λ r. other (same_at kind k s t rs rt a b r));
    }
