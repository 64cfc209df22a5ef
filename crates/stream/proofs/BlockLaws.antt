-- Laws of a single block and of the search for a block that is not right.
use Prim.Native.Nat.{ℕ, suc, ◌+◌, ◌-◌, ◌*◌, min, ◌<◌, ◌≤◌}
use mathlib.Core.List.{List, [], ◌∷◌}
use mathlib.Core.Bool.{Bool, true, false, not, ◌&&◌}
use mathlib.Core.Option.{Option, none, some}
use mathlib.Core.Path.{◌≡◌, refl, ap, sym, ◌∙◌}
use native.Mathlib.Omega.{arith}
use borrow.Author.Tests.{eqb-true, not-true, not-false}
use lib.Dec.{eqb}
use lib.ListN.{length, take, drop, get_or, length-take, length-drop}
use Rattle.rules.specs.Faults.{need, both, every}
use Rattle.rules.specs.Records.{heads, row}
use Rattle.rules.specs.Blocks.{fnv_start, fnv1a, is_kind, sound, block_payload, block, start_of, block_right}
use Rattle.laws.specs.Faults.{and_true}
use Rattle.stream.specs.Block.{sound_by}
use Rattle.stream.specs.Fault.{fault_of, fault_from}
use Rattle.std.specs.Prelude.{Result, Ok, Err}

-- what a fault in hand says of the check that it answers
pub found : {T : Type 0} (f : Result T ℕ) (x : Option ℕ) (place : ℕ) → fault_of f ≡ x → f ≡ Err place → x ≡ some place
found f x place e g = sym e ∙ ap fault_of g

pub unfound : {T : Type 0} (f : Result T ℕ) (x : Option ℕ) (t : T) → fault_of f ≡ x → f ≡ Ok t → x ≡ none
unfound f x t e g = sym e ∙ ap fault_of g

all_four : (a b c d : Bool) → a && (b && (c && d)) ≡ true → (a ≡ true) × (b ≡ true) × (c ≡ true) × (d ≡ true)
all_four a b c d e = let f = and_true a _ e in let g = and_true b _ f.1 in let h = and_true c d g.1 in (f.0, g.0, h.0, h.1)

-- a block by itself is right, but for its number
abbrev pub is_single : List ℕ → ℕ → Bool
is_single b start = eqb (length b) 512 && (is_kind (get_or b 2 0) && sound (get_or b 2 0) start b)

pub single_length : (b : List ℕ) (start : ℕ) → is_single b start ≡ true → length b ≡ 512
single_length b start e = eqb-true _ _ (and_true _ _ e).0

-- where the payload begins
pub single_begins : (b : List ℕ) (start : ℕ) → is_single b start ≡ true → 4 ≡ min 4 (length (take 504 (drop 4 b)))
single_begins b start e = let l : length b ≡ 512 = single_length b start e in simp (length-take, length-drop) (omega arith)

pub payload_single : (b : List ℕ) (start : ℕ) → is_single b start ≡ true → take 504 (drop 4 b) ≡ block_payload b start
unfolding block_payload
payload_single b start e = rw e

pub payload_none : (b : List ℕ) (start : ℕ) → is_single b start ≡ false → [] ≡ block_payload b start
unfolding block_payload
payload_none b start e = rw e

-- where the check that it should have is in hand
pub sound_by_lem : (kind start check : ℕ) (b : List ℕ) → check ≡ fnv1a start (take 508 b) → sound_by kind check b ≡ sound kind start b
unfolding sound
sound_by_lem kind start check b e = ap (λ (h : ℕ). sound_by kind h b) e

-- the part of the stream that the code takes for block n
pub block_part : (s : List ℕ) (n : ℕ) → take (512 * n + 512 - 512 * n) (drop (512 * n) s) ≡ block s n
unfolding block
block_part s n = let z : 512 * n + 512 - 512 * n ≡ 512 = omega arith in rw z

-- where the check of the first block starts
pub start_first : (s : List ℕ) (n : ℕ) → n ≡ 0 → 2166136261 ≡ start_of s n
unfolding start_of fnv_start
start_first s n e = rw e

-- what a test in hand says of the definition that it is equal to
pub told_wrong : (a b : Bool) → a ≡ b → not a ≡ true → b ≡ false
told_wrong a b e t = sym e ∙ not-true a t

pub told_right : (a b : Bool) → a ≡ b → not a ≡ false → b ≡ true
told_right a b e t = sym e ∙ not-false a t

one_more : (k n : ℕ) → n < k → row (k - n) n ≡ n ∷ row (k - (n + 1)) (n + 1)
unfolding row heads
one_more k n l = let z : k - n ≡ suc (k - (n + 1)) = omega arith in rw (z, row, heads)

module _ (kind : ℕ) (s : List ℕ) (k n : ℕ) where
  pub fault_later : n < k → block_right kind s n ≡ true → fault_from kind s k n ≡ fault_from kind s k (n + 1)
  unfolding every need both
  fault_later l e = rw (one_more k n l, every, e)

  fault_next : (m : ℕ) → m ≡ n + 1 → n < k → block_right kind s n ≡ true → fault_from kind s k n ≡ fault_from kind s k m
  fault_next m z l e = rw z (fault_later l e)

  pub fault_here : n < k → block_right kind s n ≡ false → fault_from kind s k n ≡ some n
  unfolding every need both
  fault_here l e = rw (one_more k n l, every, e)

  pub fault_none : k ≤ n → fault_from kind s k n ≡ none
  unfolding every row heads
  fault_none l = let z : k - n ≡ 0 = omega arith in rw z

-- four blocks in a row are right
abbrev four_right : ℕ → List ℕ → ℕ → Bool
four_right kind s n = block_right kind s n && (block_right kind s (n + 1) && (block_right kind s (n + 2) && block_right kind s (n + 3)))

pub fault_after_four : (kind : ℕ) (s : List ℕ) (k n : ℕ) → n + 4 ≤ k → (t : Bool) → t ≡ four_right kind s n → not t ≡ false → fault_from kind s k n ≡ fault_from kind s k (n + 4)
fault_after_four kind s k n l t g h =
    let e = told_right t (four_right kind s n) g h in
    let all = all_four (block_right kind s n) (block_right kind s (n + 1)) (block_right kind s (n + 2)) (block_right kind s (n + 3)) e in
    fault_next kind s k n (n + 1) refl (omega arith) all.0
    ∙ fault_next kind s k (n + 1) (n + 2) (omega arith) (omega arith) all.1
    ∙ fault_next kind s k (n + 2) (n + 3) (omega arith) (omega arith) all.2
    ∙ fault_next kind s k (n + 3) (n + 4) (omega arith) (omega arith) all.3
