-- Laws of FNV-1a for its loops: what is left to hash, from the present value, is the hash of the whole. The length is n, which a loop over
-- several lists of one length tests for all of them.
use Prim.Native.Nat.{ℕ, ◌+◌, ◌≤◌, ◌<◌}
use mathlib.Core.List.{List}
use mathlib.Core.Path.{◌≡◌, sym, ◌∙◌}
use native.Mathlib.Numerals.{add-one}
use native.Mathlib.Omega.{arith}
use lib.Bits.{bit_xor, xor_comm}
use lib.ListN.{length, get_or, drop, drop_of_length-le}
use lib.Seq.{drop-cons}
use Rattle.rules.specs.Blocks.{multiplied, fnv1a}

-- the code has the value first in the xor, the definition the byte
fnv_turn : (h : ℕ) (s : List ℕ) (i : ℕ) → i < length s → fnv1a (multiplied (bit_xor h (get_or s i 0))) (drop (i + 1) s) ≡ fnv1a h (drop i s)
unfolding fnv1a
fnv_turn h s i l = rw (add-one, drop-cons s i 0 l, xor_comm h (get_or s i 0))

fnv_end : (h : ℕ) (s : List ℕ) (i : ℕ) → length s ≤ i → fnv1a h (drop i s) ≡ h
unfolding fnv1a
fnv_end h s i l = rw (drop_of_length-le s l)

module _ (s : List ℕ) (n : ℕ) (long : length s ≡ n) (h i whole : ℕ) (left : fnv1a h (drop i s) ≡ whole) where
  pub fnv_next : (next : ℕ) → i < n → next ≡ multiplied (bit_xor h (get_or s i 0)) → fnv1a next (drop (i + 1) s) ≡ whole
  fnv_next next l e = let z : i < length s = omega arith in rw e (fnv_turn h s i z ∙ left)

  pub fnv_done : n ≤ i → h ≡ whole
  fnv_done l = let z : length s ≤ i = omega arith in sym (fnv_end h s i z) ∙ left
