-- What XML 1.0 admits: the bits of one number of a set; a set of which nothing else is kept; and a character above what a set tells apart.
use Prim.Native.Nat.{ℕ, ◌+◌, ◌*◌, ◌/◌, ◌%◌, ◌≤◌, ◌<◌}
use mathlib.Core.Path.{◌≡◌, ap, ap₂, sym, ◌∙◌}
use mathlib.Core.List.{List}
use mathlib.Core.Bool.{true, false, ◌&&◌, and_comm, or-true}
use native.Mathlib.Omega.{arith}
use Rattle.std.proofs.lemmas.Grind.{common_steps}
use native.Mathlib.Nat.{zero-div}
use lib.Bits.{bit_and, bit_or}
use lib.Dec.{ltb}
use lib.ListN.{length, get_or, set}
use lib.Seq.{get_or-set_same, get_or-set_other}
use borrow.Author.Tests.{le-ltb, le-leb}
use Rattle.rules.specs.Lexeme.{within, is_xml_char}
use Rattle.lexeme.specs.Sets.{bit_at, is_in, XmlKept}
use Rattle.lexeme.proofs.BitLaws.{bit_or_lem, bit_and_lem}

-- from the space on it admits all that a set tells apart
from_space : (x : ℕ) → 0x20 ≤ x → x < 2048 → true ≡ is_xml_char x
unfolding is_xml_char
from_space x l m = rw (le-leb 0x20 x l, le-leb x 0xd7ff (omega arith), or-true)

-- the bits of number w, of its characters below j
pub record XmlBits (w bits j : ℕ) : Type 0 where
  pub each : (i : ℕ) → i < 16 → bit_at bits i ≡ (ltb i j && is_xml_char (16 * w + i))

pub bits_start : (w : ℕ) → XmlBits w 0 0
unfolding bit_at
bits_start w = record { each = λ i l. rw (zero-div, le-ltb i 0 (omega arith)) }

module _ (w bits j : ℕ) (inv : XmlBits w bits j) (l : j < 16) where
  pub bits_turn : (m : ℕ) → ((i : ℕ) → i < 16 → bit_at m i ≡ within (16 * w + j) (16 * w + j) (16 * w + i)) → is_xml_char (16 * w + j) ≡ true → XmlBits w (bit_or bits m) (j + 1)
  bits_turn m h e = record { each = λ i k. let f : i ≡ j → is_xml_char (16 * w + i) ≡ true = λ q. rw (q, e) in bit_or_lem bits m i ∙ grind (arith, common_steps) }

  pub bits_skip : is_xml_char (16 * w + j) ≡ false → XmlBits w bits (j + 1)
  bits_skip e = record { each = λ i k. let f : i ≡ j → is_xml_char (16 * w + i) ≡ false = λ q. rw (q, e) in grind (arith, common_steps) }

-- one number of a set
pub keep_number : (before : List ℕ) (w m : ℕ) → w < length before → ((j : ℕ) → j < 16 → bit_at m j ≡ is_xml_char (16 * w + j)) → XmlKept w before (set before w (bit_and (get_or before w 0) m))
unfolding is_in
keep_number before w m l bits = record {
  here = λ x e.
      let f : 16 * w + x % 16 ≡ x = omega arith in
      ap (λ (n : ℕ). bit_at (get_or (set before w (bit_and (get_or before w 0) m)) n 0) (x % 16)) e
      ∙ ap (λ (n : ℕ). bit_at n (x % 16)) (get_or-set_same before w (bit_and (get_or before w 0) m) 0 l)
      ∙ bit_and_lem (get_or before w 0) m (x % 16)
      ∙ and_comm (bit_at (get_or before w 0) (x % 16)) (bit_at m (x % 16))
      ∙ ap₂ ◌&&◌ (bits (x % 16) (omega arith) ∙ ap is_xml_char f) (ap (λ (n : ℕ). bit_at (get_or before n 0) (x % 16)) (sym e));
  other = λ x d. ap (λ (n : ℕ). bit_at n (x % 16)) (get_or-set_other before w (x / 16) (bit_and (get_or before w 0) m) 0 d);
}

-- the first two numbers, and so the set
pub keep_set : (set₀ set₁ set₂ : List ℕ) → XmlKept 0 set₀ set₁ → XmlKept 1 set₁ set₂ → (x : ℕ) → x < 2048 → is_in set₂ x ≡ (is_xml_char x && is_in set₀ x)
keep_set set₀ set₁ set₂ a b x l = let f : 32 ≤ x → true ≡ is_xml_char x = λ m. from_space x m l in grind (arith, common_steps)
