-- A text across blocks: where its bytes lie, and the part of it in one block.
use Rattle.std.specs.Prelude.{ℕ, zero, suc, ◌+◌, ◌-◌, ◌*◌, ◌%◌, min, ◌≤◌, ◌<◌, ◌≡◌, List, [], ◌++◌, cond, length, take, drop, eqb, leb}
use Rattle.stream.specs.declared.text.Text.{Text}

-- the address of the payload byte after the one at an address: byte 507 of a block is followed by byte 4 of the next
unfoldable pub onward : ℕ → ℕ
onward at = cond (eqb (at % 512) 507) (at + 9) (at + 1)

-- n bytes of payload from an address on; those past the end of the stream are left out
unfoldable pub payload_from : List ℕ → ℕ → ℕ → List ℕ
payload_from s zero at = []
payload_from s (suc n) at = take 1 (drop at s) ++ payload_from s n (onward at)

-- the bytes of a text, or of what is left of one
unfoldable pub text_in : List ℕ → Text → List ℕ
text_in s t = payload_from s t.left t.at

-- t is a text with these bytes, and at most n
pub record Begins (s bytes : List ℕ) (n : ℕ) (t : Text) : Type 0 where
  pub text : text_in s t ≡ bytes
  pub most : t.left ≤ n

-- how many bytes of payload a block has from an address on, as far as the check at its byte 508
unfoldable pub room : ℕ → ℕ
room at = 512 - (at + 4) % 512

-- the part of a text in the block of its first byte
unfoldable pub part_of : List ℕ → Text → List ℕ
part_of s t = take (min t.left (room t.at)) (drop t.at s)

-- r is what is left of a text after that part
pub record Rest (s : List ℕ) (t r : Text) : Type 0 where
  pub text : text_in s t ≡ part_of s t ++ text_in s r
  pub falls : 0 < t.left → r.left < t.left
  pub spent : length (part_of s t) + r.left ≤ t.left

-- r is what is left of a text after its first n bytes, if the stream has them
pub record Skips (n : ℕ) (t r : Text) : Type 0 where
  pub text : (s : List ℕ) → n ≤ length (text_in s t) → text_in s r ≡ drop n (text_in s t)
  pub left : r.left + n ≡ t.left
  pub near : r.at ≤ t.at + 9 * n

-- writing a text to the beginning of what is lent: whole or not at all
unfoldable pub with_text : List ℕ → List ℕ → List ℕ
with_text text out = cond (leb (length text) (length out)) (text ++ drop (length text) out) out

-- what is answered where a text was to be written so, and what the output then holds
pub record Copied (text before after : List ℕ) (r : ℕ) : Type 0 where
  pub long : r ≡ length text
  pub written : after ≡ with_text text before
