-- The first bytes of a text in a stream, read in a window.
use Rattle.std.proofs.Common.{◌≡◌, refl, ap, sym, ◌∙◌, ℕ, zero, suc, ◌+◌, ◌-◌, min, ◌≤◌, ◌<◌, Bool, true, false, List, length, take, drop, arith, length-take}
use Rattle.std.specs.Prelude.{Option as Maybe, Some, None}
use Rattle.std.proofs.Math.Seq.{take_all, take_at, take-nil}
use Rattle.std.proofs.Math.Dec.{ltb}
use borrow.Author.Tests.{le-leb, ltb-true, ltb-false}
use Rattle.stream.specs.declared.text.Text.{Text}
use Rattle.stream.specs.Text.{onward, payload_from, text_in, with_text, Copied}
use Rattle.stream.proofs.TextLaws.{payload_past}
use Rattle.stream.proofs.SkipLaws.{payload_cons}
use Rattle.entities.specs.declared.entity.Plain.{Plain}
use Rattle.entities.specs.Entity.{Reads, PlainIn}
use Rattle.entities.proofs.PlainLaws.{plain_of_lem, reads_take}

-- A text of which the stream has a byte begins inside the stream

text_near : (s : List ℕ) (t : Text) → 1 ≤ length (text_in s t) → t.at < length s
unfolding text_in
text_near s t l = go (ltb t.at (length s)) refl
  where
    go : (b : Bool) → ltb t.at (length s) ≡ b → t.at < length s
    go true e = ltb-true _ _ e
    go false e = absurd (omega (arith, ap length (payload_past s t.left t.at (ltb-false _ _ e))))

-- its first n bytes are those of the text of n bytes at its place
payload_first : (s : List ℕ) (n m at : ℕ) → payload_from s n at ≡ take n (payload_from s (n + m) at)
unfolding payload_from
payload_first s zero m at = refl
payload_first s (suc n) m at = go (ltb at (length s)) refl (payload_first s n m (onward at))
  where
    go : (b : Bool) → ltb at (length s) ≡ b → payload_from s n (onward at) ≡ take n (payload_from s (n + m) (onward at))
        → payload_from s (suc n) at ≡ take (suc n) (payload_from s (suc n + m) at)
    go true e h =
        let l : at < length s = ltb-true _ _ e in
        let k : suc n + m ≡ suc (n + m) = omega arith in
        rw (k, payload_cons s n at l, payload_cons s (n + m) at l, h)
    go false e h =
        let l : length s ≤ at = ltb-false _ _ e in
        rw (payload_past s (suc n) at l, payload_past s (suc n + m) at l, take-nil)

text_first : (s : List ℕ) (t : Text) (n : ℕ) → n ≤ t.left → text_in s (record { at = t.at; left = n }) ≡ take n (text_in s t)
unfolding text_in
text_first s t n l = let e : n + (t.left - n) ≡ t.left = omega arith in payload_first s n (t.left - n) t.at ∙ rw e

-- the window tells
module _ (s : List ℕ) (t : Text) (n : ℕ) {before window : List ℕ} {r : ℕ} (c : Copied (text_in s (record { at = t.at; left = n })) before window r)
    (k : length before ≡ 6) (e : n ≡ min t.left 6) (w : length (text_in s t) ≡ t.left) where
  window_is : take n window ≡ take 6 (text_in s t)
  unfolding with_text
  window_is =
      let x : List ℕ = text_in s (record { at = t.at; left = n }) in
      let f : x ≡ take n (text_in s t) = text_first s t n (omega arith) in
      let g : length x ≡ n = rw (f, length-take) (omega arith) in
      ap (take n) (c.written ∙ rw (le-leb (length x) (length before) (omega arith)))
      ∙ take_at x (drop (length x) before) n g
      ∙ f
      ∙ same (ltb t.left 6) refl
    where
      same : (b : Bool) → ltb t.left 6 ≡ b → take n (text_in s t) ≡ take 6 (text_in s t)
      same true h =
          let l : t.left < 6 = ltb-true _ _ h in
          take_all n (text_in s t) (omega arith) ∙ sym (take_all 6 (text_in s t) (omega arith))
      same false h = let l : 6 ≤ t.left = ltb-false _ _ h in let i : n ≡ 6 = omega arith in rw i

  window_read : (p : Maybe Plain) → Reads (take n window) p → Reads (text_in s t) p
  window_read p h = reads_take (text_in s t) p (rw window_is at h)

  pub window_tells : (p : Maybe Plain) → 1 ≤ t.left → Reads (take n window) p → PlainIn s t p
  window_tells None m h =
      let x = window_read None h in
      record { reads = x; plain = plain_of_lem (text_in s t) None (omega arith) x; near = text_near s t (omega arith) }
  window_tells (Some p) m h =
      let x = window_read (Some p) h in
      let y = plain_of_lem (text_in s t) (Some p) (omega arith) x in
      record { reads = x; plain = y; few = omega (arith, y.inside); near = text_near s t (omega arith) }
