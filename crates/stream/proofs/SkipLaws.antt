-- What is left of a text after its first bytes, and a text that says no more bytes than the stream has of it.
use Prim.Native.Nat.{ℕ, zero, suc, ◌+◌, ◌-◌, ◌%◌, ◌≤◌, ◌<◌}
use mathlib.Core.Path.{◌≡◌, refl, ap, sym, ◌∙◌}
use mathlib.Core.List.{List, ◌∷◌}
use mathlib.Core.Bool.{Bool, true, false}
use native.Mathlib.Omega.{arith}
use native.Mathlib.Nat.{add-zero}
use lib.ListN.{length, drop, get_or, length-drop}
use lib.Dec.{ltb}
use lib.Seq.{drop-drop, drop-cons}
use borrow.Author.Tests.{eq-eqb, ne_eqb, ltb-true, ltb-false}
use Rattle.stream.specs.declared.text.Text.{Text}
use Rattle.stream.specs.Text.{onward, payload_from, text_in, Skips}
use Rattle.stream.proofs.TextLaws.{payload_past}

-- payload that has a first byte, and what follows that
pub payload_cons : (s : List ℕ) (n at : ℕ) → at < length s → payload_from s (suc n) at ≡ get_or s at 0 ∷ payload_from s n (onward at)
unfolding payload_from
payload_cons s n at l = rw (drop-cons s at 0 l)

payload_next : (s : List ℕ) (n at : ℕ) → 1 ≤ length (payload_from s (suc n) at) → payload_from s n (onward at) ≡ drop 1 (payload_from s (suc n) at)
payload_next s n at l = go (ltb at (length s)) refl
  where
    go : (b : Bool) → ltb at (length s) ≡ b → payload_from s n (onward at) ≡ drop 1 (payload_from s (suc n) at)
    go true e = sym (ap (drop 1) (payload_cons s n at (ltb-true at (length s) e)))
    go false e =
        let w : length (payload_from s (suc n) at) ≡ 0 = ap length (payload_past s (suc n) at (ltb-false at (length s) e)) in
        absurd (omega arith)

-- One byte: across the border of a block, and inside it
next_text : (s : List ℕ) (t : Text) (at : ℕ) → 0 < t.left → at ≡ onward t.at → 1 ≤ length (text_in s t)
    → text_in s (record { at = at; left = t.left - 1 }) ≡ drop 1 (text_in s t)
unfolding text_in
next_text s t at l e m =
    let f : t.left ≡ suc (t.left - 1) = omega arith in
    let k : 1 ≤ length (payload_from s (suc (t.left - 1)) t.at) = rw f at m in
    rw e (payload_next s (t.left - 1) t.at k ∙ ap (λ (n : ℕ). drop 1 (payload_from s n t.at)) (sym f))

pub next_out : (t : Text) → 0 < t.left → t.at % 512 ≡ 507 → Skips 1 t (record { at = t.at + 9; left = t.left - 1 })
unfolding onward
next_out t l e = record {
  text = λ s m. next_text s t (t.at + 9) l (rw (eq-eqb (t.at % 512) 507 e)) m;
  left = omega arith;
  near = omega arith;
}

pub next_in : (t : Text) → 0 < t.left → (t.at % 512 ≡ 507 → ⊥) → Skips 1 t (record { at = t.at + 1; left = t.left - 1 })
unfolding onward
next_in t l e = record {
  text = λ s m. next_text s t (t.at + 1) l (rw (ne_eqb (t.at % 512) 507 e)) m;
  left = omega arith;
  near = omega arith;
}

-- Byte by byte
pub skips_none : (t : Text) → Skips 0 t t
skips_none t = record { text = λ s m. refl; left = add-zero _; near = omega arith }

pub skips_on : (i : ℕ) (t r q : Text) → Skips i t r → Skips 1 r q → Skips (i + 1) t q
skips_on i t r q c d = record {
  text = λ s m.
      let e : text_in s r ≡ drop i (text_in s t) = c.text s (omega arith) in
      let k : 1 ≤ length (text_in s r) = rw (e, length-drop) (omega arith) in
      d.text s k ∙ ap (drop 1) e ∙ drop-drop 1 i (text_in s t);
  left = omega (arith, c.left, d.left);
  near = omega (arith, c.near, d.near);
}

-- A text that says as many bytes as the stream has of it
payload_cut : (s : List ℕ) (n at : ℕ) → payload_from s (length (payload_from s n at)) at ≡ payload_from s n at
unfolding payload_from
payload_cut s zero at = refl
payload_cut s (suc n) at = go (ltb at (length s)) refl (payload_cut s n (onward at))
  where
    go : (b : Bool) → ltb at (length s) ≡ b → payload_from s (length (payload_from s n (onward at))) (onward at) ≡ payload_from s n (onward at)
        → payload_from s (length (payload_from s (suc n) at)) at ≡ payload_from s (suc n) at
    go true e h =
        let l : at < length s = ltb-true at (length s) e in
        ap (λ (xs : List ℕ). payload_from s (length xs) at) (payload_cons s n at l)
        ∙ payload_cons s (length (payload_from s n (onward at))) at l
        ∙ ap (λ (xs : List ℕ). get_or s at 0 ∷ xs) h
        ∙ sym (payload_cons s n at l)
    go false e h = rw (payload_past s (suc n) at (ltb-false at (length s) e))

pub text_cut : (s : List ℕ) (t : Text) (n : ℕ) → n ≡ length (text_in s t) → text_in s (record { at = t.at; left = n }) ≡ text_in s t
unfolding text_in
text_cut s t n e = rw e (payload_cut s t.left t.at)
