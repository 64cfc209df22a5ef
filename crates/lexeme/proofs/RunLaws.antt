-- Runs: a byte or two at a time, and one run behind another.
use Prim.Native.Nat.{ℕ, zero, suc, ◌+◌, ◌-◌, ◌*◌, ◌/◌, ◌%◌, ◌≤◌, ◌<◌, ◌^◌}
use mathlib.Core.Path.{◌≡◌, refl, ap, sym, ◌∙◌}
use mathlib.Core.List.{List, [], ◌∷◌}
use mathlib.Core.Bool.{Bool, true, false, false≢true}
use native.Mathlib.Omega.{arith}
use native.Mathlib.Numerals.{add-one}
use native.Mathlib.Nat.{add-zero, add_assoc, zero-div, div-eq_of_lt}
use lib.ListN.{length, get_or, drop}
use lib.Seq.{drop-cons}
use lib.Dec.{ltb}
use lib.Pow.{pow_mono}
use borrow.Author.Tests.{ltb-true, ltb-false}
use Rattle.std.specs.Prelude.{Some, option_and_then}
use Rattle.rules.specs.Lexeme.{ranges}
use Rattle.lexeme.specs.Sets.{bit_at, is_in, WordOf, ClassSet}
use Rattle.lexeme.specs.Scan.{midway, clean, judged, seen, scanned}
use Rattle.lexeme.specs.Runs.{admitted, Plain, RunsTo}
use Rattle.lexeme.proofs.BitLaws.{word_says}
use Rattle.laws.specs.FirstBytes.{first_plain, first_two}
use Rattle.lexeme.proofs.StepLaws.{seen_first, seen_later, later_last, judge_char, judge_midway}

-- no bit of 0 is set, and of 0xfffffffc only those from 2 to 31
pub no_bit : {A : Type 0} (word j : ℕ) → word ≡ 0 → bit_at word j ≡ true → A
unfolding bit_at
no_bit word j e f = absurd (false≢true (sym (rw (e, zero-div)) ∙ f))

pub lead_bit : (j : ℕ) → bit_at 0xfffffffc j ≡ true → (2 ≤ j) × (j < 32)
unfolding bit_at
lead_bit zero e = absurd (false≢true e)
lead_bit (suc zero) e = absurd (false≢true e)
lead_bit (suc (suc j)) e = (omega arith, go (ltb (suc (suc j)) 32) refl)
  where
    go : (b : Bool) → ltb (suc (suc j)) 32 ≡ b → suc (suc j) < 32
    go true f = ltb-true (suc (suc j)) 32 f
    go false f =
        let l : 32 ≤ suc (suc j) = ltb-false (suc (suc j)) 32 f in
        let q : 0xfffffffc / 2 ^ suc (suc j) ≡ 0 = div-eq_of_lt (omega (arith, pow_mono l)) in
        absurd (false≢true (sym (rw q) ∙ e))

drop_two : (xs : List ℕ) (i : ℕ) → i + 1 < length xs → drop i xs ≡ get_or xs i 0 ∷ get_or xs (i + 1) 0 ∷ drop (i + 2) xs
drop_two xs i l =
    let e : suc (i + 1) ≡ i + 2 = omega arith in
    drop-cons xs i 0 (omega arith)
    ∙ ap (λ (n : ℕ). get_or xs i 0 ∷ drop n xs) (sym (add-one i))
    ∙ ap (λ (ys : List ℕ). get_or xs i 0 ∷ ys) (drop-cons xs (i + 1) 0 l ∙ ap (λ (n : ℕ). get_or xs (i + 1) 0 ∷ drop n xs) e)

-- a character more
module _ (g set part : List ℕ) (p : ℕ) (r : ClassSet g p set) (n i : ℕ) where
  pub one_more : i < length part → get_or part i 0 < 0x80 → is_in set (get_or part i 0) ≡ true
      → scanned g (ranges g p) (clean n) (drop i part) ≡ scanned g (ranges g p) (clean (n + 1)) (drop (i + 1) part)
  unfolding scanned
  one_more l m e =
      let b : ℕ = get_or part i 0 in
      let s : seen g (ranges g p) (clean n) b ≡ Some (clean (n + 1)) =
      seen_first g (ranges g p) n b
      ∙ ap (judged g (ranges g p) n) (first_plain b m)
      ∙ judge_char g (ranges g p) n b true (sym e ∙ r.same b (omega arith)) in
      rw (add-one i, drop-cons part i 0 l) (ap (option_and_then (λ x. scanned g (ranges g p) x (drop (suc i) part))) s)

  pub two_more : i + 1 < length part → 0xc2 ≤ get_or part i 0 → get_or part i 0 < 0xe0 → 0x80 ≤ get_or part (i + 1) 0 → get_or part (i + 1) 0 < 0xc0
      → is_in set ((get_or part i 0 - 0xc0) * 64 + (get_or part (i + 1) 0 - 0x80)) ≡ true
      → scanned g (ranges g p) (clean n) (drop i part) ≡ scanned g (ranges g p) (clean (n + 1)) (drop (i + 2) part)
  unfolding scanned
  two_more l a1 a2 b1 b2 e =
      let a : ℕ = get_or part i 0 in
      let b : ℕ = get_or part (i + 1) 0 in
      let x : ℕ = (a - 0xc0) * 64 + (b - 0x80) in
      let s : seen g (ranges g p) (clean n) a ≡ Some (midway n 1 0x80 0xbf (a - 0xc0)) =
      seen_first g (ranges g p) n a
      ∙ ap (judged g (ranges g p) n) (first_two a a1 a2)
      ∙ judge_midway g (ranges g p) n 1 0x80 0xbf (a - 0xc0) in
      let t : seen g (ranges g p) (midway n 1 0x80 0xbf (a - 0xc0)) b ≡ Some (clean (n + 1)) =
      seen_later g (ranges g p) n 1 0x80 0xbf (a - 0xc0) b (λ q. absurd (omega arith))
      ∙ ap (judged g (ranges g p) n) (later_last 1 0x80 0xbf (a - 0xc0) b b1 (omega arith) refl)
      ∙ judge_char g (ranges g p) n x true (sym e ∙ r.same x (omega arith)) in
      rw (drop_two part i l) (ap (option_and_then (λ y. option_and_then (λ z. scanned g (ranges g p) z (drop (i + 2) part)) (seen g (ranges g p) y b))) s ∙ ap (option_and_then (λ z. scanned g (ranges g p) z (drop (i + 2) part))) t)

-- ASCII
plain_words : ℕ → ℕ → List ℕ
plain_words a b = a ∷ b ∷ 0 ∷ 0 ∷ []

no_word : (a b k : ℕ) → ◌≡◌ {A = ℕ} (get_or (a ∷ b ∷ 0 ∷ 0 ∷ []) (suc (suc k)) 0) 0
no_word a b zero = refl
no_word a b (suc zero) = refl
no_word a b (suc (suc k)) = refl

module _ (set₁ : List ℕ) (low high : ℕ) (u : WordOf set₁ 0 low) (v : WordOf set₁ 1 high) where
  plain_byte : (b : ℕ) → admitted (plain_words low high) b ≡ true → (b < 0x80) × (is_in set₁ b ≡ true)
  unfolding admitted plain_words
  plain_byte b e = go (ltb b 64) refl (ltb b 128) refl
    where
      go : (x : Bool) → ltb b 64 ≡ x → (y : Bool) → ltb b 128 ≡ y → (b < 0x80) × (is_in set₁ b ≡ true)
      go true f y h =
          let l : b < 64 = ltb-true b 64 f in
          let q : b / 64 ≡ 0 = omega arith in
          (omega arith, sym (word_says set₁ low b (rw q u)) ∙ (rw q at e))
      go false f true h =
          let l : 64 ≤ b = ltb-false b 64 f in
          let m : b < 128 = ltb-true b 128 h in
          let q : b / 64 ≡ 1 = omega arith in
          (m, sym (word_says set₁ high b (rw q v)) ∙ (rw q at e))
      go false f false h =
          let l : 128 ≤ b = ltb-false b 128 h in
          let q : b / 64 ≡ suc (suc (b / 64 - 2)) = omega arith in
          no_bit (get_or (plain_words low high) (b / 64) 0) (b % 64) (rw q (no_word low high (b / 64 - 2))) e

  plain_scan : (g part : List ℕ) (p : ℕ) → ClassSet g p set₁ → (d from to n : ℕ) → to ≡ from + d → to ≤ length part
      → ((k : ℕ) → from ≤ k → k < to → admitted (plain_words low high) (get_or part k 0) ≡ true)
      → scanned g (ranges g p) (clean n) (drop from part) ≡ scanned g (ranges g p) (clean (n + d)) (drop to part)
  plain_scan g part p r zero from to n e l each = let f : to ≡ from = omega arith in rw (f, add-zero n)
  plain_scan g part p r (suc d) from to n e l each =
      let h = plain_byte (get_or part from 0) (each from (omega arith) (omega arith)) in
      let q : n + 1 + d ≡ n + suc d = omega arith in
      one_more g set₁ part p r n from (omega arith) h.0 h.1
      ∙ plain_scan g part p r d (from + 1) to (n + 1) (omega arith) l (λ k a b. each k (omega arith) b)
      ∙ ap (λ (m : ℕ). scanned g (ranges g p) (clean m) (drop to part)) q

  pub plain_ran : (part : List ℕ) (from to : ℕ) → Plain (low ∷ high ∷ 0 ∷ 0 ∷ []) part from to → RunsTo set₁ part from to (to - from)
  unfolding plain_words
  plain_ran part from to h = record {
    ahead = omega (arith, h.ahead);
    inside = h.inside;
    same = λ g p r n. plain_scan g part p r (to - from) from to n (omega (arith, h.ahead)) h.inside h.each;
  }

pub ran_then : (set₁ part : List ℕ) (from at to a b : ℕ) → RunsTo set₁ part from at a → RunsTo set₁ part at to b → RunsTo set₁ part from to (a + b)
ran_then set₁ part from at to a b h f = record {
  ahead = omega (arith, h.ahead, f.ahead);
  inside = f.inside;
  same = λ g p r n. h.same g p r n ∙ f.same g p r (n + a) ∙ rw (add_assoc n a b);
}

pub ran_none : (set₁ part : List ℕ) (at : ℕ) → at ≤ length part → RunsTo set₁ part at at 0
ran_none set₁ part at l = record { ahead = omega arith; inside = l; same = λ g p r n. rw (add-zero n) }
