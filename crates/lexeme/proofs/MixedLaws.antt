-- Characters of one and two bytes in a run: the words by which a byte is tested, and a turn of the loop.
use Prim.Native.Nat.{ℕ, zero, suc, ◌+◌, ◌-◌, ◌*◌, ◌/◌, ◌%◌, ◌≤◌, ◌<◌}
use mathlib.Core.Path.{◌≡◌, refl, ap, sym, ◌∙◌}
use mathlib.Core.List.{List, [], ◌∷◌}
use mathlib.Core.Bool.{Bool, true, false}
use mathlib.Core.Logic.{◌⊎◌, inl, inr, ⊎_elim}
use native.Mathlib.Omega.{arith}
use lib.ListN.{length, get_or, set}
use lib.Dec.{ltb}
use borrow.Author.Tests.{ltb-true, ltb-false}
use Rattle.lexeme.specs.Sets.{bit_at, is_in, WordOf}
use Rattle.lexeme.specs.Runs.{RunsTo}
use Rattle.lexeme.proofs.BitLaws.{word_says}
use Rattle.lexeme.proofs.RunLaws.{no_bit, lead_bit, one_more, two_more, ran_none, ran_then}

-- the words: two of ASCII, and w, the lead's
pub mixed_words : ℕ → ℕ → ℕ → List ℕ
mixed_words low high w = low ∷ high ∷ 0 ∷ 0xfffffffc ∷ 0 ∷ 0 ∷ w ∷ 0 ∷ []

pub record Mixing (set₁ part : List ℕ) (from i lead leads : ℕ) (words : List ℕ) : Type 0 where
  pub inside : i ≤ length part
  pub fewer : from + leads ≤ i
  pub single : lead ≤ 1
  pub counted : lead ≤ leads
  pub ran : RunsTo set₁ part from (i - lead) (i - from - leads)
  pub low : ℕ
  pub high : ℕ
  pub word : ℕ
  pub rows : words ≡ mixed_words low high word
  pub lows : WordOf set₁ 0 low
  pub highs : WordOf set₁ 1 high
  pub after : lead ≡ 1 → (0xc2 ≤ get_or part (i - 1) 0) × (get_or part (i - 1) 0 < 0xe0) × WordOf set₁ (get_or part (i - 1) 0 % 32) word

pub mix_start : (set₁ part : List ℕ) (from low high : ℕ) → from ≤ length part → WordOf set₁ 0 low → WordOf set₁ 1 high
    → Mixing set₁ part from from 0 0 (low ∷ high ∷ 0 ∷ 0xfffffffc ∷ 0 ∷ 0 ∷ 0 ∷ 0 ∷ [])
unfolding mixed_words
mix_start set₁ part from low high l u v =
    let a : from - 0 ≡ from = omega arith in
    let b : from - from - 0 ≡ 0 = omega arith in
    record {
      inside = l;
      fewer = omega arith;
      single = omega arith;
      counted = omega arith;
      ran = rw (a, b) (ran_none set₁ part from l);
      low = low;
      high = high;
      word = 0;
      rows = refl;
      lows = u;
      highs = v;
      after = λ q. absurd (omega arith);
    }

-- what the test says of a byte that begins a character, and of one after a lead
by_quarter : {A : Type 0} (b : ℕ) → b < 256 → (b / 64 ≡ 0 → A) → (b / 64 ≡ 1 → A) → (b / 64 ≡ 2 → A) → (b / 64 ≡ 3 → A) → A
by_quarter {A} b l p q r s = go (ltb b 64) refl (ltb b 128) refl (ltb b 192) refl
  where
    go : (x : Bool) → ltb b 64 ≡ x → (y : Bool) → ltb b 128 ≡ y → (z : Bool) → ltb b 192 ≡ z → A
    go true f y h z i = p (omega (arith, ltb-true b 64 f))
    go false f true h z i = q (omega (arith, ltb-false b 64 f, ltb-true b 128 h))
    go false f false h true i = r (omega (arith, ltb-false b 128 h, ltb-true b 192 i))
    go false f false h false i = s (omega (arith, ltb-false b 192 i))

begin_test : (set₁ : List ℕ) (low high w b : ℕ) → WordOf set₁ 0 low → WordOf set₁ 1 high → b < 256
    → bit_at (get_or (mixed_words low high w) (4 * 0 + b / 64) 0) (b % 64) ≡ true → ((b < 0x80) × (is_in set₁ b ≡ true)) ⊎ ((0xc2 ≤ b) × (b < 0xe0))
unfolding mixed_words
begin_test set₁ low high w b u v l e =
    by_quarter b l (λ q. inl (omega arith, sym (word_says set₁ low b (rw q u)) ∙ (rw q at e))) (λ q. inl (omega arith, sym (word_says set₁ high b (rw q v)) ∙ (rw q at e)))
    (λ q. no_bit 0 (b % 64) refl (rw q at e)) (λ q. let j = lead_bit (b % 64) (rw q at e) in inr (omega (arith, j.0), omega (arith, j.1)))

after_test : (low high w b : ℕ) → b < 256 → bit_at (get_or (mixed_words low high w) (4 * 1 + b / 64) 0) (b % 64) ≡ true
    → (0x80 ≤ b) × (b < 0xc0) × (bit_at w (b % 64) ≡ true)
unfolding mixed_words
after_test low high w b l e =
    by_quarter b l (λ q. no_bit 0 (b % 64) refl (rw q at e)) (λ q. no_bit 0 (b % 64) refl (rw q at e)) (λ q. (omega arith, omega arith, rw q at e))
    (λ q. no_bit 0 (b % 64) refl (rw q at e))

pair_word : (set₁ : List ℕ) (a b w : ℕ) → 0xc2 ≤ a → a < 0xe0 → 0x80 ≤ b → b < 0xc0 → WordOf set₁ (a % 32) w → bit_at w (b % 64) ≡ true
    → is_in set₁ ((a - 0xc0) * 64 + (b - 0x80)) ≡ true
pair_word set₁ a b w a1 a2 b1 b2 u f =
    let q : 64 * (a % 32) + b % 64 ≡ (a - 0xc0) * 64 + (b - 0x80) = omega arith in
    ap (is_in set₁) (sym q) ∙ sym (u.bits (b % 64) (omega arith)) ∙ f

word_put : (low high w v : ℕ) → set (mixed_words low high w) 6 v ≡ mixed_words low high v
unfolding mixed_words
word_put low high w v = refl

module _ (set₁ part words : List ℕ) (from i leads b v : ℕ) (l : i < length part) (e : b ≡ get_or part i 0) (s : b < 256) (u : WordOf set₁ (b % 32) v) where
  put : (low high w : ℕ) → words ≡ mixed_words low high w → set words 6 v ≡ mixed_words low high v
  put low high w q = ap (λ (x : List ℕ). set x 6 v) q ∙ word_put low high w v

  -- a character of one byte
  mix_one : Mixing set₁ part from i 0 leads words → b < 0x80 → is_in set₁ b ≡ true → Mixing set₁ part from (i + 1) (b / 192) (leads + b / 192) (set words 6 v)
  mix_one m k f =
      let q : b / 192 ≡ 0 = omega arith in
      let x : i - 0 ≡ i = omega arith in
      let y : i + 1 - 0 ≡ i + 1 = omega arith in
      let z : i + 1 - from - (leads + 0) ≡ i - from - leads + 1 = omega (arith, m.fewer) in
      let step : RunsTo set₁ part i (i + 1) 1 = record {
        ahead = omega arith;
        inside = omega arith;
        same = λ g p r n. one_more g set₁ part p r n i l (rw e at k) (rw e at f);
      } in
      rw q record {
        inside = omega arith;
        fewer = omega (arith, m.fewer);
        single = omega arith;
        counted = omega arith;
        ran = rw (y, z) (ran_then set₁ part from i (i + 1) (i - from - leads) 1 (rw x at m.ran) step);
        low = m.low;
        high = m.high;
        word = v;
        rows = put m.low m.high m.word m.rows;
        lows = m.lows;
        highs = m.highs;
        after = λ h. absurd (omega arith);
      }

  -- a lead
  mix_lead : Mixing set₁ part from i 0 leads words → 0xc2 ≤ b → b < 0xe0 → Mixing set₁ part from (i + 1) (b / 192) (leads + b / 192) (set words 6 v)
  mix_lead m k f =
      let q : b / 192 ≡ 1 = omega arith in
      let x : i - 0 ≡ i + 1 - 1 = omega arith in
      let z : i - from - leads ≡ i + 1 - from - (leads + 1) = omega (arith, m.fewer) in
      let y : i + 1 - 1 ≡ i = omega arith in
      rw q record {
        inside = omega arith;
        fewer = omega (arith, m.fewer);
        single = omega arith;
        counted = omega arith;
        ran = rw (x, z) at m.ran;
        low = m.low;
        high = m.high;
        word = v;
        rows = put m.low m.high m.word m.rows;
        lows = m.lows;
        highs = m.highs;
        after = λ h. rw (y, ← e) (k, f, u);
      }

  -- the byte after a lead
  mix_two : Mixing set₁ part from i 1 leads words → 0x80 ≤ b → b < 0xc0 → (w : ℕ) → bit_at w (b % 64) ≡ true
      → (0xc2 ≤ get_or part (i - 1) 0) × (get_or part (i - 1) 0 < 0xe0) × WordOf set₁ (get_or part (i - 1) 0 % 32) w
      → Mixing set₁ part from (i + 1) (b / 192) (leads + b / 192) (set words 6 v)
  mix_two m k f w h a =
      let q : b / 192 ≡ 0 = omega arith in
      let u : i - 1 + 1 ≡ i = omega (arith, m.fewer, m.counted) in
      let w2 : i - 1 + 2 ≡ i + 1 = omega (arith, m.fewer, m.counted) in
      let y : i + 1 - 0 ≡ i + 1 = omega arith in
      let z : i + 1 - from - (leads + 0) ≡ i - from - leads + 1 = omega (arith, m.fewer) in
      let d : is_in set₁ ((get_or part (i - 1) 0 - 0xc0) * 64 + (b - 0x80)) ≡ true = pair_word set₁ (get_or part (i - 1) 0) b w a.0 a.1 k f a.2 h in
      let step : RunsTo set₁ part (i - 1) (i + 1) 1 = record {
        ahead = omega arith;
        inside = omega arith;
        same = λ g p r n. rw w2 at (two_more g set₁ part p r n (i - 1) (rw u l) a.0 a.1 (rw (u, ← e) k) (rw (u, ← e) f) (rw (u, ← e) d));
      } in
      rw q record {
        inside = omega arith;
        fewer = omega (arith, m.fewer);
        single = omega arith;
        counted = omega arith;
        ran = rw (y, z) (ran_then set₁ part from (i - 1) (i + 1) (i - from - leads) 1 m.ran step);
        low = m.low;
        high = m.high;
        word = v;
        rows = put m.low m.high m.word m.rows;
        lows = m.lows;
        highs = m.highs;
        after = λ j. absurd (omega arith);
      }

pub mix_turn : (set₁ part words : List ℕ) (from i lead leads b lead' v : ℕ) → Mixing set₁ part from i lead leads words → i < length part → b ≡ get_or part i 0 → b < 256
    → bit_at (get_or words (4 * lead + b / 64) 0) (b % 64) ≡ true → WordOf set₁ (b % 32) v → lead' ≡ b / 192 → Mixing set₁ part from (i + 1) lead' (leads + lead') (set words 6 v)
mix_turn set₁ part words from i zero leads b lead' v m l e s t u f =
    rw f
    (⊎_elim
    (λ h. mix_one set₁ part words from i leads b v l e s u m h.0 h.1)
    (λ h. mix_lead set₁ part words from i leads b v l e s u m h.0 h.1)
    (begin_test set₁ m.low m.high m.word b m.lows m.highs s (rw m.rows at t)))
mix_turn set₁ part words from i (suc zero) leads b lead' v m l e s t u f =
    let h = after_test m.low m.high m.word b s (rw m.rows at t) in
    rw f (mix_two set₁ part words from i leads b v l e s u m h.0 h.1 m.word h.2 (m.after refl))
mix_turn set₁ part words from i (suc (suc k)) leads b lead' v m l e s t u f = absurd (omega (arith, m.single))
