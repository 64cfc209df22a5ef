-- One byte of a scan, one law for each way through the code.
use Prim.Native.Nat.{ℕ, ◌+◌, ◌-◌, ◌*◌, ◌≤◌, ◌<◌}
use mathlib.Core.Path.{◌≡◌, refl, ap, sym, ◌∙◌}
use mathlib.Core.List.{List, [], ◌∷◌}
use mathlib.Core.Logic.{◌⊎◌, inl, inr}
use mathlib.Core.Bool.{Bool, true, false, cond}
use native.Mathlib.Nat.{add-zero}
use lib.Dec.{leb}
use borrow.Author.Tests.{le-leb, lt-leb, ne_eqb}
use Rattle.std.specs.Prelude.{Option as Maybe, Some, None}
use Rattle.rules.specs.Lexeme.{between, inside, broken, first_byte, later_byte, next_byte, is_of_class, all_of_class}
use Rattle.laws.specs.FirstBytes.{least_next, most_next, first_plain, first_two, first_three, first_four, first_low, first_high}
use Rattle.lexeme.specs.declared.scan.Scan.{Scan}
use Rattle.lexeme.specs.Scan.{midway, clean, judged, seen}
use Rattle.lexeme.proofs.ScanLaws.{seen_midway}

-- a later byte
module _ (due low high bits b : ℕ) where
  pub later_low : b < low → later_byte (inside [] due low high bits) b ≡ broken
  unfolding later_byte inside
  later_low l = rw (lt-leb low b l)

  pub later_high : high < b → later_byte (inside [] due low high bits) b ≡ broken
  unfolding later_byte inside
  later_high l = go (leb low b) refl
    where
      go : (x : Bool) → leb low b ≡ x → later_byte (inside [] due low high bits) b ≡ broken
      go true e = rw (e, lt-leb b high l)
      go false e = rw e

  pub later_last : low ≤ b → b ≤ high → due ≡ 1 → later_byte (inside [] due low high bits) b ≡ between ((bits * 64 + (b - 0x80)) ∷ [])
  unfolding later_byte inside
  later_last l m e = rw (le-leb low b l, le-leb b high m, e)

  pub later_more : low ≤ b → b ≤ high → (due ≡ 1 → ⊥) → later_byte (inside [] due low high bits) b ≡ inside [] (due - 1) 0x80 0xbf (bits * 64 + (b - 0x80))
  unfolding later_byte inside
  later_more l m e = rw (le-leb low b l, le-leb b high m, ne_eqb due 1 e)

module _ (g rs : List ℕ) where
  pub seen_first : (n b : ℕ) → seen g rs (clean n) b ≡ judged g rs n (first_byte [] b)
  unfolding next_byte inside
  seen_first n b = seen_midway g rs n 0 0 0 0 b

  pub seen_later : (n due low high bits b : ℕ) → (due ≡ 0 → ⊥) → seen g rs (midway n due low high bits) b ≡ judged g rs n (later_byte (inside [] due low high bits) b)
  unfolding next_byte inside
  seen_later n due low high bits b l = seen_midway g rs n due low high bits b ∙ rw (ne_eqb due 0 l)

  pub judge_char : (n x : ℕ) (v : Bool) → v ≡ is_of_class g rs x → judged g rs n (between (x ∷ [])) ≡ cond v (Some (clean (n + 1))) None
  unfolding judged between all_of_class
  judge_char n x true e = rw (sym e)
  judge_char n x false e = rw (sym e)

  pub judge_midway : (n due low high bits : ℕ) → judged g rs n (inside [] due low high bits) ≡ Some (midway n due low high bits)
  unfolding judged inside all_of_class
  judge_midway n due low high bits = rw add-zero

  pub judge_stop : (n : ℕ) → judged g rs n broken ≡ None
  unfolding judged broken
  judge_stop n = refl

-- as the code has them
module _ (g rs : List ℕ) (n b : ℕ) where
  pub lead_none : 0x80 ≤ b → (b < 0xc2) ⊎ ((0xc2 ≤ b) × (0xf4 < b)) → None ≡ judged g rs n (first_byte [] b)
  lead_none l (inl m) = sym (ap (judged g rs n) (first_low b l m) ∙ judge_stop g rs n)
  lead_none l (inr m) = sym (ap (judged g rs n) (first_high b m.1) ∙ judge_stop g rs n)

  module _ (s : Scan) (bits : ℕ) where
    pub lead_two : 0xc2 ≤ b → b < 0xe0 → bits ≡ b - 0xc0 → s ≡ midway n 1 0x80 0xbf bits → Some s ≡ judged g rs n (first_byte [] b)
    lead_two l m q e = rw (e, q) (sym (ap (judged g rs n) (first_two b l m) ∙ judge_midway g rs n 1 0x80 0xbf (b - 0xc0)))

    pub lead_three : 0xe0 ≤ b → b < 0xf0 → (low high : ℕ) → low ≡ least_next b → high ≡ most_next b → bits ≡ b - 0xe0 → s ≡ midway n 2 low high bits
        → Some s ≡ judged g rs n (first_byte [] b)
    lead_three l m low high p r q e = rw (e, q, p, r) (sym (ap (judged g rs n) (first_three b l m) ∙ judge_midway g rs n 2 (least_next b) (most_next b) (b - 0xe0)))

    pub lead_four : 0xf0 ≤ b → b ≤ 0xf4 → (low high : ℕ) → low ≡ least_next b → high ≡ most_next b → bits ≡ b - 0xf0 → s ≡ midway n 3 low high bits
        → Some s ≡ judged g rs n (first_byte [] b)
    lead_four l m low high p r q e = rw (e, q, p, r) (sym (ap (judged g rs n) (first_four b l m) ∙ judge_midway g rs n 3 (least_next b) (most_next b) (b - 0xf0)))

  pub plain_judged : (r : Maybe Scan) → b < 0x80 → (v : Bool) → v ≡ is_of_class g rs b → r ≡ cond v (Some (clean (n + 1))) None → r ≡ judged g rs n (first_byte [] b)
  plain_judged r l v f e = e ∙ sym (ap (judged g rs n) (first_plain b l) ∙ judge_char g rs n b v f)
