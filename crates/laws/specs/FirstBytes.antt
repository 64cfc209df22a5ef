-- The first byte of a character, by how large it is: what RFC 3629's lines, byte by byte, come to.
use Rattle.std.specs.Prelude.{ℕ, ◌-◌, ◌≤◌, ◌<◌, ◌≡◌, refl, [], ◌∷◌, Bool, true, false, cond, eqb, leb}
use Rattle.std.proofs.Common.{arith, le-leb, ne_eqb, leb-false, eqb-true}
use Rattle.std.proofs.lemmas.Bool.{lt-leb, eqb-false}
use Rattle.rules.specs.Lexeme.{between, inside, broken, first_byte}

-- RFC 3629, section 4: the byte after the first, from this least to this most
unfoldable pub least_next : ℕ → ℕ
least_next b = cond (eqb b 0xe0) 0xa0 (cond (eqb b 0xf0) 0x90 0x80)

unfoldable pub most_next : ℕ → ℕ
most_next b = cond (eqb b 0xed) 0x9f (cond (eqb b 0xf4) 0x8f 0xbf)

-- the first byte of a character
pub first_plain : (b : ℕ) → b < 0x80 → first_byte [] b ≡ between (b ∷ [])
unfolding first_byte
first_plain b l = rw (le-leb b 0x7f (omega arith))

pub first_two : (b : ℕ) → 0xc2 ≤ b → b < 0xe0 → first_byte [] b ≡ inside [] 1 0x80 0xbf (b - 0xc0)
unfolding first_byte
first_two b l m = rw (lt-leb b 0x7f (omega arith), le-leb 0xc2 b l, le-leb b 0xdf (omega arith))

pub first_three : (b : ℕ) → 0xe0 ≤ b → b < 0xf0 → first_byte [] b ≡ inside [] 2 (least_next b) (most_next b) (b - 0xe0)
unfolding first_byte least_next most_next
first_three b l m = go (eqb b 0xe0) refl (eqb b 0xed) refl (leb b 0xec) refl
  where
    go : (x : Bool) → eqb b 0xe0 ≡ x → (y : Bool) → eqb b 0xed ≡ y → (z : Bool) → leb b 0xec ≡ z → first_byte [] b ≡ inside [] 2 (least_next b) (most_next b) (b - 0xe0)
    go true e y f z h = rw (eqb-true b 0xe0 e)
    go false e true f z h = rw (eqb-true b 0xed f)
    go false e false f true h =
        let n : b ≡ 0xe0 → ⊥ = eqb-false b 0xe0 e in
        simp (
          lt-leb b 0x7f (omega arith),
          le-leb 0xc2 b (omega arith),
          lt-leb b 0xdf (omega arith),
          e,
          le-leb 0xe1 b (omega arith),
          h,
          f,
          ne_eqb b 0xf0 (λ q. absurd (omega arith)),
          ne_eqb b 0xf4 (λ q. absurd (omega arith)),
        )
    go false e false f false h =
        let n : 0xec < b = leb-false b 0xec h in
        let d : b ≡ 0xed → ⊥ = eqb-false b 0xed f in
        simp (
          lt-leb b 0x7f (omega arith),
          le-leb 0xc2 b (omega arith),
          lt-leb b 0xdf (omega arith),
          e,
          le-leb 0xe1 b (omega arith),
          h,
          f,
          le-leb 0xee b (omega arith),
          le-leb b 0xef (omega arith),
          ne_eqb b 0xf0 (λ q. absurd (omega arith)),
          ne_eqb b 0xf4 (λ q. absurd (omega arith)),
        )

pub first_four : (b : ℕ) → 0xf0 ≤ b → b ≤ 0xf4 → first_byte [] b ≡ inside [] 3 (least_next b) (most_next b) (b - 0xf0)
unfolding first_byte least_next most_next
first_four b l m = go (eqb b 0xf0) refl (eqb b 0xf4) refl
  where
    go : (x : Bool) → eqb b 0xf0 ≡ x → (y : Bool) → eqb b 0xf4 ≡ y → first_byte [] b ≡ inside [] 3 (least_next b) (most_next b) (b - 0xf0)
    go true e y f = rw (eqb-true b 0xf0 e)
    go false e true f = rw (eqb-true b 0xf4 f)
    go false e false f =
        let n : b ≡ 0xf0 → ⊥ = eqb-false b 0xf0 e in
        let d : b ≡ 0xf4 → ⊥ = eqb-false b 0xf4 f in
        simp (
          lt-leb b 0x7f (omega arith),
          le-leb 0xc2 b (omega arith),
          lt-leb b 0xdf (omega arith),
          ne_eqb b 0xe0 (λ q. absurd (omega arith)),
          le-leb 0xe1 b (omega arith),
          lt-leb b 0xec (omega arith),
          ne_eqb b 0xed (λ q. absurd (omega arith)),
          le-leb 0xee b (omega arith),
          lt-leb b 0xef (omega arith),
          e,
          le-leb 0xf1 b (omega arith),
          le-leb b 0xf3 (omega arith),
          f,
        )

pub first_low : (b : ℕ) → 0x80 ≤ b → b < 0xc2 → first_byte [] b ≡ broken
unfolding first_byte
first_low b l m =
    simp (
      lt-leb b 0x7f (omega arith),
      lt-leb 0xc2 b m,
      ne_eqb b 0xe0 (λ q. absurd (omega arith)),
      lt-leb 0xe1 b (omega arith),
      ne_eqb b 0xed (λ q. absurd (omega arith)),
      lt-leb 0xee b (omega arith),
      ne_eqb b 0xf0 (λ q. absurd (omega arith)),
      lt-leb 0xf1 b (omega arith),
      ne_eqb b 0xf4 (λ q. absurd (omega arith)),
    )

pub first_high : (b : ℕ) → 0xf4 < b → first_byte [] b ≡ broken
unfolding first_byte
first_high b l =
    simp (
      lt-leb b 0x7f (omega arith),
      le-leb 0xc2 b (omega arith),
      lt-leb b 0xdf (omega arith),
      ne_eqb b 0xe0 (λ q. absurd (omega arith)),
      le-leb 0xe1 b (omega arith),
      lt-leb b 0xec (omega arith),
      ne_eqb b 0xed (λ q. absurd (omega arith)),
      le-leb 0xee b (omega arith),
      lt-leb b 0xef (omega arith),
      ne_eqb b 0xf0 (λ q. absurd (omega arith)),
      le-leb 0xf1 b (omega arith),
      lt-leb b 0xf3 (omega arith),
      ne_eqb b 0xf4 (λ q. absurd (omega arith)),
    )
