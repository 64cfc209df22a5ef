-- UTF-8 as RFC 3629 words it, by characters; and that the decoder of `rules`, which goes by bytes, accepts exactly these texts and gives their characters.
use Rattle.std.specs.Prelude.{◌≡◌, refl, ◌↔◌, List, [], ◌∷◌, ◌++◌, Bool, true, false, cond, length, eqb, leb}
use Rattle.std.proofs.Common.{sym, ◌∙◌, ap, subst, append_assoc, append-nil}
use Prim.Native.Nat.{ℕ, zero, suc, ◌+◌, ◌-◌, ◌*◌, ◌/◌, ◌%◌, ◌≤◌, ◌<◌}
use Rattle.std.proofs.Math.Option.{some, none-ne-some, some-injective}
use native.Mathlib.Omega.{arith}
use borrow.Author.Tests.{leb-true, leb-false, le-leb, lt-leb, ne_eqb}
use Rattle.rules.specs.Lexeme.{within, Decoding, between, inside, broken, first_byte, later_byte, next_byte, decode, decoded, characters_of}
use Rattle.laws.specs.Faults.{In, here, later, and_iff, leb_iff}

-- RFC 3629, section 3: "characters from the U+0000..U+10FFFF range"; it "prohibits encoding character numbers between U+D800 and U+DFFF"
pub record Scalar (x : ℕ) : Type 0 where
  pub in_range : x ≤ 0x10ffff
  pub no_surrogate : ¬ ((0xd800 ≤ x) × (x ≤ 0xdfff))

abbrev pub AllScalar : List ℕ → Type 0
AllScalar cs = (x : ℕ) → In x cs → Scalar x

-- the table of section 3: 0xxxxxxx up to 7F, 110xxxxx 10xxxxxx up to 7FF, 1110xxxx 10xxxxxx 10xxxxxx up to FFFF, and 11110xxx 10xxxxxx 10xxxxxx 10xxxxxx
unfoldable pub encoded : ℕ → List ℕ
encoded x =
    cond (leb x 0x7f) (x ∷ [])
    (cond (leb x 0x7ff) ((0xc0 + x / 64) ∷ (0x80 + x % 64) ∷ [])
    (cond (leb x 0xffff) ((0xe0 + x / 4096) ∷ (0x80 + x / 64 % 64) ∷ (0x80 + x % 64) ∷ [])
    ((0xf0 + x / 262144) ∷ (0x80 + x / 4096 % 64) ∷ (0x80 + x / 64 % 64) ∷ (0x80 + x % 64) ∷ [])))

-- the bytes of characters in a row
unfoldable pub encoded_all : List ℕ → List ℕ
encoded_all [] = []
encoded_all (x ∷ xs) = encoded x ++ encoded_all xs

-- Tests of numbers
up_to : {P : Type 0} (a b : ℕ) → (a ≤ b → P) → (b < a → P) → P
up_to {P} a b f g = go (leb a b) refl
  where
    go : (t : Bool) → leb a b ≡ t → P
    go true e = f (leb-true a b e)
    go false e = g (leb-false a b e)

pub within_iff : (low high b : ℕ) → (within low high b ≡ true) ↔ ((low ≤ b) × (b ≤ high))
within_iff low high b = (
  λ e. let h = (and_iff _ _).0 e in ((leb_iff low b).0 h.0, (leb_iff b high).0 h.1),
  λ h. (and_iff _ _).1 ((leb_iff low b).1 h.0, (leb_iff b high).1 h.1),
)

within_yes : (low high b : ℕ) → low ≤ b → b ≤ high → within low high b ≡ true
within_yes low high b l h = (within_iff low high b).1 (l, h)

below : (low high b : ℕ) → b < low → within low high b ≡ false
below low high b l = rw (lt-leb low b l)

above : (low high b : ℕ) → high < b → within low high b ≡ false
above low high b h = up_to low b (λ l. rw (le-leb low b l, lt-leb b high h)) (λ l. below low high b l)

-- The first byte, by the lines of the table in RFC 3629, section 4
module _ (cs : List ℕ) (b : ℕ) where
  first_one : b ≤ 0x7f → first_byte cs b ≡ between (cs ++ b ∷ [])
  unfolding first_byte
  first_one h = rw (le-leb b 0x7f h)

  no_first : 0x7f < b → b < 0xc2 → first_byte cs b ≡ broken
  unfolding first_byte
  no_first l h = rw (
    lt-leb b 0x7f l,
    below 0xc2 0xdf b h,
    ne_eqb b 0xe0 (omega arith),
    below 0xe1 0xec b (omega arith),
    ne_eqb b 0xed (omega arith),
    below 0xee 0xef b (omega arith),
    ne_eqb b 0xf0 (omega arith),
    below 0xf1 0xf3 b (omega arith),
    ne_eqb b 0xf4 (omega arith),
  )

  first_two : 0xc2 ≤ b → b ≤ 0xdf → first_byte cs b ≡ inside cs 1 0x80 0xbf (b - 0xc0)
  unfolding first_byte
  first_two l h = rw (lt-leb b 0x7f (omega arith), within_yes 0xc2 0xdf b l h)

  first_e1_ec : 0xe1 ≤ b → b ≤ 0xec → first_byte cs b ≡ inside cs 2 0x80 0xbf (b - 0xe0)
  unfolding first_byte
  first_e1_ec l h = rw (lt-leb b 0x7f (omega arith), above 0xc2 0xdf b (omega arith), ne_eqb b 0xe0 (omega arith), within_yes 0xe1 0xec b l h)

  first_ee_ef : 0xee ≤ b → b ≤ 0xef → first_byte cs b ≡ inside cs 2 0x80 0xbf (b - 0xe0)
  unfolding first_byte
  first_ee_ef l h = rw (
    lt-leb b 0x7f (omega arith),
    above 0xc2 0xdf b (omega arith),
    ne_eqb b 0xe0 (omega arith),
    above 0xe1 0xec b (omega arith),
    ne_eqb b 0xed (omega arith),
    within_yes 0xee 0xef b l h,
  )

  first_f1_f3 : 0xf1 ≤ b → b ≤ 0xf3 → first_byte cs b ≡ inside cs 3 0x80 0xbf (b - 0xf0)
  unfolding first_byte
  first_f1_f3 l h = rw (
    lt-leb b 0x7f (omega arith),
    above 0xc2 0xdf b (omega arith),
    ne_eqb b 0xe0 (omega arith),
    above 0xe1 0xec b (omega arith),
    ne_eqb b 0xed (omega arith),
    above 0xee 0xef b (omega arith),
    ne_eqb b 0xf0 (omega arith),
    within_yes 0xf1 0xf3 b l h,
  )

  past_first : 0xf4 < b → first_byte cs b ≡ broken
  unfolding first_byte
  past_first l = rw (
    lt-leb b 0x7f (omega arith),
    above 0xc2 0xdf b (omega arith),
    ne_eqb b 0xe0 (omega arith),
    above 0xe1 0xec b (omega arith),
    ne_eqb b 0xed (omega arith),
    above 0xee 0xef b (omega arith),
    ne_eqb b 0xf0 (omega arith),
    above 0xf1 0xf3 b (omega arith),
    ne_eqb b 0xf4 (omega arith),
  )

-- after the first byte b so many bytes are due, and the next of them may be exactly a c with Next c
record Led (cs : List ℕ) (b n lead : ℕ) (Next : ℕ → Type 0) : Type 0 where
  low : ℕ
  high : ℕ
  state : first_byte cs b ≡ inside cs n low high (b - lead)
  range : (c : ℕ) → ((low ≤ c) × (c ≤ high)) ↔ Next c

-- the bits of the first two bytes are those of no shorter character, of no surrogate, and of none past U+10FFFF
record NextOfThree (b c : ℕ) : Type 0 where
  from : 0x80 ≤ c
  to : c ≤ 0xbf
  no_shorter : 0x20 ≤ (b - 0xe0) * 64 + (c - 0x80)
  no_surrogate : ¬ ((0x360 ≤ (b - 0xe0) * 64 + (c - 0x80)) × ((b - 0xe0) * 64 + (c - 0x80) ≤ 0x37f))

record NextOfFour (b c : ℕ) : Type 0 where
  from : 0x80 ≤ c
  to : c ≤ 0xbf
  no_shorter : 0x10 ≤ (b - 0xf0) * 64 + (c - 0x80)
  in_range : (b - 0xf0) * 64 + (c - 0x80) ≤ 0x10f

first_three : (cs : List ℕ) (b : ℕ) → 0xe0 ≤ b → b ≤ 0xef → Led cs b 2 0xe0 (NextOfThree b)
first_three cs b l h =
    up_to b 0xe0 (λ k. let e : b ≡ 0xe0 = omega arith in
    record { low = 0xa0; high = 0xbf; state = rw e (unfold first_byte in refl); range = λ c. omega arith }) λ e0.
    up_to b 0xec (λ k. record { low = 0x80; high = 0xbf; state = first_e1_ec cs b e0 k; range = λ c. omega arith }) λ ec.
    up_to b 0xed (λ k. let e : b ≡ 0xed = omega arith in
    record {
      low = 0x80;
      high = 0x9f;
      state = rw e (unfold first_byte in refl);
      range = λ c. (omega arith, λ n. (n.from, up_to c 0x9f (λ z. z) (λ z. absurd (n.no_surrogate (omega arith)))));
    }) λ ed.
    record { low = 0x80; high = 0xbf; state = first_ee_ef cs b ed h; range = λ c. omega arith }

first_four : (cs : List ℕ) (b : ℕ) → 0xf0 ≤ b → b ≤ 0xf4 → Led cs b 3 0xf0 (NextOfFour b)
first_four cs b l h =
    up_to b 0xf0 (λ k. let e : b ≡ 0xf0 = omega arith in
    record { low = 0x90; high = 0xbf; state = rw e (unfold first_byte in refl); range = λ c. omega arith }) λ f0.
    up_to b 0xf3 (λ k. record { low = 0x80; high = 0xbf; state = first_f1_f3 cs b f0 k; range = λ c. omega arith }) λ f3.
    let e : b ≡ 0xf4 = omega arith in
    record { low = 0x80; high = 0x8f; state = rw e (unfold first_byte in refl); range = λ c. omega arith }

-- A later byte in its range, with n more due after it, leads to the end of the character or to its next byte; any other breaks the text, which stays broken
then : List ℕ → ℕ → ℕ → Decoding
then cs zero x = between (cs ++ x ∷ [])
then cs (suc n) x = inside cs (suc n) 0x80 0xbf x

then_is : (cs : List ℕ) (n x : ℕ) → cond (eqb (suc n) 1) (between (cs ++ x ∷ [])) (inside cs (suc n - 1) 0x80 0xbf x) ≡ then cs n x
unfolding then
then_is cs zero x = refl
then_is cs (suc n) x = let e : suc (suc n) - 1 ≡ suc n = omega arith in rw (ne_eqb (suc (suc n)) 1 (omega arith), e)

module _ (cs : List ℕ) (n low high bits b : ℕ) where
  later_good : low ≤ b → b ≤ high → next_byte (inside cs (suc n) low high bits) b ≡ then cs n (bits * 64 + (b - 0x80))
  unfolding next_byte later_byte inside
  later_good l h = rw (ne_eqb (suc n) 0 (omega arith), within_yes low high b l h) (then_is cs n (bits * 64 + (b - 0x80)))

  later_bad : within low high b ≡ false → next_byte (inside cs (suc n) low high bits) b ≡ broken
  unfolding next_byte later_byte inside
  later_bad e = rw (ne_eqb (suc n) 0 (omega arith), e)

stays_broken : (text ds : List ℕ) → decoded (decode broken text) ≡ some ds → ⊥
unfolding decode decoded next_byte broken
stays_broken [] ds e = none-ne-some ds e
stays_broken (b ∷ text) ds e = stays_broken text ds e

-- The bytes of a character, by the bits that they bring
last_bits : (m d : ℕ) → 0x80 ≤ d → d ≤ 0xbf → 0x80 + (m * 64 + (d - 0x80)) % 64 ≡ d
last_bits m d l h = omega arith

encoded_one : (b : ℕ) → b ≤ 0x7f → encoded b ≡ b ∷ []
unfolding encoded
encoded_one b h = rw (le-leb b 0x7f h)

encoded_two : (b c : ℕ) → 0xc2 ≤ b → b ≤ 0xdf → 0x80 ≤ c → c ≤ 0xbf → encoded ((b - 0xc0) * 64 + (c - 0x80)) ≡ b ∷ c ∷ []
unfolding encoded
encoded_two b c bl bh cl ch =
    let x : ℕ = (b - 0xc0) * 64 + (c - 0x80) in
    let e : 0xc0 + x / 64 ≡ b = omega arith in
    rw (lt-leb x 0x7f (omega arith), le-leb x 0x7ff (omega arith), e, last_bits (b - 0xc0) c cl ch)

encoded_three : (b c d : ℕ) → 0xe0 ≤ b → b ≤ 0xef → NextOfThree b c → 0x80 ≤ d → d ≤ 0xbf →
    encoded (((b - 0xe0) * 64 + (c - 0x80)) * 64 + (d - 0x80)) ≡ b ∷ c ∷ d ∷ []
unfolding encoded
encoded_three b c d bl bh n dl dh =
    let m : ℕ = (b - 0xe0) * 64 + (c - 0x80) in
    let x : ℕ = m * 64 + (d - 0x80) in
    let e : 0xe0 + x / 4096 ≡ b = omega arith in
    let q : x / 64 ≡ m = omega arith in
    rw (
      lt-leb x 0x7f (omega arith),
      lt-leb x 0x7ff (omega arith),
      le-leb x 0xffff (omega arith),
      e,
      q,
      last_bits (b - 0xe0) c n.from n.to,
      last_bits m d dl dh,
    )

encoded_four : (b c d f : ℕ) → 0xf0 ≤ b → b ≤ 0xf4 → NextOfFour b c → 0x80 ≤ d → d ≤ 0xbf → 0x80 ≤ f → f ≤ 0xbf →
    encoded ((((b - 0xf0) * 64 + (c - 0x80)) * 64 + (d - 0x80)) * 64 + (f - 0x80)) ≡ b ∷ c ∷ d ∷ f ∷ []
unfolding encoded
encoded_four b c d f bl bh n dl dh fl fh =
    let m : ℕ = (b - 0xf0) * 64 + (c - 0x80) in
    let k : ℕ = m * 64 + (d - 0x80) in
    let x : ℕ = k * 64 + (f - 0x80) in
    let e : 0xf0 + x / 262144 ≡ b = omega arith in
    let p : x / 4096 ≡ m = omega arith in
    let q : x / 64 ≡ k = omega arith in
    rw (
      lt-leb x 0x7f (omega arith),
      lt-leb x 0x7ff (omega arith),
      lt-leb x 0xffff (omega arith),
      e,
      p,
      q,
      last_bits (b - 0xf0) c n.from n.to,
      last_bits m d dl dh,
      last_bits k f fl fh,
    )

-- From a text that is decoded to its characters. A byte that is due stands there, in its range.
later_read : (P : List ℕ → Type 0) (cs : List ℕ) (n low high bits : ℕ) (text ds : List ℕ) →
    decoded (decode (inside cs (suc n) low high bits) text) ≡ some ds →
    ((b : ℕ) (rest : List ℕ) → low ≤ b → b ≤ high → decoded (decode (then cs n (bits * 64 + (b - 0x80))) rest) ≡ some ds → P (b ∷ rest)) → P text
unfolding decode decoded inside
later_read P cs n low high bits [] ds e k = absurd (none-ne-some ds (rw (ne_eqb (suc n) 0 (omega arith)) at e))
later_read P cs n low high bits (b ∷ rest) ds e k =
    let so : (s : Decoding) → next_byte (inside cs (suc n) low high bits) b ≡ s → decoded (decode s rest) ≡ some ds =
    λ s q. subst (λ s. decoded (decode s rest) ≡ some ds) q e in
    let bad : within low high b ≡ false → P (b ∷ rest) = λ z. absurd (stays_broken rest ds (so _ (later_bad cs n low high bits b z))) in
    up_to low b (λ l. up_to b high (λ h. k b rest l h (so _ (later_good cs n low high bits b l h))) (λ h. bad (above low high b h)))
    (λ l. bad (below low high b l))

-- the text begins with a character, and the rest is decoded after it
record Character (cs text ds : List ℕ) : Type 0 where
  number : ℕ
  rest : List ℕ
  scalar : Scalar number
  bytes : text ≡ encoded number ++ rest
  shorter : length rest < length text
  next : decoded (decode (between (cs ++ number ∷ [])) rest) ≡ some ds

module _ (cs : List ℕ) (b : ℕ) (text ds : List ℕ) where
  read_two : 0xc2 ≤ b → b ≤ 0xdf → decoded (decode (inside cs 1 0x80 0xbf (b - 0xc0)) text) ≡ some ds → Character cs (b ∷ text) ds
  unfolding then
  read_two bl bh e = later_read (λ t. Character cs (b ∷ t) ds) cs 0 0x80 0xbf (b - 0xc0) text ds e λ c rest cl ch next.
      record {
        number = (b - 0xc0) * 64 + (c - 0x80);
        rest = rest;
        scalar = omega arith;
        bytes = rw (encoded_two b c bl bh cl ch);
        shorter = omega arith;
        next = next;
      }

  read_three : 0xe0 ≤ b → b ≤ 0xef → (led : Led cs b 2 0xe0 (NextOfThree b)) →
      decoded (decode (inside cs 2 led.low led.high (b - 0xe0)) text) ≡ some ds → Character cs (b ∷ text) ds
  unfolding then
  read_three bl bh led e =
      later_read (λ t. Character cs (b ∷ t) ds) cs 1 led.low led.high (b - 0xe0) text ds e λ c t₁ cl ch e₁.
      let n = (led.range c).0 (cl, ch) in
      let m : ℕ = (b - 0xe0) * 64 + (c - 0x80) in
      later_read (λ t. Character cs (b ∷ c ∷ t) ds) cs 0 0x80 0xbf m t₁ ds e₁ λ d rest dl dh next.
      record {
        number = m * 64 + (d - 0x80);
        rest = rest;
        scalar = record { in_range = omega arith; no_surrogate = λ z. n.no_surrogate (omega arith) };
        bytes = rw (encoded_three b c d bl bh n dl dh);
        shorter = omega arith;
        next = next;
      }

  read_four : 0xf0 ≤ b → b ≤ 0xf4 → (led : Led cs b 3 0xf0 (NextOfFour b)) →
      decoded (decode (inside cs 3 led.low led.high (b - 0xf0)) text) ≡ some ds → Character cs (b ∷ text) ds
  unfolding then
  read_four bl bh led e =
      later_read (λ t. Character cs (b ∷ t) ds) cs 2 led.low led.high (b - 0xf0) text ds e λ c t₁ cl ch e₁.
      let n = (led.range c).0 (cl, ch) in
      let m : ℕ = (b - 0xf0) * 64 + (c - 0x80) in
      later_read (λ t. Character cs (b ∷ c ∷ t) ds) cs 1 0x80 0xbf m t₁ ds e₁ λ d t₂ dl dh e₂.
      later_read (λ t. Character cs (b ∷ c ∷ d ∷ t) ds) cs 0 0x80 0xbf (m * 64 + (d - 0x80)) t₂ ds e₂ λ f rest fl fh next.
      record {
        number = (m * 64 + (d - 0x80)) * 64 + (f - 0x80);
        rest = rest;
        scalar = omega arith;
        bytes = rw (encoded_four b c d f bl bh n dl dh fl fh);
        shorter = omega arith;
        next = next;
      }

  read_first : decoded (decode (first_byte cs b) text) ≡ some ds → Character cs (b ∷ text) ds
  read_first e =
      let so : (s : Decoding) → first_byte cs b ≡ s → decoded (decode s text) ≡ some ds = λ s q. subst (λ s. decoded (decode s text) ≡ some ds) q e in
      up_to b 0x7f (λ h. record {
        number = b;
        rest = text;
        scalar = omega arith;
        bytes = rw (encoded_one b h);
        shorter = omega arith;
        next = so _ (first_one cs b h);
      }) λ one.
      up_to b 0xc1 (λ h. absurd (stays_broken text ds (so _ (no_first cs b one (omega arith))))) λ no.
      up_to b 0xdf (λ h. read_two no h (so _ (first_two cs b no h))) λ two.
      up_to b 0xef (λ h. let led = first_three cs b two h in read_three two h led (so _ led.state)) λ three.
      up_to b 0xf4 (λ h. let led = first_four cs b three h in read_four three h led (so _ led.state)) λ four.
      absurd (stays_broken text ds (so _ (past_first cs b four)))

-- what is decoded after the characters cs: cs and more, whose bytes the text is
record Read (cs text ds : List ℕ) : Type 0 where
  more : List ℕ
  scalars : AllScalar more
  bytes : text ≡ encoded_all more
  all : ds ≡ cs ++ more

none_scalar : AllScalar []
none_scalar x i = elim i [ ]

cons_scalar : {x : ℕ} {xs : List ℕ} → Scalar x → AllScalar xs → AllScalar (x ∷ xs)
cons_scalar s all y (here xs) = s
cons_scalar s all y (later x xs i) = all y i

read_end : (cs ds : List ℕ) → decoded (decode (between cs) []) ≡ some ds → Read cs [] ds
unfolding decode decoded between encoded_all
read_end cs ds e = record { more = []; scalars = none_scalar; bytes = refl; all = sym (some-injective _ _ e) ∙ sym (append-nil cs) }

-- by the length of the text, of which k is a bound
read : (k : ℕ) (cs text ds : List ℕ) → length text ≤ k → decoded (decode (between cs) text) ≡ some ds → Read cs text ds
unfolding decode between next_byte encoded_all
read zero cs [] ds l e = read_end cs ds e
read (suc k) cs [] ds l e = read_end cs ds e
read zero cs (b ∷ text) ds l e = absurd (omega arith)
read (suc k) cs (b ∷ text) ds l e =
    let c = read_first cs b text ds e in
    let r = read k (cs ++ c.number ∷ []) c.rest ds (omega arith) c.next in
    record {
      more = c.number ∷ r.more;
      scalars = cons_scalar c.scalar r.scalars;
      bytes = c.bytes ∙ ap (λ t. encoded c.number ++ t) r.bytes;
      all = r.all ∙ append_assoc cs _ _;
    }

-- From characters to the text that is decoded into them
by_byte : (s : Decoding) (b : ℕ) (rest : List ℕ) {t : Decoding} → next_byte s b ≡ t → decode s (b ∷ rest) ≡ decode t rest
unfolding decode
by_byte s b rest e = ap (λ t. decode t rest) e

first_byte_lem : (cs : List ℕ) (b : ℕ) (rest : List ℕ) {t : Decoding} → first_byte cs b ≡ t → decode (between cs) (b ∷ rest) ≡ decode t rest
unfolding next_byte between
first_byte_lem cs b rest e = by_byte (between cs) b rest e

later_byte_lem : (cs : List ℕ) (n low high bits b : ℕ) (rest : List ℕ) → low ≤ b → b ≤ high →
    decode (inside cs (suc n) low high bits) (b ∷ rest) ≡ decode (then cs n (bits * 64 + (b - 0x80))) rest
later_byte_lem cs n low high bits b rest l h = by_byte (inside cs (suc n) low high bits) b rest (later_good cs n low high bits b l h)

-- the bytes of x bring x
abbrev Brings : List ℕ → List ℕ → ℕ → Type 0
Brings cs rest x = decode (between cs) (encoded x ++ rest) ≡ decode (between (cs ++ x ∷ [])) rest

module _ (cs rest : List ℕ) where
  write_one : (x : ℕ) → x ≤ 0x7f → Brings cs rest x
  write_one x h = rw (encoded_one x h) (first_byte_lem cs x rest (first_one cs x h))

  write_two : (b c : ℕ) → 0xc2 ≤ b → b ≤ 0xdf → 0x80 ≤ c → c ≤ 0xbf → Brings cs rest ((b - 0xc0) * 64 + (c - 0x80))
  unfolding then
  write_two b c bl bh cl ch = rw (encoded_two b c bl bh cl ch)
      (first_byte_lem cs b (c ∷ rest) (first_two cs b bl bh) ∙ later_byte_lem cs 0 0x80 0xbf (b - 0xc0) c rest cl ch)

  write_three : (b c d : ℕ) → 0xe0 ≤ b → b ≤ 0xef → NextOfThree b c → 0x80 ≤ d → d ≤ 0xbf → Brings cs rest (((b - 0xe0) * 64 + (c - 0x80)) * 64 + (d - 0x80))
  unfolding then
  write_three b c d bl bh n dl dh =
      let led = first_three cs b bl bh in
      let r = (led.range c).1 n in
      rw (encoded_three b c d bl bh n dl dh)
      (first_byte_lem cs b (c ∷ d ∷ rest) led.state ∙ later_byte_lem cs 1 led.low led.high (b - 0xe0) c (d ∷ rest) r.0 r.1
      ∙ later_byte_lem cs 0 0x80 0xbf ((b - 0xe0) * 64 + (c - 0x80)) d rest dl dh)

  write_four : (b c d f : ℕ) → 0xf0 ≤ b → b ≤ 0xf4 → NextOfFour b c → 0x80 ≤ d → d ≤ 0xbf → 0x80 ≤ f → f ≤ 0xbf →
      Brings cs rest ((((b - 0xf0) * 64 + (c - 0x80)) * 64 + (d - 0x80)) * 64 + (f - 0x80))
  unfolding then
  write_four b c d f bl bh n dl dh fl fh =
      let led = first_four cs b bl bh in
      let r = (led.range c).1 n in
      let m : ℕ = (b - 0xf0) * 64 + (c - 0x80) in
      rw (encoded_four b c d f bl bh n dl dh fl fh)
      (first_byte_lem cs b (c ∷ d ∷ f ∷ rest) led.state ∙ later_byte_lem cs 2 led.low led.high (b - 0xf0) c (d ∷ f ∷ rest) r.0 r.1
      ∙ later_byte_lem cs 1 0x80 0xbf m d (f ∷ rest) dl dh ∙ later_byte_lem cs 0 0x80 0xbf (m * 64 + (d - 0x80)) f rest fl fh)

  write : (x : ℕ) → Scalar x → Brings cs rest x
  write x s =
      up_to x 0x7f (λ h. write_one x h) λ one.
      up_to x 0x7ff (λ h. subst (Brings cs rest) (omega arith)
      (write_two (0xc0 + x / 64) (0x80 + x % 64) (omega arith) (omega arith) (omega arith) (omega arith))) λ two.
      let p : x / 4096 * 64 + x / 64 % 64 ≡ x / 64 = omega arith in
      up_to x 0xffff (λ h. subst (Brings cs rest) (omega arith)
      (write_three (0xe0 + x / 4096) (0x80 + x / 64 % 64) (0x80 + x % 64) (omega arith) (omega arith)
      (record { from = omega arith; to = omega arith; no_shorter = omega arith; no_surrogate = λ z. s.no_surrogate (omega arith) })
      (omega arith) (omega arith))) λ three.
      let q : x / 262144 * 64 + x / 4096 % 64 ≡ x / 4096 = omega arith in
      subst (Brings cs rest) (omega arith)
      (write_four (0xf0 + x / 262144) (0x80 + x / 4096 % 64) (0x80 + x / 64 % 64) (0x80 + x % 64)
      (omega arith) (omega arith) (omega arith) (omega arith) (omega arith) (omega arith) (omega arith))

write_all : (cs xs : List ℕ) → AllScalar xs → decode (between cs) (encoded_all xs) ≡ between (cs ++ xs)
unfolding decode encoded_all
write_all cs [] all = ap between (sym (append-nil cs))
write_all cs (x ∷ xs) all =
    write cs (encoded_all xs) x (all x (here xs)) ∙ write_all (cs ++ x ∷ []) xs (λ y i. all y (later x xs i)) ∙ ap between (append_assoc cs _ _)

-- "well-formed UTF-8 (RFC 3629)", of any list of numbers: that each is a byte follows on either side
pub utf8_exactly : (text cs : List ℕ) → (characters_of text ≡ some cs) ↔ (AllScalar cs × (text ≡ encoded_all cs))
unfolding characters_of decoded between
utf8_exactly text cs = (
  λ e. let r = read (length text) [] text cs (omega arith) e in rw r.all (r.scalars, r.bytes),
  λ h. rw (h.1, write_all [] cs h.0),
)
