-- UTF-8 without characters and bits goes as the decoding does.
use Rattle.std.proofs.Common.{◌≡◌, refl, ap, sym, ◌∙◌, ℕ, ◌-◌, ◌≤◌, ◌<◌, List, [], ◌∷◌, Bool, true, false, cond, eqb, arith, ne_eqb, ◌⊎◌, inl, inr}
use Rattle.std.specs.Prelude.{Option as Maybe, Some, None, option_and_then}
use Rattle.std.proofs.Math.Option.{some, none}
use borrow.Author.Tests.{le-leb, lt-leb}
use Rattle.rules.specs.Faults.{exists}
use Rattle.rules.specs.Lexeme.{Decoding, between, inside, broken, first_byte, later_byte, next_byte, decode, decoded, characters_of}
use Rattle.laws.specs.FirstBytes.{first_plain}
use Rattle.entities.specs.declared.utf8.Utf8.{Utf8}
use Rattle.entities.specs.Utf8.{shape, calm, due_in, resumed, next_shape, shapes, is_end}

-- what is between characters or inside one has its shape, whatever came before; what is broken has none. A test decides for a shape as for a decoding
pub shape_between : (cs : List ℕ) → shape (between cs) ≡ Some calm
unfolding shape between
shape_between cs = refl

pub shape_inside : (cs : List ℕ) (n low high bits : ℕ) → shape (inside cs n low high bits) ≡ Some (due_in n low high)
unfolding shape inside
shape_inside cs n low high bits = refl

pub shape_broken : shape broken ≡ None
unfolding shape broken
shape_broken = refl

shape_cond : (t : Bool) (d e : Decoding) → shape (cond t d e) ≡ cond t (shape d) (shape e)
shape_cond true d e = refl
shape_cond false d e = refl

shape_first : (cs : List ℕ) (b : ℕ) → shape (first_byte cs b) ≡ shape (first_byte [] b)
unfolding first_byte
shape_first cs b = simp (shape_cond, shape_between, shape_inside)

module _ (n low high bits : ℕ) (cs : List ℕ) where
  abbrev decoding : Bool → Decoding
  decoding v = record { valid = v; due = n; low = low; high = high; bits = bits; characters = cs }

  shape_later : (b : ℕ) → shape (later_byte (decoding true) b) ≡ shape (later_byte (resumed (due_in n low high)) b)
  unfolding later_byte
  shape_later b = simp (shape_cond, shape_between, shape_inside)

  shape_goes : (v : Bool) (b : ℕ) → shape (next_byte (decoding v) b) ≡ option_and_then (λ u. next_shape u b) (shape (decoding v))
  unfolding shape next_byte next_shape broken
  shape_goes true b = simp (shape_cond, shape_first cs b, shape_later b)
  shape_goes false b = refl

pub shape_next : (d : Decoding) (b : ℕ) → shape (next_byte d b) ≡ option_and_then (λ u. next_shape u b) (shape d)
shape_next d b = shape_goes d.due d.low d.high d.bits d.characters d.valid b

pub shape_decode : (d : Decoding) (x : List ℕ) → shape (decode d x) ≡ shapes (shape d) x
unfolding decode shapes
shape_decode d [] = refl
shape_decode d (b ∷ bs) = shape_decode (next_byte d b) bs ∙ ap (λ (u : Maybe Utf8). shapes u bs) (shape_next d b)

ends : (v : Bool) (n low high bits : ℕ) (cs : List ℕ) → exists (decoded (decoding n low high bits cs v)) ≡ is_end (shape (decoding n low high bits cs v))
unfolding decoded is_end shape exists
ends true n low high bits cs = go (eqb n 0)
  where
    go : (t : Bool) → exists (cond t (some cs) none) ≡ t
    go true = refl
    go false = refl
ends false n low high bits cs = refl

pub ends_well : (x : List ℕ) → exists (characters_of x) ≡ is_end (shapes (shape (between [])) x)
unfolding characters_of
ends_well x =
    let d = decode (between []) x in
    rw (← shape_decode (between []) x) (ends d.valid d.due d.low d.high d.bits d.characters)

-- The code's ways

module _ (b : ℕ) where
  pub first_calm : b ≤ 0x7f → Some calm ≡ shape (first_byte [] b)
  first_calm l = sym (rw (first_plain b (omega arith)) (shape_between _))

  pub first_broken : first_byte [] b ≡ broken → None ≡ shape (first_byte [] b)
  first_broken f = sym (rw f shape_broken)

  pub first_due : {n low high : ℕ} (bits : ℕ) {r : Utf8} → first_byte [] b ≡ inside [] n low high bits → r ≡ due_in n low high → Some r ≡ shape (first_byte [] b)
  first_due bits f e = rw (f, e) (sym (shape_inside _ _ _ _ _))

module _ (u : Utf8) (b : ℕ) where
  pub later_out : (b < u.low) ⊎ ((u.low ≤ b) × (u.high < b)) → None ≡ shape (later_byte (resumed u) b)
  unfolding later_byte
  later_out (inl l) = sym (rw (lt-leb u.low b l) shape_broken)
  later_out (inr m) = sym (rw (le-leb u.low b m.0, lt-leb b u.high m.1) shape_broken)

  pub later_last : u.low ≤ b → b ≤ u.high → u.due ≡ 1 → Some calm ≡ shape (later_byte (resumed u) b)
  unfolding later_byte
  later_last l m d = sym (rw (le-leb u.low b l, le-leb b u.high m, d) (shape_between _))

  pub later_more : {r : Utf8} → u.low ≤ b → b ≤ u.high → (u.due ≡ 1 → ⊥) → r ≡ due_in (u.due - 1) 0x80 0xbf → Some r ≡ shape (later_byte (resumed u) b)
  unfolding later_byte
  later_more l m d e = rw e (sym (rw (le-leb u.low b l, le-leb b u.high m, ne_eqb u.due 1 d) (shape_inside _ _ _ _ _)))

  pub next_first : {r : Maybe Utf8} → u.due ≡ 0 → r ≡ shape (first_byte [] b) → r ≡ next_shape u b
  unfolding next_shape next_byte
  next_first d e = e ∙ sym (rw d)

  pub next_later : {r : Maybe Utf8} → (u.due ≡ 0 → ⊥) → r ≡ shape (later_byte (resumed u) b) → r ≡ next_shape u b
  unfolding next_shape next_byte
  next_later d e = e ∙ sym (rw (ne_eqb u.due 0 d))
