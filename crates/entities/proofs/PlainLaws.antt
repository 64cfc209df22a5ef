-- The byte whose escaped form a text begins with.
use Rattle.std.proofs.Common.{◌≡◌, refl, ap, sym, ◌∙◌, ℕ, zero, suc, ◌-◌, ◌≤◌, ◌<◌, Bool, true, false, List, [], ◌∷◌, length, take, drop, get_or, length-append, arith}
use Rattle.std.specs.Prelude.{Option as Maybe, Some, None}
use Rattle.std.proofs.Math.ListN.{drop_of_length-le}
use Rattle.std.proofs.Math.Seq.{drop-cons}
use Rattle.std.specs.Bool.{then_some}
use Rattle.std.proofs.lemmas.Bool.{false≢true}
use Rattle.std.proofs.Math.Option.{none, some, none-ne-some}
use Rattle.rules.specs.Faults.{on_found}
use Rattle.rules.specs.Escape.{entity, begins, first_of, plain_byte, unescaped_after, unescaped}
use Rattle.laws.specs.Escapes.{ampersand, less, greater, quote, apostrophe, itself, turned, plain_byte_itself, plain_byte_begins, entity_itself, entity_some, unescaped_after_lem}
use Rattle.entities.specs.declared.entity.Plain.{Plain}
use Rattle.entities.proofs.EscapeLaws.{entity_short, own_entity}
use Rattle.entities.specs.Entity.{own, plain_in, Read, Reads, Begun, PlainAt}

-- A byte that stands for itself, and one of the five that begins no entity

own_byte : (b : ℕ) (bs : List ℕ) → entity b ≡ b ∷ [] → plain_byte b bs ≡ some b
unfolding entity
own_byte b bs e = elim (turned b) [
  | ampersand i ↦ absurd (omega (arith, ap length (rw i at e)))
  | less i ↦ absurd (omega (arith, ap length (rw i at e)))
  | greater i ↦ absurd (omega (arith, ap length (rw i at e)))
  | quote i ↦ absurd (omega (arith, ap length (rw i at e)))
  | apostrophe i ↦ absurd (omega (arith, ap length (rw i at e)))
  | itself i j k l m ↦ plain_byte_itself b bs i j k l m
]

markup_byte : (b : ℕ) (bs : List ℕ) → (b ≡ 0x26 → ⊥) → own b ≡ false → plain_byte b bs ≡ none
unfolding plain_byte first_of begins entity own
markup_byte b bs n e = elim (turned b) [
  | ampersand i ↦ absurd (n i)
  | less i ↦ rw i
  | greater i ↦ rw i
  | quote i ↦ rw i
  | apostrophe i ↦ rw i
  | itself i j k l m ↦ absurd (false≢true (sym e ∙ rw (entity_itself b i j k l m)))
]

module _ (text : List ℕ) (at : ℕ) where
  pub own_form : {b : ℕ} → at < length text → b ≡ get_or text at 0 → own b ≡ true → Read (drop at text) (record { byte = b; length = 1 })
  unfolding plain_in
  own_form l f e = rw (drop-cons text at 0 l, ← f) record { told = own_byte _ _ (own_entity _ e); long = rw (own_entity _ e) }

  pub own_or_none : {b : ℕ} → at < length text → b ≡ get_or text at 0 → (b ≡ 0x26 → ⊥) → (t : Bool) → t ≡ own b
      → {r : Maybe Plain} → r ≡ then_some t (record { byte = b; length = 1 }) → Reads (drop at text) r
  unfolding plain_in
  own_or_none l f n true o e = rw e (own_form l f (sym o))
  own_or_none l f n false o e = rw (e, drop-cons text at 0 l, ← f) (markup_byte _ _ n (sym o))

  pub past_end : length text ≤ at → {r : Maybe Plain} → r ≡ None → Reads (drop at text) r
  unfolding plain_in
  past_end l e = rw (e, drop_of_length-le text {i = at} l)

-- What was read, and what the inverse makes of it

module _ (b : ℕ) (bs : List ℕ) where
  read_one : (c n : ℕ) → plain_byte b bs ≡ some c → n ≡ length (entity c) → 1 ≤ n → length (entity c) - 1 ≤ length bs
      → unescaped (b ∷ bs) ≡ on_found (unescaped (drop n (b ∷ bs))) none λ x. some (c ∷ x)
  unfolding unescaped unescaped_after on_found
  read_one c zero e k l m = absurd (omega arith)
  read_one c (suc n) e k l m =
      let h : length (entity c) - 1 ≡ n = omega arith in
      rw (e, unescaped_after_lem (length (entity c) - 1) bs m, h)

  read_none : plain_byte b bs ≡ none → unescaped (b ∷ bs) ≡ none
  unfolding unescaped unescaped_after on_found
  read_none e = rw e

  module _ (r : Plain) (h : Read (b ∷ bs) r) where
    some_byte : plain_byte b bs ≡ some r.byte
    unfolding plain_in
    some_byte = h.told

    byte_inside : r.length ≤ length (b ∷ bs)
    byte_inside =
        let f = ap length (plain_byte_begins b r.byte bs some_byte) ∙ length-append (entity r.byte) _ in
        omega (arith, h.long)

    begun : Begun (b ∷ bs) r
    begun = record {
      one = read_one r.byte r.length some_byte h.long (omega (arith, h.long, entity_some r.byte)) (omega (arith, h.long, byte_inside));
      inside = byte_inside;
      onward = omega (arith, h.long, entity_some r.byte);
      short = omega (arith, h.long, entity_short r.byte);
    }

pub plain_of_lem : (text : List ℕ) (r : Maybe Plain) → 1 ≤ length text → Reads text r → PlainAt text r
unfolding plain_in
plain_of_lem [] r l h = absurd (omega arith)
plain_of_lem (b ∷ bs) None l h = read_none b bs h
plain_of_lem (b ∷ bs) (Some r) l h = begun b bs r h

-- what begins with a byte's escaped form is not empty
pub read_some : (text : List ℕ) {r : Plain} → Read text r → 1 ≤ length text
unfolding plain_in
read_some [] {r} p = absurd (none-ne-some r.byte p.told)
read_some (b ∷ bs) p = omega arith

-- six bytes tell
begins_take : (xs text : List ℕ) (n : ℕ) → length xs ≤ n → begins xs (take n text) ≡ begins xs text
unfolding begins
begins_take [] text n l = refl
begins_take (x ∷ xs) text zero l = absurd (omega arith)
begins_take (x ∷ xs) [] (suc n) l = refl
begins_take (x ∷ xs) (b ∷ bs) (suc n) l = rw (begins_take xs bs n (omega arith))

plain_take : (b : ℕ) (bs : List ℕ) → plain_byte b (take 5 bs) ≡ plain_byte b bs
unfolding plain_byte first_of
plain_take b bs =
    let w : (c : ℕ) → begins (entity c) (b ∷ take 5 bs) ≡ begins (entity c) (b ∷ bs) = λ c. begins_take (entity c) (b ∷ bs) 6 (entity_short c) in
    rw (w 0x26, w 0x3c, w 0x3e, w 0x22, w 0x27, w b)

pub reads_take : (text : List ℕ) (r : Maybe Plain) → Reads (take 6 text) r → Reads text r
unfolding plain_in
reads_take [] None h = h
reads_take [] (Some r) h = h
reads_take (b ∷ bs) None h = sym (plain_take b bs) ∙ h
reads_take (b ∷ bs) (Some r) h = record { told = sym (plain_take b bs) ∙ h.told; long = h.long }
