-- Escaping by characters. 02 c speaks of characters, `escape` goes by bytes; it comes to the same, and an escaped form is well-formed UTF-8 again.
-- Goes on from specs/EscapedCharacters.antt: what rests on definitions that a must-fail edit changes.
use Rattle.std.specs.Prelude.{◌≡◌, ◌↔◌, ℕ, ◌+◌, ◌/◌, ◌%◌, ◌≤◌, Bool, true, false, cond, ◌&&◌, leb}
use Rattle.std.proofs.Math.Path.{refl}
use Rattle.std.proofs.Common.{sym, ◌∙◌, ap, inl, inr, arith}
use mathlib.Core.List.{List, [], ◌∷◌, ◌++◌, append_assoc, append-nil}
use Rattle.rules.specs.Escape.{entity, escape}
use Rattle.rules.specs.Lexeme.{within}
use Rattle.laws.specs.Faults.{In, here, later, in_append, and_iff}
use Rattle.laws.specs.Escapes.{entity_itself}
use Rattle.theorems.specs.HeadByHead.{in_cons}
use Rattle.theorems.specs.Least.{in_none}
use Rattle.theorems.specs.Utf8.{Scalar, AllScalar, encoded, encoded_all, within_iff}
use Rattle.theorems.specs.Entities.{spelt, Entity, amp, lt, gt, quot, apos, stays, EscapedForm, of_nothing, of_byte}
use Rattle.theorems.proofs.Entities.{entities_are, escape_exactly}
use Rattle.theorems.specs.Escaping.{WellFormedUtf8}
use Rattle.theorems.specs.EscapedCharacters.{encoded_append}

-- Texts in a row
escape_append : (xs ys : List ℕ) → escape (xs ++ ys) ≡ escape xs ++ escape ys
unfolding escape
escape_append [] ys = refl
escape_append (x ∷ xs) ys = ap (λ (t : List ℕ). entity x ++ t) (escape_append xs ys) ∙ sym (append_assoc (entity x) _ _)

-- a byte that isn't ASCII stays as it is, and so do the bytes of a character that is none of the five
high_stays : (b : ℕ) (bs : List ℕ) → 0x80 ≤ b → escape bs ≡ bs → escape (b ∷ bs) ≡ b ∷ bs
unfolding escape
high_stays b bs l e = rw (entity_itself b (omega arith) (omega arith) (omega arith) (omega arith) (omega arith), e)

cond_stays : (t : Bool) (xs ys : List ℕ) → escape xs ≡ xs → escape ys ≡ ys → escape (cond t xs ys) ≡ cond t xs ys
cond_stays true xs ys d e = d
cond_stays false xs ys d e = e

encoded_stays : (x : ℕ) → escape (x ∷ []) ≡ x ∷ [] → escape (encoded x) ≡ encoded x
unfolding encoded
encoded_stays x e =
    let z : escape [] ≡ [] = unfold escape in refl in
    let last = high_stays (0x80 + x % 64) [] (omega arith) z in
    let third = high_stays (0x80 + x / 64 % 64) _ (omega arith) last in
    let second = high_stays (0x80 + x / 4096 % 64) _ (omega arith) third in
    cond_stays (leb x 0x7f) _ _ e
    (cond_stays (leb x 0x7ff) _ _ (high_stays (0xc0 + x / 64) _ (omega arith) last)
    (cond_stays (leb x 0xffff) _ _ (high_stays (0xe0 + x / 4096) _ (omega arith) third)
    (high_stays (0xf0 + x / 262144) _ (omega arith) second)))

character : {x : ℕ} {e : List ℕ} → Entity x e → escape (encoded x) ≡ encoded_all e
unfolding spelt escape entity encoded encoded_all
character amp = refl
character lt = refl
character gt = refl
character quot = refl
character apos = refl
character (stays x n) =
    encoded_stays x (ap (λ (t : List ℕ). t ++ []) ((entities_are x (x ∷ [])).1 (stays x n))) ∙ sym (append-nil (encoded x))

form_encoded : {cs ds : List ℕ} → EscapedForm cs ds → escape (encoded_all cs) ≡ encoded_all ds
unfolding escape encoded_all
form_encoded of_nothing = refl
form_encoded (of_byte c cs e ds h r) =
    escape_append (encoded c) (encoded_all cs) ∙ rw (character h, form_encoded r) (sym (encoded_append e ds))

-- "& < > " ' turned into the five predefined entities", of characters: the five and their entities are ASCII, so `escape` turns code points as it turns
-- bytes. The bytes of any characters, escaped, are the bytes of the characters that these are turned into.
pub escape_by_characters : (cs : List ℕ) → escape (encoded_all cs) ≡ encoded_all (escape cs)
escape_by_characters cs = form_encoded ((escape_exactly cs (escape cs)).0 refl)

-- the same in words: the escaped form of the bytes of characters, and nothing else, is the bytes of the escaped form of the characters
pub form_by_characters : (cs text : List ℕ) → EscapedForm (encoded_all cs) text ↔ ((ds : List ℕ) × EscapedForm cs ds × (text ≡ encoded_all ds))
form_by_characters cs text = (
  λ h. (escape cs, (escape_exactly cs (escape cs)).0 refl, sym ((escape_exactly (encoded_all cs) text).1 h) ∙ escape_by_characters cs),
  λ h. (escape_exactly (encoded_all cs) text).0 (form_encoded h.1 ∙ sym h.2),
)

-- What holds of every printable character of ASCII, and of each character of a text, holds of each character of its escaped form.
unfoldable printable : List ℕ → Bool
printable [] = true
printable (c ∷ cs) = within 0x20 0x7e c && printable cs

module _ (P : ℕ → Type 0) (of-printable : (x : ℕ) → 0x20 ≤ x → x ≤ 0x7e → P x) where
  all_printable : (cs : List ℕ) → printable cs ≡ true → (x : ℕ) → In x cs → P x
  unfolding printable
  all_printable [] e x i = absurd (in_none i)
  all_printable (c ∷ cs) e x i =
      let (h, k) = (and_iff (within 0x20 0x7e c) (printable cs)).0 e in
      let (l, m) = (within_iff 0x20 0x7e c).0 h in
      in_cons P (of-printable c l m) (all_printable cs k) i

  of_entity : {x : ℕ} {e : List ℕ} → P x → Entity x e → (y : ℕ) → In y e → P y
  unfolding spelt printable
  of_entity s amp = all_printable _ refl
  of_entity s lt = all_printable _ refl
  of_entity s gt = all_printable _ refl
  of_entity s quot = all_printable _ refl
  of_entity s apos = all_printable _ refl
  of_entity s (stays x n) = λ y i. in_cons P s (λ z j. absurd (in_none j)) i

  of_form : {cs ds : List ℕ} → EscapedForm cs ds → ((x : ℕ) → In x cs → P x) → (x : ℕ) → In x ds → P x
  of_form of_nothing s x i = s x i
  of_form (of_byte c cs e ds h r) s x i = elim (in_append e ds i) [
    | inl j ↦ of_entity (s c (here cs)) h x j
    | inr j ↦ of_form r (λ y k. s y (later c cs k)) x j
  ]

  pub of_escaped : (cs : List ℕ) → ((x : ℕ) → In x cs → P x) → (x : ℕ) → In x (escape cs) → P x
  of_escaped cs = of_form ((escape_exactly cs (escape cs)).0 refl)

pub escaped_scalars : (cs : List ℕ) → AllScalar cs → AllScalar (escape cs)
escaped_scalars = of_escaped Scalar (λ x l m. omega arith)

-- what escaping makes of well-formed UTF-8 is well-formed UTF-8
pub escaped_well_formed : (x : List ℕ) → WellFormedUtf8 x → WellFormedUtf8 (escape x)
escaped_well_formed x (cs, s, e) =
    (escape cs, escaped_scalars cs s, ap escape e ∙ escape_by_characters cs)
