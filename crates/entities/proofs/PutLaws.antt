-- The plain text, written: byte by byte, or as it stands.
use Prim.Native.Nat.{ℕ, suc, ◌+◌, ◌≤◌, ◌<◌}
use mathlib.Core.Path.{◌≡◌, refl, ap, sym, ◌∙◌}
use mathlib.Core.List.{List, [], ◌∷◌, ◌++◌}
use Rattle.std.specs.Prelude.{Some, None}
use mathlib.Core.Option.{none, some, none-ne-some, some-injective}
use native.Mathlib.Omega.{arith}
use native.Mathlib.Numerals.{add-one}
use lib.ListN.{length, take, drop, set, get_or, length-append, length-drop, length-set}
use lib.Seq.{drop-drop, drop-cons}
use Rattle.rules.specs.Escape.{entity, escape, unescaped_after, unescaped}
use Rattle.laws.specs.Faults.{on_found_some}
use Rattle.laws.specs.Escapes.{ampersand, less, greater, quote, apostrophe, itself, turned, entity_itself, entity_some, escape_of_unescaped}
use Rattle.laws.specs.Writes.{copy_more, copy_all}
use Rattle.entities.specs.declared.entity.Plain.{Plain}
use Rattle.entities.specs.Entity.{plain_in, Read, Begun}
use Rattle.entities.specs.Measured.{Plainly}
use Rattle.entities.proofs.PlainLaws.{plain_of_lem, read_some}
use Rattle.entities.proofs.MeasureLaws.{unescaped_nothing}

-- The plain text, written byte by byte
pub record Putting (text out₀ out : List ℕ) (n at : ℕ) : Type 0 where
  pub plain : List ℕ
  pub is : unescaped text ≡ some plain
  pub fits : length plain ≤ length out₀
  pub few : n ≤ length plain
  pub inside : at ≤ length text
  pub rest : unescaped (drop at text) ≡ some (drop n plain)
  pub so_far : out ≡ take n plain ++ drop n out₀
  pub long : length out ≡ length out₀

-- what begins with no byte's escaped form, and is an escaped form, is empty
read_none : (text x : List ℕ) → plain_in text ≡ none → unescaped text ≡ some x → text ≡ []
read_none [] x p e = refl
read_none (b ∷ bs) x p e = absurd (none-ne-some x (sym (plain_of_lem (b ∷ bs) None (omega arith) p) ∙ e))

module _ {text out₀ out : List ℕ} {n at : ℕ} {r : Plain} (h : Putting text out₀ out n at) (p : Read (drop at text) r) where
  begun : Begun (drop at text) r
  begun = plain_of_lem (drop at text) (Some r) (read_some (drop at text) p) p

  next_some : (y : List ℕ) × (unescaped (drop (at + r.length) text) ≡ some y) × (r.byte ∷ y ≡ drop n h.plain)
  next_some =
      let (y, i, j) = on_found_some (unescaped (drop r.length (drop at text))) _ (drop n h.plain) (sym begun.one ∙ h.rest) in
      (y, ap unescaped (sym (drop-drop r.length at text)) ∙ i, some-injective (r.byte ∷ y) (drop n h.plain) j)

  pub put_grows : 1 ≤ r.length
  put_grows = begun.onward

  pub put_inside : at + r.length ≤ length text
  put_inside = omega (arith, begun.inside, h.inside, length-drop at text)

  put_more : n < length h.plain
  put_more = let (y, i, j) = next_some in omega (arith, ap length j, length-drop n h.plain)

  pub put_room : n < length out
  put_room = omega (arith, put_more, h.fits, h.long)

  cons_is : drop n h.plain ≡ get_or h.plain n 0 ∷ drop (suc n) h.plain
  cons_is = drop-cons h.plain n 0 put_more

  byte_is : r.byte ≡ get_or h.plain n 0
  byte_is = let (y, i, j) = next_some in ap (λ (x : List ℕ). get_or x 0 0) (j ∙ cons_is)

  pub put_turn : Putting text out₀ (set out n r.byte) (n + 1) (at + r.length)
  put_turn =
      let (y, i, j) = next_some in
      record {
        plain = h.plain;
        is = h.is;
        fits = h.fits;
        few = omega (arith, put_more);
        inside = put_inside;
        rest = i ∙ ap some (ap (drop 1) (j ∙ cons_is)) ∙ rw (add-one n);
        so_far = rw byte_is (copy_more h.plain out out₀ n put_more h.fits h.so_far);
        long = length-set out n r.byte ∙ h.long;
      }

pub put_end : {text out₀ out : List ℕ} {n at : ℕ} → Putting text out₀ out n at → plain_in (drop at text) ≡ none
    → (x : List ℕ) → unescaped text ≡ some x → out ≡ x ++ drop (length x) out₀
put_end {text} {out₀} {out} {n} {at} h p x e =
    let z : [] ≡ drop n h.plain =
    some-injective [] (drop n h.plain) (sym unescaped_nothing ∙ ap unescaped (sym (read_none (drop at text) (drop n h.plain) p h.rest)) ∙ h.rest) in
    let q : h.plain ≡ x = some-injective h.plain x (sym h.is ∙ e) in
    rw (← q) (copy_all h.plain out out₀ n h.few (omega (arith, ap length z, length-drop n h.plain)) h.so_far)

-- a plain text that is as long as its escaped form
unescaped_from : (text x : List ℕ) → unescaped text ≡ some x → unescaped_after 0 text ≡ some x
unfolding unescaped
unescaped_from text x e = e

no_entity : (b : ℕ) → length (entity b) ≤ 1 → entity b ≡ b ∷ []
unfolding entity
no_entity b l = elim (turned b) [
  | ampersand i ↦ absurd (too_long (rw i at l))
  | less i ↦ absurd (too_long (rw i at l))
  | greater i ↦ absurd (too_long (rw i at l))
  | quote i ↦ absurd (too_long (rw i at l))
  | apostrophe i ↦ absurd (too_long (rw i at l))
  | itself i j k m n ↦ entity_itself b i j k m n
]
  where
    too_long : {n : ℕ} → suc (suc n) ≤ 1 → ⊥
    too_long l = omega arith

escape_longer : (x : List ℕ) → length x ≤ length (escape x)
unfolding escape
escape_longer [] = omega arith
escape_longer (b ∷ bs) = simp length-append (omega (arith, entity_some b, escape_longer bs))

escape_same : (x : List ℕ) → length (escape x) ≤ length x → escape x ≡ x
unfolding escape
escape_same [] l = refl
escape_same (b ∷ bs) l =
    let m = simp length-append at l in
    rw (no_entity b (omega (arith, m, escape_longer bs)), escape_same bs (omega (arith, m, entity_some b)))

module _ (text out : List ℕ) {long : ℕ} (p : Plainly text (length out)) (q : (x : List ℕ) → unescaped text ≡ some x → long ≡ length x) (e : long ≡ length text) where
  own_form : p.plain ≡ text
  own_form =
      let f : escape p.plain ≡ text = escape_of_unescaped 0 text p.plain (unescaped_from text p.plain p.is) in
      sym (escape_same p.plain (omega (arith, ap length f, q p.plain p.is))) ∙ f

  pub copied : {last : List ℕ} → last ≡ text ++ drop (length text) out → (x : List ℕ) → unescaped text ≡ some x → last ≡ x ++ drop (length x) out
  copied f x g =
      let z : p.plain ≡ x = some-injective p.plain x (sym p.is ∙ g) in
      rw (sym z ∙ own_form) f
