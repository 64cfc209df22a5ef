-- Escaping a second time, in the words of 02 c: which bytes are turned into which entities, and the escaped form of a text. `escape` of `rules` gives
-- exactly these, and `unescaped` is their inverse.
-- Goes on from specs/Entities.antt: what rests on definitions that a must-fail edit changes.
use Rattle.std.specs.Prelude.{◌≡◌, refl, ◌↔◌, ℕ, List, [], ◌∷◌}
use Rattle.std.proofs.Common.{sym, subst}
use Rattle.std.proofs.Math.Option.{some}
use Rattle.rules.specs.Escape.{entity, escape, unescaped}
use Rattle.laws.specs.Faults.{In, here, later}
use Rattle.laws.specs.Escapes.{ampersand, less, greater, quote, apostrophe, itself, turned, entity_itself, unescaped_of_escape, escape_of_unescaped}
use Rattle.theorems.specs.HeadByHead.{in_cons}
use Rattle.theorems.specs.Least.{in_none}
use Rattle.theorems.specs.Entities.{spelt, Entity, amp, lt, gt, quot, apos, stays, EscapedForm, of_nothing, of_byte}

-- a byte that is none of the five
no_markup : (b : ℕ) → (b ≡ 0x26 → ⊥) → (b ≡ 0x3c → ⊥) → (b ≡ 0x3e → ⊥) → (b ≡ 0x22 → ⊥) → (b ≡ 0x27 → ⊥) → In b (spelt "&<>\"'") → ⊥
unfolding spelt
no_markup b i j k l m h =
    in_cons (λ c. c ≡ b → ⊥) (λ e. i (sym e))
    (λ c. in_cons (λ c. c ≡ b → ⊥) (λ e. j (sym e))
    (λ c. in_cons (λ c. c ≡ b → ⊥) (λ e. k (sym e))
    (λ c. in_cons (λ c. c ≡ b → ⊥) (λ e. l (sym e))
    (λ c. in_cons (λ c. c ≡ b → ⊥) (λ e. m (sym e)) (λ c n. absurd (in_none n)))))) h refl

entity_of : (b : ℕ) → Entity b (entity b)
unfolding entity spelt
entity_of b = elim (turned b) [
  | ampersand i ↦ rw i amp
  | less i ↦ rw i lt
  | greater i ↦ rw i gt
  | quote i ↦ rw i quot
  | apostrophe i ↦ rw i apos
  | itself i j k l m ↦ rw (entity_itself b i j k l m) (stays b (no_markup b i j k l m))
]

of_entity : {b : ℕ} {e : List ℕ} → Entity b e → entity b ≡ e
unfolding entity spelt
of_entity amp = refl
of_entity lt = refl
of_entity gt = refl
of_entity quot = refl
of_entity apos = refl
of_entity (stays b n) =
    entity_itself b (λ e. n (rw e (here _))) (λ e. n (rw e (later _ _ (here _)))) (λ e. n (rw e (later _ _ (later _ _ (here _)))))
    (λ e. n (rw e (later _ _ (later _ _ (later _ _ (here _)))))) (λ e. n (rw e (later _ _ (later _ _ (later _ _ (later _ _ (here _)))))))

-- the table of entities, a second time: an entity that is spelt otherwise, or a byte more or less that is turned, breaks it
pub entities_are : (b : ℕ) (e : List ℕ) → (entity b ≡ e) ↔ Entity b e
entities_are b e = (λ h. subst (Entity b) h (entity_of b), of_entity)

form_of : (x : List ℕ) → EscapedForm x (escape x)
unfolding escape
form_of [] = of_nothing
form_of (b ∷ bs) = of_byte b bs (entity b) (escape bs) (entity_of b) (form_of bs)

of_form : {x text : List ℕ} → EscapedForm x text → escape x ≡ text
unfolding escape
of_form of_nothing = refl
of_form (of_byte b bs e text h r) = rw (of_entity h, of_form r)

pub escape_exactly : (x text : List ℕ) → (escape x ≡ text) ↔ EscapedForm x text
escape_exactly x text = (λ e. subst (EscapedForm x) e (form_of x), of_form)

-- and its inverse finds the text whose escaped form it is given
pub unescaped_exactly : (text x : List ℕ) → (unescaped text ≡ some x) ↔ EscapedForm x text
unfolding unescaped
unescaped_exactly text x = (
  λ e. (escape_exactly x text).0 (escape_of_unescaped 0 text x e),
  λ h. rw (← (escape_exactly x text).1 h) (unescaped_of_escape x),
)
