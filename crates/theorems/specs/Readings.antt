-- What the records of classes, elements and types say, a second time and in the paper's words, so that a slip in the one reading breaks the agreement of the two.
use Rattle.std.specs.Prelude.{◌≡◌, refl, ◌↔◌, ℕ, zero, suc, ◌≤◌, List, [], map}
use Rattle.std.proofs.Common.{sym, ◌∙◌, subst, arith}
use Rattle.std.proofs.Math.Option.{Option, none, some, some-ne-none, some-injective}
use Rattle.rules.specs.Faults.{on_found}
use Rattle.rules.specs.Records.{kind_of, field_a, field_b, field_c, text_of}
use Rattle.rules.specs.Grammar.{class, plain_class, escaped_class, plain_of, Element, keyword, lexeme, nonterminal, repetition, unknown, element_numbered, element_at}
use Rattle.rules.specs.Templates.{TypeForm, text, yes_no, list, fields, cases, field_heads, type_numbered, type_at}
use Rattle.laws.specs.Sorts.{plain_class_iff, escaped_class_iff}

-- "1 class: a number ..", which is a plain one; 02 c: "Grammar record 5 declares an escaped class: a its number in the common row of classes,
-- b an earlier plain class". Class c is the plain, or the escaped one at p.
pub record Plain (g : List ℕ) (c p : ℕ) : Type 0 where
  pub of_number : class g c ≡ some p
  pub kind : kind_of g p ≡ 1

pub record Escaped (g : List ℕ) (c p : ℕ) : Type 0 where
  pub of_number : class g c ≡ some p
  pub kind : kind_of g p ≡ 5

pub plain_is : (g : List ℕ) (c p : ℕ) → (plain_class g c ≡ some p) ↔ Plain g c p
plain_is g c p = let h = plain_class_iff g c p in
    (λ e. let r = h.0 e in record { of_number = r.0; kind = r.1 }, λ r. h.1 (r.of_number, r.kind))

pub escaped_is : (g : List ℕ) (c p : ℕ) → (escaped_class g c ≡ some p) ↔ Escaped g c p
escaped_is g c p = let h = escaped_class_iff g c p in
    (λ e. let r = h.0 e in record { of_number = r.0; kind = r.1 }, λ r. h.1 (r.of_number, r.kind))

-- no class is both
pub not_both : {g : List ℕ} {c p q : ℕ} → Plain g c p → Escaped g c q → ⊥
not_both {g} {p = p} {q} a b =
    let e : p ≡ q = some-injective p q (sym a.of_number ∙ b.of_number) in
    let k = a.kind in let l = b.kind in
    let z : kind_of g q ≡ 1 = rw (← e) k in
    omega arith

-- a place in the position of class c takes text of "that very class"; 02 c, of an escaped class: "A place there takes text of the plain class"
pub data Takes (g : List ℕ) (c : ℕ) : ℕ → Type 0 where
  of_itself : ((p : ℕ) → Escaped g c p → ⊥) → Takes g c c
  of_its_plain : (p : ℕ) → Escaped g c p → Takes g c (field_b g p)

takes_of : (g : List ℕ) (c : ℕ) (o : Option ℕ) → escaped_class g c ≡ o → Takes g c (on_found o c (field_b g))
unfolding on_found
takes_of g c none e = of_itself (λ p x. some-ne-none p (sym ((escaped_is g c p).1 x) ∙ e))
takes_of g c (some p) e = of_its_plain p ((escaped_is g c p).0 e)

of_takes : {g : List ℕ} {c d : ℕ} → Takes g c d → plain_of g c ≡ d
unfolding plain_of on_found
of_takes {g} {c} (of_itself n) = go (escaped_class g c) refl
  where
    go : (o : Option ℕ) → escaped_class g c ≡ o → on_found o c (field_b g) ≡ c
    go none e = refl
    go (some p) e = absurd (n p ((escaped_is g c p).0 e))
of_takes {g} {c} (of_its_plain p x) = rw ((escaped_is g c p).1 x)

pub takes_is : (g : List ℕ) (c d : ℕ) → (plain_of g c ≡ d) ↔ Takes g c d
unfolding plain_of
takes_is g c d = (λ e. subst (Takes g c) e (takes_of g c (escaped_class g c) refl), of_takes)

-- "4 element: a = 0 keyword (b bytes of text follow), 1 class b, 2 nonterminal b, 3 repetition of nonterminal b."; 02 a: "4 is a repetition of
-- nonterminal b with c bytes of separator text after the record"
pub data ElementIs (g : List ℕ) (e : ℕ) : Element → Type 0 where
  a_keyword : field_a g e ≡ 0 → ElementIs g e (keyword (text_of g (field_b g e) e))
  a_class : field_a g e ≡ 1 → ElementIs g e (lexeme (field_b g e))
  a_nonterminal : field_a g e ≡ 2 → ElementIs g e (nonterminal (field_b g e))
  a_repetition : field_a g e ≡ 3 → ElementIs g e (repetition (field_b g e) [])
  a_separated : field_a g e ≡ 4 → ElementIs g e (repetition (field_b g e) (text_of g (field_c g e) e))
  -- a form that there isn't reads as none of these
  no_form : 5 ≤ field_a g e → ElementIs g e unknown

numbered_is : (g : List ℕ) (e a : ℕ) → field_a g e ≡ a → ElementIs g e (element_numbered g a e)
unfolding element_numbered
numbered_is g e zero h = a_keyword h
numbered_is g e (suc zero) h = a_class h
numbered_is g e (suc (suc zero)) h = a_nonterminal h
numbered_is g e (suc (suc (suc zero))) h = a_repetition h
numbered_is g e (suc (suc (suc (suc zero)))) h = a_separated h
numbered_is g e (suc (suc (suc (suc (suc a))))) h = no_form (omega arith)

pub element_is : (g : List ℕ) (e : ℕ) → ElementIs g e (element_at g e)
unfolding element_at
element_is g e = numbered_is g e (field_a g e) refl

-- "1 type ..: a = 0 text of class b, 1 yes/no, 2 list of type b, 3 record of d fields. 2 field: type b"; 02 g: "Type form 4 is a variant with d cases ..,
-- one field record each".
pub data TypeIs (t : List ℕ) (p : ℕ) : TypeForm → Type 0 where
  a_text : field_a t p ≡ 0 → TypeIs t p (text (field_b t p))
  a_yes_no : field_a t p ≡ 1 → TypeIs t p yes_no
  a_list : field_a t p ≡ 2 → TypeIs t p (list (field_b t p))
  a_record : field_a t p ≡ 3 → TypeIs t p (fields (map (field_b t) (field_heads t p)))
  a_variant : field_a t p ≡ 4 → TypeIs t p (cases (map (field_b t) (field_heads t p)))

form_is : (t : List ℕ) (p a : ℕ) → field_a t p ≡ a → a ≤ 4 → TypeIs t p (type_numbered t a p)
unfolding type_numbered
form_is t p zero h l = a_text h
form_is t p (suc zero) h l = a_yes_no h
form_is t p (suc (suc zero)) h l = a_list h
form_is t p (suc (suc (suc zero))) h l = a_record h
form_is t p (suc (suc (suc (suc zero)))) h l = a_variant h
form_is t p (suc (suc (suc (suc (suc a))))) h l = absurd (omega arith)

pub type_is : (t : List ℕ) (p : ℕ) → field_a t p ≤ 4 → TypeIs t p (type_at t p)
unfolding type_at
type_is t p l = form_is t p (field_a t p) refl l
