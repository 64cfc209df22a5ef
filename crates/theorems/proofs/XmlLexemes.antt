-- What is promised of 02 d: every character of a lexeme is one that XML 1.0 admits, and titles and literals with others meet 8 and 7.
-- Goes on from specs/XmlLexemes.antt: what rests on definitions that a must-fail edit changes.
use Rattle.std.specs.Prelude.{◌≡◌, refl, ◌↔◌, ℕ, List, [], ◌∷◌, true, length}
use Rattle.std.proofs.Common.{sym, ◌∙◌, ap, subst, arith}
use Rattle.std.proofs.Math.Option.{none, some-injective}
use Rattle.rules.specs.Records.{kind_of, field_b, text_of}
use Rattle.rules.specs.Templates.{templates, form_of}
use Rattle.rules.specs.Escape.{escape}
use Rattle.rules.specs.Lexeme.{ranges, is_lexeme}
use Rattle.rules.specs.Typing.{asks_class, site, suits_form, suits}
use Rattle.rules.specs.Answers.{answer, check, evaluate_refusal}
use Rattle.rules.specs.declared.Form.TheVariants.{Literal}
use Rattle.rules.specs.declared.Position.{Position}
use Rattle.laws.specs.Faults.{In, here, on_found_true}
use Rattle.theorems.specs.Least.{in_none}
use Rattle.theorems.specs.Utf8.{encoded_all}
use Rattle.theorems.specs.XmlChars.{XmlChar, from_space}
use Rattle.theorems.specs.Entities.{of_nothing}
use Rattle.theorems.proofs.Entities.{escape_exactly}
use Rattle.theorems.specs.Escaping.{WellFormedUtf8}
use Rattle.theorems.proofs.EscapedCharacters.{escape_by_characters, escaped_scalars, of_escaped}
use Rattle.theorems.specs.Readings.{Plain, plain_is, escaped_is, Takes, of_itself, of_its_plain, not_both}
use Rattle.theorems.specs.Lexemes.{InRange, PlainLexeme, Lexeme, a_plain, an_escaped}
use Rattle.theorems.proofs.Lexemes.{lexeme_exactly}
use Rattle.theorems.specs.LimitsExactly.{value_limits_exactly}
use Rattle.theorems.specs.OwnRule.{Fits, Stands, ShouldBe}
use Rattle.theorems.proofs.OwnRuleExactly.{fits_exactly}
use Rattle.theorems.proofs.TypingExactly.{judged_node_by_node}
use Rattle.theorems.proofs.ValueExactly.{judged_value_by_value}
use Rattle.theorems.proofs.Accepted.{accepted_exactly, admitted_exactly}
use Rattle.theorems.specs.Offences.{Misfit, unsuited}
use Rattle.theorems.specs.XmlLexemes.{XmlText, plain_xml, NoneAdmitted, title_fits}

escaped_xml : {x : List ℕ} → XmlText x → XmlText (escape x)
escaped_xml a =
    let cs = a.characters in
    record {
      characters = escape cs;
      scalars = escaped_scalars cs a.scalars;
      well_formed = ap escape a.well_formed ∙ escape_by_characters cs;
      xml_chars = of_escaped XmlChar (λ y l m. from_space l (omega arith)) cs a.xml_chars;
    }

pub lexeme_xml : {g text : List ℕ} {c : ℕ} → Lexeme g c text → XmlText text
lexeme_xml (a_plain l) = plain_xml l
lexeme_xml {text = text} (an_escaped p x k l f) = subst XmlText ((escape_exactly x text).1 f) (escaped_xml (plain_xml l))

-- "A character of a lexeme must from now on be one of these": of any class, plain or escaped, as it is written. Of an escaped class the plain characters are
-- admitted too, which is what is judged: `PlainLexeme` says so.
pub lexemes_are_xml : (g : List ℕ) (c : ℕ) (text : List ℕ) → is_lexeme g c text ≡ true → XmlText text
lexemes_are_xml g c text e = lexeme_xml ((lexeme_exactly g c text).0 e)

-- "A lexeme of a class is well-formed UTF-8 (RFC 3629)": of any class
pub lexeme_well_formed : (g : List ℕ) (c : ℕ) (text : List ℕ) → Lexeme g c text → WellFormedUtf8 text
lexeme_well_formed g c text l = let a = lexeme_xml l in (a.characters, a.scalars, a.well_formed)

no_characters : (cs : List ℕ) → ((x : ℕ) → In x cs → ⊥) → cs ≡ []
no_characters [] h = refl
no_characters (x ∷ xs) h = absurd (h x (here xs))

plain_empty : {g text : List ℕ} {c p : ℕ} → NoneAdmitted g p → Plain g c p → PlainLexeme g c text → (text ≡ []) × (field_b g p ≡ 0)
unfolding encoded_all
plain_empty {g} {text} {c} {p} h k l =
    let z : l.head ≡ p = some-injective l.head p (sym ((plain_is g c l.head).1 l.of_class) ∙ (plain_is g c p).1 k) in
    let n : l.characters ≡ [] = no_characters l.characters (λ x i. h x (subst (λ (q : ℕ). InRange g (ranges g q) x) z (l.in_some_range x i)) (l.xml_chars x i)) in
    let m : length l.characters ≡ 0 = ap length n in
    let b : field_b g l.head ≡ field_b g p = ap (field_b g) z in
    (l.well_formed ∙ ap encoded_all n, omega (arith, l.least))

empty_plain : {g : List ℕ} {c p : ℕ} → Plain g c p → field_b g p ≡ 0 → PlainLexeme g c []
unfolding encoded_all
empty_plain {p = p} k e = record {
  head = p;
  of_class = k;
  characters = [];
  scalars = λ x i. absurd (in_none i);
  well_formed = refl;
  least = omega arith;
  most = omega arith;
  in_some_range = λ x i. absurd (in_none i);
  xml_chars = λ x i. absurd (in_none i);
}

-- Such a class has no lexeme but perhaps the empty one, which it has if its least is 0. An escaped class is like the plain class that it takes text of.
pub no_lexeme_but_the_empty : (g : List ℕ) (c d p : ℕ) → Takes g c d → Plain g d p → NoneAdmitted g p
    → (text : List ℕ) → (is_lexeme g c text ≡ true) ↔ ((text ≡ []) × (field_b g p ≡ 0))
no_lexeme_but_the_empty g c d p t k h text = (λ e. to t k ((lexeme_exactly g c text).0 e), λ (e, f). (lexeme_exactly g c text).1 (subst (Lexeme g c) (sym e) (from t k f)))
  where
    to : {c d : ℕ} → Takes g c d → Plain g d p → Lexeme g c text → (text ≡ []) × (field_b g p ≡ 0)
    to (of_itself n) k (a_plain l) = plain_empty h k l
    to (of_itself n) k (an_escaped q x j l f) = absurd (n q j)
    to (of_its_plain r i) k (a_plain l) = absurd (not_both l.of_class i)
    to {c} (of_its_plain r i) k (an_escaped q x j l f) =
        let z : q ≡ r = some-injective q r (sym ((escaped_is g c q).1 j) ∙ (escaped_is g c r).1 i) in
        let (e, b) = plain_empty h k (subst (λ (u : ℕ). PlainLexeme g (field_b g u) x) z l) in
        (sym ((escape_exactly x text).1 f) ∙ ap escape e ∙ (escape_exactly [] []).1 of_nothing, b)

    from : {c d : ℕ} → Takes g c d → Plain g d p → field_b g p ≡ 0 → Lexeme g c []
    from (of_itself n) k e = a_plain (empty_plain k e)
    from (of_its_plain r i) k e = an_escaped r [] i (empty_plain k e) of_nothing

-- what a node and a value ask by their own rules
literal_fits : (g t vars : List ℕ) (q : ℕ) (at : Position) → form_of t q ≡ Literal → Fits g t vars q at → XmlText (text_of t (field_b t q) q)
unfolding suits suits_form site
literal_fits g t vars q at e f =
    let h : suits_form g t (form_of t q) (site vars at q) ≡ true = (fits_exactly g t (site vars at q)).1 f in
    let (c, a, l) = (on_found_true (asks_class at) _).0 (rw e at h) in
    lexemes_are_xml g c (text_of t (field_b t q) q) l

-- "titles and literals with other characters meet 8 and 7": a literal, in whatever position of a template, offends against typing, and a title, wherever the
-- value's type asks for one, against its type. (Where a literal has no position, a node above it offends.) Of all offences a call names the first: `InOrder`.
pub literals_meet_7 : (g t : List ℕ) (p q : ℕ) (vars : List ℕ) (at : Position) → In p (templates t) → Stands g t p vars q at → form_of t q ≡ Literal
    → (XmlText (text_of t (field_b t q) q) → ⊥) → Misfit g t q
literals_meet_7 g t p q vars at i s e n = unsuited p q vars at i s (λ f. n (literal_fits g t vars q at e f))

-- So an accepted set has no other literals, and a value that comes to its walk no other titles.
pub accepted_literals_are_xml : (g t : List ℕ) → check g t ≡ answer 0 0 0 0 0 → (p q : ℕ) (vars : List ℕ) (at : Position) → In p (templates t)
    → Stands g t p vars q at → form_of t q ≡ Literal → XmlText (text_of t (field_b t q) q)
accepted_literals_are_xml g t e p q vars at i s f =
    let a = (accepted_exactly g t).0 e in
    literal_fits g t vars q at f (((judged_node_by_node g t a.within_limits).0 a.typed).fits p q vars at i s)

pub admitted_titles_are_xml : (g t v scratch : List ℕ) → evaluate_refusal g t v scratch ≡ none → (ty w : ℕ) → ShouldBe t v ty w → kind_of v w ≡ 1
    → XmlText (text_of v (field_b v w) w)
admitted_titles_are_xml g t v scratch e ty w s k =
    let a = (admitted_exactly g t v scratch).0 e in
    title_fits (((judged_value_by_value g t v ((value_limits_exactly v).1 a.shallow)).0 a.of_declared_type).of_form ty w s) k
