-- What is promised of 02 d: every character of a lexeme is one that XML 1.0 admits, and titles and literals with others meet 8 and 7.
-- (Goes on in proofs/XmlLexemes.antt.)
use Rattle.std.specs.Prelude.{◌≡◌, refl, ℕ, List}
use Rattle.std.proofs.Common.{sym, ◌∙◌, subst, arith}
use Rattle.std.proofs.Math.Option.{some-injective}
use Rattle.rules.specs.Records.{kind_of, field_b, text_of}
use Rattle.rules.specs.Lexeme.{ranges}
use Rattle.laws.specs.Faults.{In}
use Rattle.theorems.specs.Utf8.{AllScalar, encoded_all, utf8_exactly}
use Rattle.theorems.specs.XmlChars.{XmlChar}
use Rattle.theorems.specs.Lexemes.{InRange, PlainLexeme}
use Rattle.theorems.specs.OwnRule.{OfForm, a_text, a_yes_no, a_list, a_record, ShouldBe, a_case}
use Rattle.theorems.specs.Offences.{Mistyped, not_of_type}

-- well-formed UTF-8 of which XML 1.0 admits each character
pub record XmlText (text : List ℕ) : Type 0 where
  pub characters : List ℕ
  pub scalars : AllScalar characters
  pub well_formed : text ≡ encoded_all characters
  pub xml_chars : (x : ℕ) → In x characters → XmlChar x

pub plain_xml : {g text : List ℕ} {c : ℕ} → PlainLexeme g c text → XmlText text
plain_xml l = record { characters = l.characters; scalars = l.scalars; well_formed = l.well_formed; xml_chars = l.xml_chars }

-- A text with a character that isn't admitted is none of these: no other characters have its bytes.
pub not_xml : (cs : List ℕ) (x : ℕ) → AllScalar cs → In x cs → (XmlChar x → ⊥) → XmlText (encoded_all cs) → ⊥
not_xml cs x s i n a =
    let z = some-injective cs a.characters (sym ((utf8_exactly (encoded_all cs) cs).1 (s, refl)) ∙ (utf8_exactly (encoded_all cs) a.characters).1 (a.scalars, a.well_formed)) in
    n (a.xml_chars x (subst (In x) z i))

-- the ranges of the class at p hold only characters that aren't admitted
abbrev pub NoneAdmitted : List ℕ → ℕ → Type 0
NoneAdmitted g p = (x : ℕ) → InRange g (ranges g p) x → XmlChar x → ⊥

pub title_fits : {g t v : List ℕ} {ty w : ℕ} → OfForm g t v ty w → kind_of v w ≡ 1 → XmlText (text_of v (field_b v w) w)
title_fits (a_text c f k l) e = plain_xml l
title_fits (a_yes_no f k) e = let z : ◌≡◌ {A = ℕ} 1 2 = sym e ∙ k in absurd (omega arith)
title_fits (a_list item f k) e = let z : ◌≡◌ {A = ℕ} 1 3 = sym e ∙ k in absurd (omega arith)
title_fits (a_record tys f k l) e = let z : ◌≡◌ {A = ℕ} 1 4 = sym e ∙ k in absurd (omega arith)
title_fits (a_case to tys f k h) e = let z : ◌≡◌ {A = ℕ} 1 5 = sym e ∙ k in absurd (omega arith)

pub titles_meet_8 : (g t v : List ℕ) (ty w : ℕ) → ShouldBe t v ty w → kind_of v w ≡ 1 → (XmlText (text_of v (field_b v w) w) → ⊥) → Mistyped g t v w
titles_meet_8 g t v ty w s e n = not_of_type ty w s (λ f. n (title_fits f e))
