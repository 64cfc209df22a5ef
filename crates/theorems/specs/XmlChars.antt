-- The characters that XML 1.0 admits, in the words of 02 d, and that the test of `rules` passes exactly these.
use Rattle.std.specs.Prelude.{◌≡◌, refl, ◌↔◌, ℕ, ◌≤◌, [], ◌∷◌, map, Bool, true, false, ◌||◌, replicate}
use Rattle.std.proofs.Common.{inl, inr, le-leb}
use Rattle.std.proofs.Math.Bool.{or-true}
use Rattle.rules.specs.Lexeme.{within, is_xml_char}
use Rattle.laws.specs.Faults.{or_iff, eqb_iff}
use Rattle.theorems.specs.Utf8.{within_iff}

-- "XML 1.0 admits only U+0009, U+000A, U+000D, U+0020-U+D7FF, U+E000-U+FFFD and U+10000-U+10FFFF"
pub data XmlChar (x : ℕ) : Type 0 where
  tab : x ≡ 0x9 → XmlChar x
  line_feed : x ≡ 0xa → XmlChar x
  carriage_return : x ≡ 0xd → XmlChar x
  from_space : 0x20 ≤ x → x ≤ 0xd7ff → XmlChar x
  behind_surrogates : 0xe000 ≤ x → x ≤ 0xfffd → XmlChar x
  of_four_bytes : 0x10000 ≤ x → x ≤ 0x10ffff → XmlChar x

either : {C : Type 0} {a b : Bool} → (a ≡ true → C) → (b ≡ true → C) → (a || b) ≡ true → C
either {a = a} {b} h k e = elim ((or_iff a b).0 e) [ inl f ↦ h f | inr f ↦ k f ]

range : {C : Type 0} (low high x : ℕ) → (low ≤ x → x ≤ high → C) → within low high x ≡ true → C
range low high x h e = let (l, m) = (within_iff low high x).0 e in h l m

pub xml_char_exactly : (x : ℕ) → (is_xml_char x ≡ true) ↔ XmlChar x
unfolding is_xml_char
xml_char_exactly x = (
  either
      (either
      (either
      (either (either (λ e. tab ((eqb_iff x 0x9).0 e)) (λ e. line_feed ((eqb_iff x 0xa).0 e))) (λ e. carriage_return ((eqb_iff x 0xd).0 e)))
      (range 0x20 0xd7ff x from_space))
      (range 0xe000 0xfffd x behind_surrogates))
      (range 0x10000 0x10ffff x of_four_bytes),
  λ a. elim a [
    | tab e ↦ rw e
    | line_feed e ↦ rw e
    | carriage_return e ↦ rw e
    | from_space l m ↦ rw (le-leb 0x20 x l, le-leb x 0xd7ff m, or-true)
    | behind_surrogates l m ↦ rw (le-leb 0xe000 x l, le-leb x 0xfffd m, or-true)
    | of_four_bytes l m ↦ rw (le-leb 0x10000 x l, le-leb x 0x10ffff m, or-true)
  ],
)

-- at each border, computed; "A pasted title carried U+000B"
pub refused_at_the_borders : map is_xml_char (0x0 ∷ 0x8 ∷ 0xb ∷ 0xc ∷ 0xe ∷ 0x1f ∷ 0xd800 ∷ 0xdfff ∷ 0xfffe ∷ 0xffff ∷ 0x110000 ∷ []) ≡ replicate 11 false
unfolding is_xml_char
refused_at_the_borders = refl

pub admitted_at_the_borders : map is_xml_char (0x9 ∷ 0xa ∷ 0xd ∷ 0x20 ∷ 0x7f ∷ 0xd7ff ∷ 0xe000 ∷ 0xfffd ∷ 0x10000 ∷ 0x1fffe ∷ 0x10ffff ∷ []) ≡ replicate 11 true
unfolding is_xml_char
admitted_at_the_borders = refl
