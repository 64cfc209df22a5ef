-- 02 d: "Finished texts are judged by the narrower lexemes." Each piece for a class, in whatever derivation, is a lexeme of characters that XML 1.0 admits. So
-- is a whole finished text, if the grammar's keywords and separators are.
-- Goes on from specs/FinishedLexemes.antt: what rests on definitions that a must-fail edit changes.
use Rattle.std.specs.Prelude.{◌≡◌, refl, ℕ, List, [], ◌++◌}
use Rattle.std.proofs.Common.{sym, ◌∙◌, ap, inl, inr}
use Rattle.rules.specs.Grammar.{Element, lexeme, repetition, productions, production, elements}
use Rattle.rules.specs.Derivation.{Derives, produced, no_element, one_piece, Piece, own_bytes, a_lexeme, an_escaped_lexeme, derived, repeated, no_text, some_texts, last_text, next_text}
use Rattle.rules.specs.Answers.{evaluate}
use Rattle.laws.specs.Faults.{In, here, later, in_append, nth_in}
use Rattle.theorems.specs.Least.{in_none}
use Rattle.theorems.specs.Utf8.{encoded_all}
use Rattle.theorems.specs.EscapedCharacters.{encoded_append}
use Rattle.theorems.proofs.Lexemes.{piece_exactly}
use Rattle.theorems.specs.XmlLexemes.{XmlText}
use Rattle.theorems.proofs.XmlLexemes.{lexeme_xml}
use Rattle.theorems.specs.Kept.{text_left}
use Rattle.theorems.proofs.EvaluateCall.{finished_from_root}
use Rattle.theorems.specs.FinishedLexemes.{XmlLexeme, LexemesAreXml, XmlGrammar}

pub class_pieces_are_xml : (g : List ℕ) (c : ℕ) (x : List ℕ) → Piece g (lexeme c) x → XmlLexeme g c x
class_pieces_are_xml g c x p = let l = (piece_exactly g c x).0 p in record { its_lexeme = l; xml = lexeme_xml l }

pub finished_lexemes_are_xml : (g t v : List ℕ) (fuel : ℕ) (out scratch : List ℕ)
    → (evaluate g t v fuel out scratch).result.number ≡ 0 → LexemesAreXml g t (text_left (evaluate g t v fuel out scratch))
finished_lexemes_are_xml g t v fuel out scratch z = record { from_root = finished_from_root g t v fuel out scratch z; class_pieces = class_pieces_are_xml g }

-- Keywords and separators may be any bytes. Here is what a grammar's are asked to be, so that whole texts are of admitted characters.
abbrev ElementOf : List ℕ → Element → Type 0
ElementOf g e = (p : ℕ) × In p (productions g) × In e (elements g p)

nothing : XmlText []
unfolding encoded_all
nothing = record { characters = []; scalars = λ x i. absurd (in_none i); well_formed = refl; xml_chars = λ x i. absurd (in_none i) }

then : {x y : List ℕ} → XmlText x → XmlText y → XmlText (x ++ y)
then {x} {y} a b =
    let cs = a.characters in
    let ds = b.characters in
    record {
      characters = cs ++ ds;
      scalars = λ c i. elim (in_append cs ds i) [ inl j ↦ a.scalars c j | inr j ↦ b.scalars c j ];
      well_formed = ap (λ (t : List ℕ). t ++ y) a.well_formed ∙ ap (λ (t : List ℕ). encoded_all cs ++ t) b.well_formed ∙ sym (encoded_append cs ds);
      xml_chars = λ c i. elim (in_append cs ds i) [ inl j ↦ a.xml_chars c j | inr j ↦ b.xml_chars c j ];
    }

pub derived_texts_are_xml : (g : List ℕ) → XmlGrammar g → {n : ℕ} {x : List ℕ} → Derives g n x → XmlText x
unfolding production
derived_texts_are_xml g w d = elim d as
    (λ n x d. XmlText x)
    (λ es x d. ((e : Element) → In e es → ElementOf g e) → XmlText x)
    (λ e x d. ElementOf g e → XmlText x)
    (λ n between x d. ElementOf g (repetition n between) → XmlText x)
    (λ n between x d. ElementOf g (repetition n between) → XmlText x) [
      | produced n k p x e f (ps → h) ↦ h (λ el i. (p, nth_in (productions g) k p e, i))
      | no_element ↦ λ t. nothing
      | one_piece e es x rest (p → h) (ps → k) ↦ λ t. then (h (t e (here es))) (k (λ f i. t f (later e es i)))
      | own_bytes x ↦ λ (p, i, j). w.keywords p x i j
      | a_lexeme c x e ↦ λ t. (class_pieces_are_xml g c x (a_lexeme c x e)).xml
      | an_escaped_lexeme c p x k e ↦ λ t. (class_pieces_are_xml g c _ (an_escaped_lexeme c p x k e)).xml
      | derived n x (d → h) ↦ λ t. h
      | repeated n between x (r → h) ↦ h
      | no_text n between ↦ λ t. nothing
      | some_texts n between x (ts → h) ↦ h
      | last_text n between x (d → h) ↦ λ t. h
      | next_text n between x rest (d → h) (ts → k) ↦ λ (p, i, j). then (then h (w.separators p n between i j)) (k (p, i, j))
    ]

pub finished_texts_are_xml : (g t v : List ℕ) (fuel : ℕ) (out scratch : List ℕ) → XmlGrammar g
    → (evaluate g t v fuel out scratch).result.number ≡ 0 → XmlText (text_left (evaluate g t v fuel out scratch))
finished_texts_are_xml g t v fuel out scratch w z = derived_texts_are_xml g w (finished_from_root g t v fuel out scratch z).derivation
