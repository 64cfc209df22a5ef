-- 02 d: "Finished texts are judged by the narrower lexemes." Each piece for a class, in whatever derivation, is a lexeme of characters that XML 1.0 admits. So
-- is a whole finished text, if the grammar's keywords and separators are.
-- (Goes on in proofs/FinishedLexemes.antt.)
use Rattle.std.specs.Prelude.{ℕ, List}
use Rattle.rules.specs.Grammar.{keyword, lexeme, repetition, productions, elements}
use Rattle.rules.specs.Derivation.{Piece}
use Rattle.laws.specs.Faults.{In}
use Rattle.theorems.specs.Lexemes.{Lexeme}
use Rattle.theorems.specs.XmlLexemes.{XmlText}
use Rattle.theorems.specs.EvaluateCall.{FromRoot}

-- what the derivation takes for a class
pub record XmlLexeme (g : List ℕ) (c : ℕ) (x : List ℕ) : Type 0 where
  pub its_lexeme : Lexeme g c x
  pub xml : XmlText x

-- The text of a call that answers 0 is derived, and each class piece of that derivation is such a lexeme.
pub record LexemesAreXml (g t text : List ℕ) : Type 0 where
  pub from_root : FromRoot g t text
  pub class_pieces : (c : ℕ) (x : List ℕ) → Piece g (lexeme c) x → XmlLexeme g c x

pub record XmlGrammar (g : List ℕ) : Type 0 where
  pub keywords : (p : ℕ) (x : List ℕ) → In p (productions g) → In (keyword x) (elements g p) → XmlText x
  pub separators : (p n : ℕ) (x : List ℕ) → In p (productions g) → In (repetition n x) (elements g p) → XmlText x
