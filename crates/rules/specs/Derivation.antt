-- Derivation, section "Derivation". "It is defined from the grammar's records and the bytes of a text alone."
use Rattle.std.specs.Prelude.{ℕ, ◌≡◌, true, List, [], ◌∷◌, ◌++◌}
use Rattle.std.proofs.Math.Option.{some}
use Rattle.rules.specs.Records.{field_b}
use Rattle.rules.specs.Lexeme.{is_plain_lexeme}
use Rattle.rules.specs.Escape.{escape}
use Rattle.rules.specs.Grammar.{escaped_class, production, elements, Element, keyword, lexeme, nonterminal, repetition}

mutual
  -- "A nonterminal derives a text if one of its productions does."
  pub data Derives (g : List ℕ) : ℕ → List ℕ → Type 0 where
    produced : (n k p : ℕ) (x : List ℕ) → production g k ≡ some p → field_b g p ≡ n → Pieces g (elements g p) x → Derives g n x

  -- "in element order and with nothing between, one piece for each element"
  pub data Pieces (g : List ℕ) : List Element → List ℕ → Type 0 where
    no_element : Pieces g [] []
    one_piece : (e : Element) (es : List Element) (x rest : List ℕ) → Piece g e x → Pieces g es rest → Pieces g (e ∷ es) (x ++ rest)

  -- "for a keyword its own bytes, for a class a lexeme of it, for a nonterminal a text that it derives, for a repetition any number of texts in a row";
  -- 02 c: the lexemes of an escaped class "are the plain lexemes with & < > " ' turned into the five predefined entities"
  pub data Piece (g : List ℕ) : Element → List ℕ → Type 0 where
    own_bytes : (x : List ℕ) → Piece g (keyword x) x
    a_lexeme : (c : ℕ) (x : List ℕ) → is_plain_lexeme g c x ≡ true → Piece g (lexeme c) x
    an_escaped_lexeme : (c p : ℕ) (x : List ℕ) → escaped_class g c ≡ some p → is_plain_lexeme g (field_b g p) x ≡ true → Piece g (lexeme c) (escape x)
    derived : (n : ℕ) (x : List ℕ) → Derives g n x → Piece g (nonterminal n) x
    repeated : (n : ℕ) (between x : List ℕ) → Row g n between x → Piece g (repetition n between) x

  -- "any number of texts in a row, none too, each derived by its nonterminal"
  pub data Row (g : List ℕ) : ℕ → List ℕ → List ℕ → Type 0 where
    no_text : (n : ℕ) (between : List ℕ) → Row g n between []
    some_texts : (n : ℕ) (between x : List ℕ) → Texts g n between x → Row g n between x

  -- 02 a: "one separator between neighbours and none elsewhere"
  pub data Texts (g : List ℕ) : ℕ → List ℕ → List ℕ → Type 0 where
    last_text : (n : ℕ) (between x : List ℕ) → Derives g n x → Texts g n between x
    next_text : (n : ℕ) (between x rest : List ℕ) → Derives g n x → Texts g n between rest → Texts g n between (x ++ between ++ rest)
