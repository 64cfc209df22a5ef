-- What a class takes its lexemes from.
use Rattle.std.specs.Prelude.{ℕ, ◌≡◌, List, Bool, true, false}
use Rattle.std.proofs.Math.Option.{none}
use Rattle.rules.specs.Faults.{on_found, exists}
use Rattle.rules.specs.Blocks.{stream_length}
use Rattle.rules.specs.Grammar.{classes, escaped_class, plain_of}
use Rattle.rules.specs.Escape.{unescaped}
use Rattle.rules.specs.Lexeme.{is_plain_lexeme}
use Rattle.lexeme.specs.declared.Source.{Source}
use Rattle.lexeme.specs.declared.Source.TheVariants.{Plain, Escaped}

-- the heads of the classes, of a grammar that refusal 1 let through
pub record ClassesLent (g list : List ℕ) : Type 0 where
  pub grammar_sized : stream_length g ≡ none
  pub heads : list ≡ classes g

-- the number of a source's plain class, and whether its lexemes are escaped
abbrev pub plain_in : Source → ℕ
plain_in (Plain n) = n
plain_in (Escaped n) = n

abbrev pub is_escaped : Source → Bool
is_escaped (Plain n) = false
is_escaped (Escaped n) = true

-- r is what class c takes its lexemes from
pub record SourceOf (g : List ℕ) (c : ℕ) (r : Source) : Type 0 where
  pub plain : plain_in r ≡ plain_of g c
  pub escaped : is_escaped r ≡ exists (escaped_class g c)

-- a text is a lexeme that comes from a source
unfoldable pub admitted : List ℕ → Source → List ℕ → Bool
admitted g (Plain n) text = is_plain_lexeme g n text
admitted g (Escaped n) text = on_found (unescaped text) false (is_plain_lexeme g n)
