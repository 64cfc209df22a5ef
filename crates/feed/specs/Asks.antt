-- What the parts of a call are lent, and what they promise.
use Rattle.std.specs.Prelude.{ℕ, ◌+◌, ◌*◌, ◌≤◌, ◌<◌, ◌≡◌, List, [], ◌∷◌, length, take, Result, OnOk, IfOk, Option as Maybe, Some}
use Rattle.std.proofs.Math.Option.{Option, none}
use Rattle.rules.specs.Blocks.{stream_length}
use Rattle.rules.specs.Records.{record_count}
use Rattle.rules.specs.Grammar.{classes, productions}
use Rattle.rules.specs.Templates.{types, templates}
use Rattle.rules.specs.Answers
use Rattle.rules.specs.Answers.{grammar, value, accept}
use Rattle.records.specs.Children.{Children}
use Rattle.lexeme.specs.Sets.{LexemesReady}
use Rattle.layout.specs.Heads.{part, LaidGrammar, LaidTemplates}
use Rattle.walk.specs.Marks.{ProductionHeads}
use Rattle.feed.specs.declared.set.Heads.{Heads}
use Rattle.feed.specs.declared.verdict.Refusal.{Refusal}
use Rattle.feed.specs.Verdict.{verdict_of, streams_refusal, set_judgement, judgement}

-- the two rows of a table have room for the children of a value
pub record ChildRoom (v firsts places : List ℕ) : Type 0 where
  pub in_firsts : record_count v ≤ length firsts
  pub in_places : record_count v ≤ length places

-- the verdict is that of 1 to 3; if all passed, the table is that of the value's children
pub record AllJudged (g t v firsts places : List ℕ) (r : Result (Unit {0}) Refusal) : Type 0 where
  pub is : verdict_of r ≡ streams_refusal (grammar g ∷ Answers.templates t ∷ value v ∷ []) accept
  pub children : OnOk r (Children v firsts places)

-- streams of right lengths, and the heads of all four kinds by their numbers
pub record Tabled (g t cs ps us ts : List ℕ) : Type 0 where
  pub grammar_sized : stream_length g ≡ none
  pub templates_sized : stream_length t ≡ none
  pub classes_are : cs ≡ classes g
  pub productions_are : ps ≡ productions g
  pub types_are : us ≡ types t
  pub templates_are : ts ≡ templates t
  pub few_classes : length cs ≤ 256

-- a value has a right length, if one comes with the set
pub record ValueSized (value : Maybe (List ℕ)) : Type 0 where
  pub sized : (v : List ℕ) → value ≡ Some v → stream_length v ≡ none

-- an array of n numbers has room for a set of each class
pub record SetsRoom (cs : List ℕ) (n : ℕ) : Type 0 where
  pub room : 128 * length cs ≤ n
  pub few : n ≤ 65536

-- the verdict is that of 4 to 7; if all passed, the sets are those of the classes
pub record SetJudged (g t : List ℕ) (value : Option ℕ) (cs sets : List ℕ) (r : Result (Unit {0}) Refusal) : Type 0 where
  pub is : verdict_of r ≡ set_judgement g t value accept
  pub compiled : OnOk r (LexemesReady g cs sets)

-- streams that are laid out, with a value of right length if one comes with them, and tables with room for the heads of all four kinds
pub record HeadsAsk (g t : List ℕ) (value : Maybe (List ℕ)) (of-g of-t : List ℕ) : Type 0 where
  pub grammar_laid : LaidGrammar g
  pub templates_laid : LaidTemplates t
  pub value_sized : ValueSized value
  pub grammar_room : record_count g ≤ length of-g
  pub templates_room : record_count t ≤ length of-t

-- the heads of each kind stand in their table, up to its end
pub record HeadsFilled (g t of-g of-t : List ℕ) (h : Heads) : Type 0 where
  pub tabled : Tabled g t (take h.classes of-g) (part h.classes h.productions of-g) (take h.types of-t) (part h.types h.templates of-t)
  pub productions_behind : h.classes ≤ h.productions
  pub templates_behind : h.types ≤ h.templates
  pub in_grammar : h.productions ≤ record_count g
  pub in_templates : h.templates ≤ record_count t

-- the verdict is that of 4 to 8; the tables are filled whatever it is, and if all passed it tells where their heads are
pub record HeadsJudged (g t : List ℕ) (value : Maybe (List ℕ)) (of-g of-t : List ℕ) (r : Result Heads Refusal) : Type 0 where
  pub is : verdict_of r ≡ judgement g t value
  pub filled : IfOk r (HeadsFilled g t of-g of-t)
  pub heads : Heads
  pub tables : HeadsFilled g t of-g of-t heads

-- an array of n numbers has room for the heads of a stream, or for the children of a value
pub record Room (s : List ℕ) (n : ℕ) : Type 0 where
  pub room : record_count s ≤ n
  pub few : n ≤ 65536

-- for the heads of a grammar, and an entry to spare, as the walk has a number behind them
pub record GrammarRoom (g : List ℕ) (n : ℕ) : Type 0 where
  pub room : record_count g < n
  pub few : n ≤ 65536

-- 1 to 3 let all three streams through, and the value's children are in their table
pub record StreamsLaid (g t v firsts places : List ℕ) : Type 0 where
  pub passed : streams_refusal (grammar g ∷ Answers.templates t ∷ value v ∷ []) accept ≡ none
  pub children : Children v firsts places

-- the table of a grammar's heads, with an entry to spare; what it becomes for the walk, from r on
pub record MarkAsks (g heads : List ℕ) (cs ps : ℕ) : Type 0 where
  pub grammar_sized : stream_length g ≡ none
  pub few : cs ≤ 256
  pub behind : cs ≤ ps
  pub inside : ps < length heads
  pub classes_are : take cs heads ≡ classes g
  pub productions_are : part cs ps heads ≡ productions g

pub record HeadsMarked (g : List ℕ) (ps : ℕ) (heads : List ℕ) (r : ℕ) : Type 0 where
  pub begins : r ≤ ps
  pub table : ProductionHeads g (part r (ps + 1) heads)
