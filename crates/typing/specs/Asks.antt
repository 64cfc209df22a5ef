-- What the checker's functions ask of their callers.
use Rattle.std.specs.Prelude.{ℕ, ◌+◌, ◌*◌, ◌≤◌, ◌<◌, ◌≡◌, List, map, length}
use Rattle.std.proofs.Math.Option.{none}
use Rattle.rules.specs.Faults.{every, tree}
use Rattle.rules.specs.Blocks.{stream_length}
use Rattle.rules.specs.Grammar.{productions}
use Rattle.rules.specs.Templates.{types, templates, body}
use Rattle.rules.specs.Records.{field_a, field_b, field_c, heads}
use Rattle.rules.specs.Limits.{looped, looped_below, few_loops, templates_limits}
use Rattle.rules.specs.declared.Position.TheVariants.{Nonterminal}
use Rattle.lexeme.specs.Sets.{LexemesReady}
use Rattle.typing.specs.declared.Below.{Below}
use Rattle.typing.specs.declared.Frame.{Frame}
use Rattle.typing.specs.Answers.{entry_of, brings_of, brought}
use Rattle.typing.specs.Asked.{AskedFilled}

-- refusal 7: the tables hold the heads by their numbers, and refusals 1 and 4 are not met
pub record TemplatesAsk (g t cs sets ps tys ts : List ℕ) : Type 0 where
  pub lexemes : LexemesReady g cs sets
  pub productions_are : ps ≡ productions g
  pub types_are : tys ≡ types t
  pub templates_are : ts ≡ templates t
  pub sized_g : stream_length g ≡ none
  pub sized_t : stream_length t ≡ none
  pub limits : templates_limits t ≡ none

-- refusal 8: the same of the tables, and refusal 1 is not met
pub record ValueAsks (g t v cs sets tys ts : List ℕ) : Type 0 where
  pub lexemes : LexemesReady g cs sets
  pub types_are : tys ≡ types t
  pub templates_are : ts ≡ templates t
  pub sized_g : stream_length g ≡ none
  pub sized_t : stream_length t ≡ none
  pub sized_v : stream_length v ≡ none

-- types by their numbers
pub record TypeTable (t tys : List ℕ) : Type 0 where
  pub types_are : tys ≡ types t
  pub sized : stream_length t ≡ none

-- the types of so many variables
pub record Scope (scope : List ℕ) (count : ℕ) : Type 0 where
  pub full : length scope ≡ 24
  pub few : count ≤ 24

-- productions by their numbers, and their positions
pub record BuildAsks (g ps asked : List ℕ) : Type 0 where
  pub productions_are : ps ≡ productions g
  pub filled : AskedFilled g asked
  pub sized : stream_length g ≡ none

-- what every check of a node is lent
pub record CheckerTables (g t cs sets ps asked tys ts : List ℕ) : Type 0 where
  pub lexemes : LexemesReady g cs sets
  pub builds : BuildAsks g ps asked
  pub types : TypeTable t tys
  pub templates_are : ts ≡ templates t

-- what every check of a value is lent
pub record ValueTables (g t v cs sets tys : List ℕ) : Type 0 where
  pub lexemes : LexemesReady g cs sets
  pub types : TypeTable t tys
  pub sized : stream_length v ≡ none

-- the place is small enough that the places of `levels` levels below it are numbers of 64 bits
abbrev pub RoomBelow : ℕ → ℕ → Type 0
RoomBelow levels place = place + levels * 4294967296 ≤ 1099511627776

-- a row of n values, with so many levels left
pub record ValueRow (first n left : ℕ) : Type 0 where
  pub near : RoomBelow (left + 1) first
  pub few : n < 65536

-- of n nodes in a row: so many loops stand around them, at most 8 variables more are in scope, and refusal 4 is met nowhere from them on
pub record RowLimits (levels : ℕ) (t : List ℕ) (count n at : ℕ) : Type 0 where
  pub loops : ℕ
  pub few : count ≤ 8 + loops
  pub limits : every (tree few_loops (looped_below t) levels) (map (looped loops) (heads (field_c t) n at)) ≡ none

-- a frame that may be checked, with so many levels left: so many loops stand around its node, at most 8 variables more are in scope,
-- and refusal 4 is met nowhere from that node on
pub record FrameReady (levels : ℕ) (t : List ℕ) (f : Frame) : Type 0 where
  pub near : RoomBelow levels f.node
  pub loops : ℕ
  pub few : f.count ≤ 8 + loops
  pub limits : tree few_loops (looped_below t) levels (looped loops f.node) ≡ none

-- a row of nodes that may be checked, with so many levels left and so many variables in scope beside what its nodes bring
pub record RowReady (levels : ℕ) (t : List ℕ) (b : Below) (count : ℕ) : Type 0 where
  pub near : RoomBelow levels (b.first + b.count * 65535)
  pub many : b.count < 65536
  pub inside : (i : ℕ) → i < b.count → entry_of b.positions i < 8064
  pub limits : RowLimits levels t (count + brought (brings_of b.positions)) b.count b.first

-- the frame of a template's body, without the types of its parameters
pub record BodyOf (t : List ℕ) (q : ℕ) (f : Frame) : Type 0 where
  pub node_is : f.node ≡ body t q
  pub position_is : f.position ≡ Nonterminal (field_b t q)
  pub count_is : f.count ≡ field_a t q
  pub near : RoomBelow 200 f.node
