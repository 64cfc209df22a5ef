-- The tables of heads: what a stream that is laid out has in them.
use Rattle.std.specs.Prelude.{ℕ, ◌+◌, ◌-◌, ◌≤◌, ◌≡◌, List, Bool, false, take, drop}
use Rattle.std.proofs.Math.Option.{none}
use Rattle.rules.specs.Blocks.{stream_length}
use Rattle.rules.specs.Records.{field_d, heads}
use Rattle.stream.specs.declared.record.Record.{Record}
use Rattle.stream.specs.Record.{Fetched}
use Rattle.rules.specs.Layout.{grammar_layout, templates_layout}
use Rattle.theorems.specs.LaidOut.{InRow}
use Rattle.theorems.specs.Heads.{Spans}
use Rattle.layout.specs.Common.{most_records}
use Rattle.layout.specs.declared.heads.Counts.{Counts}
use Rattle.layout.specs.declared.heads.RowEnd.{RowEnd}

-- refusals 1 and 3 let a grammar through; a template set
pub record LaidGrammar (g : List ℕ) : Type 0 where
  pub length_right : stream_length g ≡ none
  pub laid_out : grammar_layout g ≡ none

pub record LaidTemplates (t : List ℕ) : Type 0 where
  pub length_right : stream_length t ≡ none
  pub laid_out : templates_layout t ≡ none

-- a grammar's classes are numbered by 8 bits
abbrev pub most_classes : ℕ
most_classes = 256

-- the numbers of a table from a to e, as `&table[a..e]` lends them
abbrev pub part : ℕ → ℕ → List ℕ → List ℕ
part a e table = take (e - a) (drop a table)

-- a stream's table of heads: it begins with the heads xs, at most `most`; then come the heads ys, and both together are at most `room`; the rest
-- of it is as it was
pub record Tables (most room : ℕ) (xs ys before table : List ℕ) (r : Counts) : Type 0 where
  pub few : r.first ≤ most
  pub fit : r.first + r.second ≤ room
  pub first_are : part 0 r.first table ≡ xs
  pub second_are : part r.first (r.first + r.second) table ≡ ys
  pub rest : drop (r.first + r.second) table ≡ drop (r.first + r.second) before

-- a head and the d records after it
unfoldable pub with_records : List ℕ → ℕ → ℕ
with_records s p = 1 + field_d s p

-- n things of a sort in a row from p on, up to q, and no more
pub record SortRow (is : ℕ → Bool) (size : ℕ → ℕ) (p n q : ℕ) : Type 0 where
  pub things : InRow (Spans is size) n p q
  pub stops : is q ≡ false

-- a thing of a size stands at p of a whole stream, and inside it; r is its head
pub record ThingAt (s : List ℕ) (p : ℕ) (r : Record) (size : ℕ) : Type 0 where
  pub sized : stream_length s ≡ none
  pub fetched : Fetched s p r
  pub inside : p + size ≤ most_records

-- there is such a row from p on, inside a whole stream, and a table has room for its heads
pub record RowAhead (s : List ℕ) (is : ℕ → Bool) (size : ℕ → ℕ) (p room : ℕ) : Type 0 where
  pub sized : stream_length s ≡ none
  pub count : ℕ
  pub end : ℕ
  pub row : SortRow is size p count end
  pub fits : count ≤ room
  pub inside : end ≤ most_records

-- the row was gone over, and the table begins with its heads
pub record RowFilled (is : ℕ → Bool) (size : ℕ → ℕ) (p : ℕ) (before table : List ℕ) (r : RowEnd) : Type 0 where
  pub row : SortRow is size p r.count r.next
  pub begins : take r.count table ≡ heads size r.count p
  pub rest : drop r.count table ≡ drop r.count before

-- a row of one sort, whose heads are `first`, at most so many, and then one of another, whose heads are `second`; and there is room for both
pub record TwoRows (s : List ℕ) (is is' : ℕ → Bool) (size other : ℕ → ℕ) (most room : ℕ) (first second : List ℕ) : Type 0 where
  pub sized : stream_length s ≡ none
  pub count : ℕ
  pub middle : ℕ
  pub count' : ℕ
  pub end : ℕ
  pub row : SortRow is size 0 count middle
  pub row' : SortRow is' other middle count' end
  pub first_are : first ≡ heads size count 0
  pub second_are : second ≡ heads other count' middle
  pub few : count ≤ most
  pub fit : count + count' ≤ room
  pub inside : end ≤ most_records

-- there are two such rows, and a table has room for their heads
pub record RoomForRows (s : List ℕ) (is is' : ℕ → Bool) (size other : ℕ → ℕ) (n : ℕ) : Type 0 where
  pub most : ℕ
  pub room : ℕ
  pub first : List ℕ
  pub second : List ℕ
  pub rows : TwoRows s is is' size other most room first second
  pub fits : room ≤ n
