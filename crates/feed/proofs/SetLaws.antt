-- What refusals 4 to 8 and the walk ask of what came before them, and of the tables of heads.
use Prim.Native.Nat.{ℕ, ◌+◌, ◌-◌, ◌≤◌}
use mathlib.Core.Path.{◌≡◌}
use mathlib.Core.List.{List}
use mathlib.Core.Option.{none}
use native.Mathlib.Omega.{arith}
use native.Mathlib.Nat.{sub-zero}
use lib.ListN.{length, take, drop, length-take}
use Rattle.std.specs.Prelude.{Some, None}
use Rattle.rules.specs.Blocks.{stream_length}
use Rattle.rules.specs.Records.{record_count}
use Rattle.rules.specs.Grammar.{classes, productions}
use Rattle.rules.specs.Templates.{types, templates}
use Rattle.rules.specs.Limits.{deepest, templates_limits}
use Rattle.rules.specs.Typing.{templates_typing}
use Rattle.rules.specs.Answers.{scratch_needed}
use Rattle.laws.specs.Reads.{few_records}
use Rattle.records.specs.Children.{Children}
use Rattle.lexeme.specs.Sets.{Compiled, LexemesReady}
use Rattle.layout.specs.Heads.{most_classes, LaidGrammar, LaidTemplates, Tables}
use Rattle.layout.specs.declared.heads.Counts.{Counts}
use Rattle.typing.specs.Asks.{TemplatesAsk}
use Rattle.walk.specs.Marks.{ProductionHeads}
use Rattle.walk.specs.Asks.{sources, Walkable}
use Rattle.feed.specs.Verdict.{SetLaid}
use Rattle.feed.specs.Asks.{Tabled, ValueSized, HeadsAsk, HeadsFilled, Room, GrammarRoom, StreamsLaid}
use Rattle.feed.proofs.OrderLaws.{two_laid, three_laid}
use Rattle.feed.proofs.EndLaws.{paths_fit}

-- Arrays with room for the records of a stream: a small one for a stream of at most 8 blocks, a large one for any that refusal 1 lets through
pub small_records : (s : List ℕ) → length s ≤ 4096 → record_count s ≤ 504
unfolding record_count
small_records s l = omega arith

pub small_room : (s : List ℕ) → length s ≤ 4096 → Room s 504
small_room s l = record { room = small_records s l; few = omega arith }

pub large_room : (s : List ℕ) → stream_length s ≡ none → Room s 8064
large_room s e = record { room = few_records s e; few = omega arith }

-- and an entry to spare
pub small_heads : (g : List ℕ) → length g ≤ 4096 → GrammarRoom g 505
small_heads g l = let h = small_records g l in record { room = omega arith; few = omega arith }

pub large_heads : (g : List ℕ) → stream_length g ≡ none → GrammarRoom g 8065
large_heads g e = let h = few_records g e in record { room = omega arith; few = omega arith }

-- what judging asks, in a check and in an evaluate call
pub none_sized : ValueSized None
none_sized = record { sized = λ v e. cc }

pub some_sized : (v : List ℕ) → stream_length v ≡ none → ValueSized (Some v)
some_sized v l = record { sized = λ w e. let h : v ≡ w = cc in rw (← h) l }

pub check_judges : (g t of-g of-t : List ℕ) → SetLaid g t → record_count g ≤ length of-g → record_count t ≤ length of-t → HeadsAsk g t None of-g of-t
check_judges g t of-g of-t e a b =
    let l = two_laid g t e in
    record { grammar_laid = l.0; templates_laid = l.1; value_sized = none_sized; grammar_room = a; templates_room = b }

pub evaluate_judges : (g t v firsts places of-g of-t : List ℕ) → StreamsLaid g t v firsts places → record_count g ≤ length of-g → record_count t ≤ length of-t
    → HeadsAsk g t (Some v) of-g of-t
evaluate_judges g t v firsts places of-g of-t laid a b =
    let l = three_laid g t v laid.passed in
    record { grammar_laid = l.0; templates_laid = l.1; value_sized = some_sized v l.2; grammar_room = a; templates_room = b }

-- the parts of the tables that were filled
module _ (g t of-g of-t of-g₀ of-t₀ : List ℕ) (m n : Counts) (lg : LaidGrammar g) (lt : LaidTemplates t)
    (a : Tables most_classes (record_count g) (classes g) (productions g) of-g₀ of-g m) (b : Tables (record_count t) (record_count t) (types t) (templates t) of-t₀ of-t n) where
  pub tabled : Tabled g t (take m.first of-g) (take (m.first + m.second - m.first) (drop m.first of-g)) (take n.first of-t) (take (n.first + n.second - n.first) (drop n.first of-t))
  tabled = record {
    grammar_sized = lg.length_right;
    templates_sized = lt.length_right;
    classes_are = simp sub-zero at a.first_are;
    productions_are = a.second_are;
    types_are = simp sub-zero at b.first_are;
    templates_are = b.second_are;
    few_classes = let f = a.few in simp length-take (omega arith);
  }

  pub heads_filled : HeadsFilled g t of-g of-t (record { classes = m.first; productions = m.first + m.second; types = n.first; templates = n.first + n.second })
  heads_filled = record {
    tabled = tabled;
    productions_behind = omega arith;
    templates_behind = omega arith;
    in_grammar = a.fit;
    in_templates = b.fit;
  }

-- what 7 and the walk ask
pub lexemes_ready : (g t cs ps us ts sets : List ℕ) → Tabled g t cs ps us ts → Compiled g sets → LexemesReady g cs sets
lexemes_ready g t cs ps us ts sets a c = record { grammar_sized = a.grammar_sized; heads = a.classes_are; sets = c }

pub typing_asks : (g t cs ps us ts sets : List ℕ) → Tabled g t cs ps us ts → Compiled g sets → templates_limits t ≡ none → TemplatesAsk g t cs sets ps us ts
typing_asks g t cs ps us ts sets a c e = record {
  lexemes = lexemes_ready g t cs ps us ts sets a c;
  productions_are = a.productions_are;
  types_are = a.types_are;
  templates_are = a.templates_are;
  sized_g = a.grammar_sized;
  sized_t = a.templates_sized;
  limits = e;
}

pub walk_asks : (g t v cs ps us ts heads firsts places scratch : List ℕ) → Tabled g t cs ps us ts → ProductionHeads g heads → templates_limits t ≡ none → templates_typing g t ≡ none
    → stream_length v ≡ none → Children v firsts places → 4800 ≤ length scratch → Walkable (sources g t v heads ts firsts places) scratch
unfolding scratch_needed deepest
walk_asks g t v cs ps us ts heads firsts places scratch a q e h l m f = record {
  lent = record {
    productions_are = q;
    templates_are = a.templates_are;
    grammar_sized = a.grammar_sized;
    templates_sized = a.templates_sized;
    value_lent = record { sized = l; children = m };
    few_paths = paths_fit g t e h;
  };
  scratch_lent = f;
}
