-- What offends, and at which place: the refusals 1 to 9 of section "What stops a run", each in its words.
use Rattle.std.specs.Prelude.{◌≡◌, ℕ, suc, ◌/◌, ◌≤◌, ◌<◌, List, ◌∷◌, length}
use Rattle.std.proofs.Math.Option.{Option, some}
use Rattle.rules.specs.Records.{kind_of, field_a, field_b, field_c}
use Rattle.rules.specs.Lexeme.{lowest, highest, ranges}
use Rattle.rules.specs.Grammar.{class, classes, productions, element_at, element_heads}
use Rattle.rules.specs.Templates.{type, type_at, field_heads, templates, parameter_heads, body, form_of, nodes_below}
use Rattle.rules.specs.Value.{values_below}
use Rattle.rules.specs.declared.Position.{Position}
use Rattle.rules.specs.Answers
use Rattle.rules.specs.Answers.{Stream, stream_kind, bytes_of}
use Rattle.laws.specs.Faults.{In, Below}
use Rattle.theorems.specs.Streams.{WellSized, RightBlock}
use Rattle.theorems.specs.LaidOut.{GrammarLaid, TemplatesLaid, ValueLaid}
use Rattle.theorems.specs.Around.{Around}
use Rattle.theorems.specs.LimitsExactly.{Exists, ClassNames, HasProduction, ElementNames, TypeNames, NodeNames}
use Rattle.theorems.specs.Judgement.{Declared}
use Rattle.theorems.specs.OwnRule.{Fits, Stands, OfForm, ShouldBe}

-- 2: "A block has a wrong number, kind, byte 3 or check (place: block)."
pub record WrongBlock (kind : ℕ) (s : List ℕ) (n : ℕ) : Type 0 where
  pub a_block : n < length s / 512
  pub wrong : RightBlock kind s n → ⊥

-- 3: "The records break a layout above (place 0)." The layout of a stream of each kind:
abbrev pub Laid : Stream → Type 0
Laid (Answers.grammar g) = GrammarLaid g
Laid (Answers.templates t) = TemplatesLaid t
Laid (Answers.value v) = ValueLaid v

-- 4: "A template node or value is over 200 deep (body and whole value count 1), or a template has over 8 parameters, or over 16 loops stand around a node."
-- What stands d levels below the body, or the whole value, is d + 1 deep. In the template at p:
pub data TemplateOver (t : List ℕ) (p : ℕ) : ℕ → Type 0 where
  over_8_parameters : 8 < field_a t p → TemplateOver t p p
  over_200_deep : (d q : ℕ) → Below (nodes_below t) (body t p) d q → 200 < suc d → TemplateOver t p q
  over_16_loops : (n q : ℕ) → Around t (body t p) n q → 16 < n → TemplateOver t p q

pub data OverLimits : Stream → ℕ → Type 0 where
  a_template : (t : List ℕ) (p q : ℕ) → In p (templates t) → TemplateOver t p q → OverLimits (Answers.templates t) q
  a_value : (v : List ℕ) (d w : ℕ) → Below (values_below v) 0 d w → 200 < suc d → OverLimits (Answers.value v) w

-- 5: "A class, nonterminal, production, template or type named doesn't exist, or a field names no earlier type."; 02 c: "An escaped class naming
-- no earlier plain class, or a text type naming an escaped class, is refused as 5."
pub data GrammarUnnamed (g : List ℕ) : ℕ → Type 0 where
  by_class : (n p : ℕ) → class g n ≡ some p → (ClassNames g n p → ⊥) → GrammarUnnamed g p
  by_element : (p e : ℕ) → In p (productions g) → In e (element_heads g p) → (ElementNames g (element_at g e) → ⊥) → GrammarUnnamed g e

-- by type n, at p; by the template at p
pub data TypeUnnamed (g t : List ℕ) (n p : ℕ) : ℕ → Type 0 where
  by_type : (TypeNames g t (type_at t p) → ⊥) → TypeUnnamed g t n p p
  by_field : (f : ℕ) → In f (field_heads t p) → n ≤ field_b t f → TypeUnnamed g t n p f

pub data TemplateUnnamed (g t : List ℕ) (p : ℕ) : ℕ → Type 0 where
  by_template : (HasProduction g (field_b t p) → ⊥) → TemplateUnnamed g t p p
  by_parameter : (a : ℕ) → In a (parameter_heads t p) → (Exists (type t (field_b t a)) → ⊥) → TemplateUnnamed g t p a
  by_node : (d q : ℕ) → Below (nodes_below t) (body t p) d q → (NodeNames g t (form_of t q) (field_b t q) → ⊥) → TemplateUnnamed g t p q

pub data TemplatesUnnamed (g t : List ℕ) : ℕ → Type 0 where
  in_type : (n p q : ℕ) → type t n ≡ some p → TypeUnnamed g t n p q → TemplatesUnnamed g t q
  in_template : (p q : ℕ) → In p (templates t) → TemplateUnnamed g t p q → TemplatesUnnamed g t q

-- 6: "A class has least above most, or a range has lowest above highest or passes U+10FFFF." The plain class at p:
pub data WrongClass (g : List ℕ) (p : ℕ) : ℕ → Type 0 where
  least_above_most : field_c g p < field_b g p → WrongClass g p p
  lowest_above_highest : (r : ℕ) → In r (ranges g p) → highest g r < lowest g r → WrongClass g p r
  past_unicode : (r : ℕ) → In r (ranges g p) → 0x10ffff < highest g r → WrongClass g p r

-- 7: "A typing rule fails, or a path names a variable or field that isn't there (place of the node that holds the path or itself doesn't suit its position,
-- never the one above it; 0, and tried first, if template 0 is missing or has not one parameter)."
pub data Misfit (g t : List ℕ) : ℕ → Type 0 where
  undeclared : ((ty : ℕ) → Declared t ty → ⊥) → Misfit g t 0
  unsuited : (p q : ℕ) (vars : List ℕ) (at : Position) → In p (templates t) → Stands g t p vars q at → (Fits g t vars q at → ⊥) → Misfit g t q

-- 8: "The value isn't of its declared type." A value in it is not, by its own rule, of the type that it should be of:
pub data Mistyped (g t v : List ℕ) : ℕ → Type 0 where
  not_of_type : (ty w : ℕ) → ShouldBe t v ty w → (OfForm g t v ty w → ⊥) → Mistyped g t v w

-- All of these, by the refusal's number, the stream's kind and the place. Of a grammar, a template set and more streams; the check call has
-- no more streams, and no scratch. "1 has place 0; 9 has kind and place 0."
abbrev pub lent : List ℕ → List ℕ → List Stream → List Stream
lent g t more = Answers.grammar g ∷ Answers.templates t ∷ more

pub data Offence (g t : List ℕ) (more : List Stream) (scratch : Option (List ℕ)) : ℕ → ℕ → ℕ → Type 0 where
  wrong_length : (s : Stream) → In s (lent g t more) → (WellSized (bytes_of s) → ⊥) → Offence g t more scratch 1 (stream_kind s) 0
  wrong_block : (s : Stream) (n : ℕ) → In s (lent g t more) → WrongBlock (stream_kind s) (bytes_of s) n → Offence g t more scratch 2 (stream_kind s) n
  wrong_layout : (s : Stream) → In s (lent g t more) → (Laid s → ⊥) → Offence g t more scratch 3 (stream_kind s) 0
  over_limits : (s : Stream) (q : ℕ) → In s (lent g t more) → OverLimits s q → Offence g t more scratch 4 (stream_kind s) q
  grammar_unnamed : (q : ℕ) → GrammarUnnamed g q → Offence g t more scratch 5 1 q
  templates_unnamed : (q : ℕ) → TemplatesUnnamed g t q → Offence g t more scratch 5 2 q
  wrong_class : (p q : ℕ) → In p (classes g) → kind_of g p ≡ 1 → WrongClass g p q → Offence g t more scratch 6 1 q
  misfit : (q : ℕ) → Misfit g t q → Offence g t more scratch 7 2 q
  mistyped : (v : List ℕ) (q : ℕ) → In (Answers.value v) more → Mistyped g t v q → Offence g t more scratch 8 3 q
  short_scratch : (xs : List ℕ) → scratch ≡ some xs → length xs < 4800 → Offence g t more scratch 9 0 0
