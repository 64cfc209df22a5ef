-- The paper's example and its cases M1 to M12, as rows of one table over whole streams of blocks. Each row has all five fields and the text.
use Rattle.std.specs.Prelude.{ℕ, ◌+◌, ◌-◌, ◌/◌, ◌%◌, ◌≡◌, refl, cond, length, take, replicate, leb}
use Prim.Native.Char.{code}
use Prim.Native.String.{String, [] as []ˢ, ◌∷◌ as ◌∷ˢ◌}
use mathlib.Core.List.{List, [], ◌∷◌, ◌++◌, map, flatten}
use Rattle.rules.specs.Faults
use Rattle.rules.specs.Records
use Rattle.rules.specs.Blocks
use Rattle.rules.specs.Lexeme
use Rattle.rules.specs.Grammar
use Rattle.rules.specs.Templates
use Rattle.rules.specs.Value
use Rattle.rules.specs.Layout
use Rattle.rules.specs.Limits
use Rattle.rules.specs.Names
use Rattle.rules.specs.Classes
use Rattle.rules.specs.Typing
use Rattle.rules.specs.Walk
use Rattle.rules.specs.Answers
use Rattle.rules.specs.Blocks.{packed}
use Rattle.rules.specs.Answers.{answer, scratch_needed, evaluate}
use Rattle.rules.specs.declared.Answer.{Answer}

-- Records are made from what the paper says of them; counts and sizes are computed.
-- "Byte 0 kind, byte 1 a, then words b, c, d of 16 bits, little-endian."
unfoldable pub head : ℕ → ℕ → ℕ → ℕ → ℕ → List ℕ
head kind a b c d = kind ∷ a ∷ b % 256 ∷ b / 256 ∷ c % 256 ∷ c / 256 ∷ d % 256 ∷ d / 256 ∷ []

-- "Size is the number of records of a thing, head and all below it."
unfoldable pub size : List ℕ → ℕ
size below = 1 + length below / 8

-- a text's bytes: UTF-8 up to U+07FF, as the example has no character past that
unfoldable pub utf8 : String → List ℕ
utf8 []ˢ = []
utf8 (c ∷ˢ s) = cond (leb (code c) 0x7f) (code c ∷ []) ((0xc0 + code c / 64) ∷ (0x80 + code c % 64) ∷ []) ++ utf8 s

-- "Text follows its head in units of 8 bytes, the last zero-padded; length 0 has no unit."
unfoldable pub in_units : String → List ℕ
in_units x = utf8 x ++ replicate ((8 - length (utf8 x) % 8) % 8) 0

-- Grammar. "1 class: a number (from 0, consecutive), b least and c most characters, d count of ranges."
unfoldable pub class : ℕ → ℕ → ℕ → List (List ℕ) → List ℕ
class number least most ranges = head 1 number least most (length ranges) ++ flatten ranges

-- "2 range: bytes 1-3 lowest and 4-6 highest code point, little-endian."
unfoldable pub range : ℕ → ℕ → List ℕ
range low high = 2 ∷ low % 256 ∷ low / 256 % 256 ∷ low / 65536 ∷ high % 256 ∷ high / 256 % 256 ∷ high / 65536 ∷ 0 ∷ []

-- "3 production: a number (from 0, consecutive ..), b its nonterminal, d count of elements"; 02 f: "a holds its low byte and c its high byte"
unfoldable pub production : ℕ → ℕ → List (List ℕ) → List ℕ
production number nonterminal elements = head 3 (number % 256) nonterminal (number / 256) (length elements) ++ flatten elements

-- "4 element: a = 0 keyword (b bytes of text follow), 1 class b, .. 3 repetition of nonterminal b."
unfoldable pub keyword : String → List ℕ
keyword x = head 4 0 (length (utf8 x)) 0 0 ++ in_units x

unfoldable pub lexeme : ℕ → List ℕ
lexeme class = head 4 1 class 0 0

unfoldable pub repetition : ℕ → List ℕ
repetition nonterminal = head 4 3 nonterminal 0 0

-- Templates. "1 type (numbered by order from 0): a = 0 text of class b, .. 2 list of type b"
unfoldable pub text_type : ℕ → List ℕ
text_type class = head 1 0 class 0 0

unfoldable pub list_type : ℕ → List ℕ
list_type type = head 1 2 type 0 0

-- "3 template (numbered by order): a parameters, b nonterminal, c size; then 4 parameter: type b; then one body node."
unfoldable pub template : ℕ → List (List ℕ) → List ℕ → List ℕ
template nonterminal parameters body =
    let below = flatten parameters ++ body in
    head 3 (length parameters) nonterminal (size below) 0 ++ below

unfoldable pub parameter : ℕ → List ℕ
parameter type = head 4 0 type 0 0

-- "5 node: a form, c size; children follow in order."
unfoldable pub node : ℕ → ℕ → ℕ → List ℕ → List ℕ
node form b d below = head 5 form b (size below) d ++ below

-- "0 build (b production, d children ..); .. 2 place (a path); 3 expand (b template, d paths); .. 5 for (path, one node); 6 sequence (d nodes)."
unfoldable pub build : ℕ → List (List ℕ) → List ℕ
build production children = node 0 production (length children) (flatten children)

unfoldable pub place : List ℕ → List ℕ
place path = node 2 0 0 path

unfoldable pub expand : ℕ → List (List ℕ) → List ℕ
expand template paths = node 3 template (length paths) (flatten paths)

unfoldable pub for : List ℕ → List ℕ → List ℕ
for path body = node 5 0 0 (path ++ body)

unfoldable pub sequence : List (List ℕ) → List ℕ
sequence items = node 6 0 (length items) (flatten items)

-- "6 path: byte 1 variable, byte 2 number of steps (0 to 5)": all paths of the example have no step
unfoldable pub path : ℕ → List ℕ
path variable = head 6 variable 0 0 0

-- Value. "1 text: b bytes, c size. .. 3 list ..: c size, d children."
unfoldable pub text : String → List ℕ
text x = head 1 0 (length (utf8 x)) (size (in_units x)) 0 ++ in_units x

unfoldable pub list : List (List ℕ) → List ℕ
list items = head 3 0 0 (size (flatten items)) (length items) ++ flatten items

-- The example. "Class 0: 1 to 4 characters, U+0061-U+007A and U+0370-U+03FF. Nonterminal 0: production 0, "[" repetition of 1 "]".
-- Nonterminal 1: production 1, "<" class 0 ">"."
unfoldable pub example_grammar : List ℕ
example_grammar =
    class 0 1 4 (range 0x61 0x7a ∷ range 0x370 0x3ff ∷ [])
    ++ production 0 0 (keyword "[" ∷ repetition 1 ∷ keyword "]" ∷ [])
    ++ production 1 1 (keyword "<" ∷ lexeme 0 ∷ keyword ">" ∷ [])

-- "Types: 0 text of class 0, 1 list of 0. Template 0 (type 1, nonterminal 0):"
unfoldable pub templates_with : List ℕ → List ℕ
templates_with body = text_type 0 ++ list_type 0 ++ template 0 (parameter 1 ∷ []) body

-- "build 0 of a sequence of one for over variable 0, body build 1 of place variable 1."
unfoldable pub example_templates : List ℕ
example_templates = templates_with (build 0 (sequence (for (path 0) (build 1 (place (path 1) ∷ [])) ∷ []) ∷ []))

-- "body "expand 0 on variable 0" alone"
unfoldable pub endless_templates : List ℕ
endless_templates = templates_with (expand 0 (path 0 ∷ []))

-- "Value: "ab", "αβγδ"."
unfoldable pub example_value : List ℕ
example_value = list (text "ab" ∷ text "αβγδ" ∷ [])

-- what is evaluated, and what is expected: the answer, and the text written
pub record Case : Type 0 where
  pub templates : List ℕ
  pub value : List ℕ
  pub fuel : ℕ
  pub room : ℕ
  pub expected : Answer
  pub written : String

unfoldable pub case : List ℕ → List ℕ → ℕ → ℕ → Answer → String → Case
case t v fuel room a x = record { templates = t; value = v; fuel = fuel; room = room; expected = a; written = x }

-- The table: templates, value, fuel, output bytes; the answer's number, kind, place, steps and bytes; the text. "with fuel 1,000,000 and 65,536
-- output bytes", where a case says nothing else.
unfoldable pub cases : List Case
cases =
    -- M1 the above
    case example_templates example_value 1_000_000 65_536 (answer 0 0 0 7 16) "[<ab><αβγδ>]"
    -- M2 fuel 7: finished
    ∷ case example_templates example_value 7 65_536 (answer 0 0 0 7 16) "[<ab><αβγδ>]"
    -- M3 fuel 6: 10, place 9, 6 steps, 6 bytes
    ∷ case example_templates example_value 6 65_536 (answer 10 2 9 6 6) "[<ab><"
    -- M4 fuel 0: 10, 0 bytes
    ∷ case example_templates example_value 0 65_536 (answer 10 2 4 0 0) ""
    -- M5 output 16: finished
    ∷ case example_templates example_value 1_000_000 16 (answer 0 0 0 7 16) "[<ab><αβγδ>]"
    -- M6 output 15: 12, place 4, 15 bytes
    ∷ case example_templates example_value 1_000_000 15 (answer 12 2 4 7 15) "[<ab><αβγδ>"
    -- M7 output 13: 12, place 9, 6 bytes
    ∷ case example_templates example_value 1_000_000 13 (answer 12 2 9 7 6) "[<ab><"
    -- M8 empty list: "[]", 3 steps
    ∷ case example_templates (list []) 1_000_000 65_536 (answer 0 0 0 3 2) "[]"
    -- M9 title of five Greek letters: 8
    ∷ case example_templates (list (text "αβγδε" ∷ [])) 1_000_000 65_536 (answer 8 3 1 0 0) ""
    -- M10 empty title: 8
    ∷ case example_templates (list (text "" ∷ [])) 1_000_000 65_536 (answer 8 3 1 0 0) ""
    -- M11 body "expand 0 on variable 0" alone, fuel 201: 11, 201 steps
    ∷ case endless_templates example_value 201 65_536 (answer 11 2 4 201 0) ""
    -- M12 the same, fuel 200: 10, 200 steps
    ∷ case endless_templates example_value 200 65_536 (answer 10 2 4 200 0) ""
    ∷ []

-- the evaluate call on packed streams, an output of zeros and the scratch that 9 asks for; the text is the first bytes of the output
unfoldable pub evaluated : Case → Answer × List ℕ
evaluated c =
    let o = evaluate (packed 1 example_grammar) (packed 2 c.templates) (packed 3 c.value) c.fuel (replicate c.room 0) (replicate scratch_needed 0) in
    (o.result, take o.result.bytes o.output)

unfoldable pub stated : Case → Answer × List ℕ
stated c = (c.expected, utf8 c.written)

-- Both sides compute to the same. Named are all the definitions that antt looks into on the way, module by module.
pub cases_hold : map evaluated cases ≡ map stated cases
unfolding flatten head size utf8 in_units class range production keyword lexeme repetition text_type list_type template parameter node build place
    expand for sequence path text list example_grammar templates_with example_templates endless_templates example_value case cases evaluated stated
    Faults.need Faults.both Faults.every Faults.tree Faults.on_found Faults.exists Faults.only_if Faults.at
    Records.base Records.byte_of Records.word Records.kind_of Records.field_a Records.field_b Records.field_c Records.field_d Records.record_count
    Records.records_from Records.units Records.text_of Records.padding_of Records.zeros Records.heads Records.after Records.row Records.things
    Records.those Records.nth Records.numbered
    Blocks.fnv_start Blocks.multiplied Blocks.fnv1a Blocks.word32 Blocks.check_of Blocks.sound Blocks.stream_length Blocks.block Blocks.start_of Blocks.block_right Blocks.stream_blocks
    Blocks.bytes32 Blocks.checked Blocks.filled Blocks.packed_block Blocks.packed_blocks packed
    Lexeme.between Lexeme.inside Lexeme.first_byte Lexeme.later_byte Lexeme.next_byte Lexeme.decode Lexeme.decoded Lexeme.characters_of Lexeme.lowest
    Lexeme.highest Lexeme.ranges Lexeme.in_some Lexeme.is_xml_char Lexeme.is_of_class Lexeme.all_of_class Lexeme.admits Lexeme.is_plain_lexeme Lexeme.is_lexeme
    Grammar.text_length Grammar.is_class Grammar.element_size Grammar.production_size Grammar.production_number Grammar.grammar_size Grammar.grammar_things Grammar.classes Grammar.productions Grammar.class Grammar.plain_class
    Grammar.escaped_class Grammar.plain_of
    Grammar.production Grammar.element_numbered Grammar.element_at Grammar.element_heads Grammar.elements Grammar.has_production Grammar.nonterminal_exists
    Templates.templates_size Templates.templates_things Templates.types Templates.templates Templates.type Templates.template Templates.field_heads
    Templates.type_numbered Templates.type_at Templates.type_of Templates.parameter_heads Templates.parameters Templates.body Templates.form_numbered
    Templates.form_of Templates.is_for Templates.nodes Templates.paths Templates.path Templates.first Templates.nodes_of Templates.nodes_below Templates.variable
    Templates.field_numbers
    Value.value_size Value.children Value.values_below Value.as_text Value.as_list
    Layout.then_read Layout.in_row Layout.while_is Layout.text_end Layout.range_end Layout.plain_end Layout.escaped_end Layout.class_end Layout.element_end Layout.production_end
    Layout.grammar_end Layout.naming_end Layout.type_form_end Layout.type_end Layout.path_end Layout.form_end Layout.sized Layout.node_end Layout.template_end
    Layout.templates_end Layout.children_end Layout.kind_end Layout.value_end Layout.tail_right Layout.layout_fault Layout.grammar_layout
    Layout.templates_layout Layout.value_layout
    Limits.deepest Limits.looped Limits.loops_below Limits.looped_below Limits.few_loops Limits.template_limits Limits.templates_limits Limits.value_limits
    Names.element_named Names.class_named Names.grammar_names Names.type_named Names.type_names Names.form_named Names.node_named Names.template_names Names.templates_names
    Classes.range_right Classes.class_bounds Classes.bounds_right Classes.grammar_classes
    Typing.asks_class Typing.asks_nonterminal Typing.asks_repetition Typing.asks_item Typing.positions Typing.text_class Typing.item_type Typing.type_along
    Typing.path_type Typing.arguments_fit Typing.site Typing.suits_form Typing.suits Typing.sites Typing.sites_of Typing.sites_below Typing.misfit
    Typing.body_site Typing.only Typing.declared_type Typing.templates_typing Typing.typed Typing.has_form Typing.has_type Typing.typed_of Typing.typed_below
    Typing.mistyped Typing.value_typing
    Walk.start Walk.and_then Walk.value_along Walk.path_value Walk.path_values Walk.write Walk.with_child Walk.pieces Walk.filled_by Walk.separate
    Walk.visit_item Walk.in_order Walk.listed Walk.items_of Walk.visit_in Walk.written_for Walk.visit_form Walk.counted Walk.reached Walk.visit Walk.walk
    answer Answers.stream_kind Answers.bytes_of Answers.layout_of Answers.limits_of Answers.placed Answers.over Answers.try Answers.accept
    Answers.set_refusal scratch_needed Answers.evaluate_refusal Answers.limit_number Answers.left Answers.kept Answers.walked
    Answers.unless_refused Answers.input evaluate
cases_hold = refl
