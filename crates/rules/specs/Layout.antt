-- Layout, section "Records" and refusal 3; "Unused fields are zero." Each definition reads the records of one thing from p on and answers the place after it, if they lay one out.
use Rattle.std.specs.Prelude.{ℕ, zero, suc, ◌+◌, ◌-◌, List, Bool, true, false, cond, ◌&&◌, ◌||◌, drop, eqb, leb, ltb}
use Rattle.std.proofs.Math.Option.{Option, none, some}
use Rattle.rules.specs.Faults.{need, on_found, only_if}
use Rattle.rules.specs.Records.{record_count, byte_of, kind_of, field_a, field_b, field_c, field_d, records_from, units, padding_of, zeros, of_kind}
use Rattle.rules.specs.Grammar.{is_class, production_number, text_length}
use Rattle.rules.specs.Templates.{form_of}
use Rattle.rules.specs.declared.Form.{Form}
use Rattle.rules.specs.declared.Form.TheVariants.{Build, Literal, Place, Expand, If, For, Sequence, Match, Unknown}

-- one thing and then what follows it; n things in a row; things numbered from n on, as long as one of their sort comes, at most k
unfoldable pub then_read : Option ℕ → (ℕ → Option ℕ) → Option ℕ
then_read o next = on_found o none next

unfoldable pub in_row : (ℕ → Option ℕ) → ℕ → ℕ → Option ℕ
in_row one zero p = some p
in_row one (suc n) p = then_read (one p) (in_row one n)

unfoldable pub while_is : (ℕ → Bool) → (ℕ → ℕ → Option ℕ) → ℕ → ℕ → ℕ → Option ℕ
while_is is one zero n p = some p
while_is is one (suc k) n p = elim (is p) [ true ↦ then_read (one n p) (while_is is one k (suc n)) | false ↦ some p ]

-- "Text follows its head in units of 8 bytes, the last zero-padded": the place after the text of n bytes of the head at p
unfoldable pub text_end : List ℕ → ℕ → ℕ → Option ℕ
text_end s n p = only_if (zeros (padding_of s n p)) (p + 1 + units n)

-- Grammar. "2 range: bytes 1-3 lowest and 4-6 highest code point"; byte 7 is unused
unfoldable pub range_end : List ℕ → ℕ → Option ℕ
range_end g p = only_if (eqb (kind_of g p) 2 && eqb (byte_of g p 7) 0) (p + 1)

-- "1 class: a number (from 0, consecutive), b least and c most characters, d count of ranges"
unfoldable pub plain_end : List ℕ → ℕ → ℕ → Option ℕ
plain_end g n p = then_read (only_if (eqb (field_a g p) n) (p + 1)) (in_row (range_end g) (field_d g p))

-- 02 c: "Grammar record 5 declares an escaped class: a its number in the common row of classes, b an earlier plain class"; c and d are unused
unfoldable pub escaped_end : List ℕ → ℕ → ℕ → Option ℕ
escaped_end g n p = only_if (eqb (field_a g p) n && (eqb (field_c g p) 0 && eqb (field_d g p) 0)) (p + 1)

unfoldable pub class_end : List ℕ → ℕ → ℕ → Option ℕ
class_end g n p = cond (of_kind g 5 p) (escaped_end g n p) (plain_end g n p)

-- "4 element: a = 0 keyword (b bytes of text follow), 1 class b, 2 nonterminal b, 3 repetition of nonterminal b"; 02 a: "4 is a repetition of
-- nonterminal b with c bytes of separator text after the record"; only it uses c
unfoldable pub element_end : List ℕ → ℕ → Option ℕ
element_end g p =
    then_read (only_if (eqb (kind_of g p) 4 && (leb (field_a g p) 4 && ((eqb (field_a g p) 4 || eqb (field_c g p) 0) && eqb (field_d g p) 0))) p)
    (text_end g (text_length g p))

-- "3 production: a number (from 0, consecutive ..), b its nonterminal, d count of elements"; 02 f: "Refusal 3 no longer meets the 257th production;
-- it meets a number out of sequence"
unfoldable pub production_end : List ℕ → ℕ → ℕ → Option ℕ
production_end g n p = then_read (only_if (eqb (production_number g p) n) (p + 1)) (in_row (element_end g) (field_d g p))

-- "Grammar, classes first"
unfoldable pub grammar_end : List ℕ → Option ℕ
grammar_end g =
    then_read (while_is (is_class g) (class_end g) (record_count g) 0 0)
    (while_is (of_kind g 3) (production_end g) (record_count g) 0)

-- Templates. "2 field: type b .."; "4 parameter: type b"
unfoldable pub naming_end : List ℕ → ℕ → ℕ → Option ℕ
naming_end t kind p =
    only_if (eqb (kind_of t p) kind && (eqb (field_a t p) 0 && (eqb (field_c t p) 0 && eqb (field_d t p) 0))) (p + 1)

-- the head of a record or a variant, and d fields
unfoldable pub fields_end : List ℕ → ℕ → Option ℕ
fields_end t p = then_read (only_if (eqb (field_b t p) 0 && eqb (field_c t p) 0) (p + 1)) (in_row (naming_end t 2) (field_d t p))

-- "1 type ..: a = 0 text of class b, 1 yes/no, 2 list of type b, 3 record of d fields"; 02 g: "Type form 4 is a variant with d cases (1 to 256, else 3),
-- one field record each"
unfoldable pub type_form_end : List ℕ → ℕ → ℕ → Option ℕ
type_form_end t zero p = only_if (eqb (field_c t p) 0 && eqb (field_d t p) 0) (p + 1)
type_form_end t (suc zero) p = only_if (eqb (field_b t p) 0 && (eqb (field_c t p) 0 && eqb (field_d t p) 0)) (p + 1)
type_form_end t (suc (suc zero)) p = only_if (eqb (field_c t p) 0 && eqb (field_d t p) 0) (p + 1)
type_form_end t (suc (suc (suc zero))) p = fields_end t p
type_form_end t (suc (suc (suc (suc zero)))) p = then_read (only_if (leb 1 (field_d t p) && leb (field_d t p) 256) p) (fields_end t)
type_form_end t (suc (suc (suc (suc (suc a))))) p = none

unfoldable pub type_end : List ℕ → ℕ → Option ℕ
type_end t p = type_form_end t (field_a t p) p

-- "6 path: byte 1 variable, byte 2 number of steps (0 to 5), bytes 3-7 field numbers"; those past the steps are unused
unfoldable pub path_end : List ℕ → ℕ → Option ℕ
path_end t p =
    only_if (eqb (kind_of t p) 6 && (leb (byte_of t p 2) 5 && zeros (drop (3 + byte_of t p 2) (records_from t 1 p)))) (p + 1)

-- "0 build (b production, d children ..); 1 literal (b text bytes); 2 place (a path); 3 expand (b template, d paths); 4 if (path, two nodes);
-- 5 for (path, one node); 6 sequence (d nodes)"; 02 g: "7 is match: a path, then d nodes": what stands below a node's head; `node` reads a node
unfoldable pub form_end : List ℕ → Form → (ℕ → Option ℕ) → ℕ → Option ℕ
form_end t Build node p = in_row node (field_d t p) (p + 1)
form_end t Literal node p = then_read (only_if (eqb (field_d t p) 0) p) (text_end t (field_b t p))
form_end t Place node p = then_read (only_if (eqb (field_b t p) 0 && eqb (field_d t p) 0) (p + 1)) (path_end t)
form_end t Expand node p = in_row (path_end t) (field_d t p) (p + 1)
form_end t If node p = then_read (only_if (eqb (field_b t p) 0 && eqb (field_d t p) 0) (p + 1)) (λ q. then_read (path_end t q) (in_row node 2))
form_end t For node p = then_read (only_if (eqb (field_b t p) 0 && eqb (field_d t p) 0) (p + 1)) (λ q. then_read (path_end t q) (in_row node 1))
form_end t Sequence node p = then_read (only_if (eqb (field_b t p) 0) (p + 1)) (in_row node (field_d t p))
form_end t Match node p = then_read (only_if (eqb (field_b t p) 0) (p + 1)) (λ q. then_read (path_end t q) (in_row node (field_d t p)))
form_end t Unknown node p = none

-- "c size": it is the number of records of the thing, head and all below it
unfoldable pub sized : List ℕ → ℕ → Option ℕ → Option ℕ
sized s p end = then_read end (λ q. only_if (eqb (p + field_c s p) q) q)

-- "5 node: a form, c size; children follow in order", at most k levels of them
unfoldable pub node_end : List ℕ → ℕ → ℕ → Option ℕ
node_end t zero p = none
node_end t (suc k) p = then_read (only_if (eqb (kind_of t p) 5) p) (λ p. sized t p (form_end t (form_of t p) (node_end t k) p))

-- "3 template ..: a parameters, b nonterminal, c size; then 4 parameter: type b; then one body node"
unfoldable pub template_end : List ℕ → ℕ → Option ℕ
template_end t p =
    then_read (only_if (eqb (field_d t p) 0) p)
    (λ p. sized t p (then_read (in_row (naming_end t 4) (field_a t p) (p + 1)) (node_end t (record_count t))))

-- "Templates, types first"
unfoldable pub templates_end : List ℕ → Option ℕ
templates_end t =
    then_read (while_is (of_kind t 1) (λ n. type_end t) (record_count t) 0 0)
    (while_is (of_kind t 3) (λ n. template_end t) (record_count t) 0)

-- Value. "1 text: b bytes, c size. 2 yes/no: a 0 or 1. 3 list and 4 record: c size, d children."
-- 02 g: "Value record 5 is a case: a its number from 0, c size, one child"; b and d are unused.
-- By its kind; `value` reads a value below.
unfoldable pub children_end : List ℕ → (ℕ → Option ℕ) → ℕ → Option ℕ
children_end v value p = then_read (only_if (eqb (field_a v p) 0 && eqb (field_b v p) 0) p) (λ p. sized v p (in_row value (field_d v p) (p + 1)))

unfoldable pub case_end : List ℕ → (ℕ → Option ℕ) → ℕ → Option ℕ
case_end v value p = then_read (only_if (eqb (field_b v p) 0 && eqb (field_d v p) 0) p) (λ p. sized v p (in_row value 1 (p + 1)))

unfoldable pub kind_end : List ℕ → ℕ → (ℕ → Option ℕ) → ℕ → Option ℕ
kind_end v zero value p = none
kind_end v (suc zero) value p = then_read (only_if (eqb (field_a v p) 0 && eqb (field_d v p) 0) p) (λ p. sized v p (text_end v (field_b v p) p))
kind_end v (suc (suc zero)) value p =
    only_if (leb (field_a v p) 1 && (eqb (field_b v p) 0 && (eqb (field_c v p) 0 && eqb (field_d v p) 0))) (p + 1)
kind_end v (suc (suc (suc zero))) value p = children_end v value p
kind_end v (suc (suc (suc (suc zero)))) value p = children_end v value p
kind_end v (suc (suc (suc (suc (suc zero))))) value p = case_end v value p
kind_end v (suc (suc (suc (suc (suc (suc kind)))))) value p = none

unfoldable pub value_end : List ℕ → ℕ → ℕ → Option ℕ
value_end v zero p = none
value_end v (suc k) p = kind_end v (kind_of v p) (value_end v k) p

-- "After the last thing come zero records only, fewer than 63"; there is a thing
unfoldable pub tail_right : List ℕ → ℕ → Bool
tail_right s p =
    leb 1 p && (leb p (record_count s) && (ltb (record_count s - p) 63 && zeros (records_from s (record_count s - p) p)))

-- refusal 3: "The records break a layout above (place 0)"
unfoldable pub layout_fault : List ℕ → Option ℕ → Option ℕ
layout_fault s end = need (on_found end false (tail_right s)) 0

unfoldable pub grammar_layout : List ℕ → Option ℕ
grammar_layout g = layout_fault g (grammar_end g)

unfoldable pub templates_layout : List ℕ → Option ℕ
templates_layout t = layout_fault t (templates_end t)

unfoldable pub value_layout : List ℕ → Option ℕ
value_layout v = layout_fault v (value_end v (record_count v) 0)
