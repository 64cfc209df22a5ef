-- Layout as a relation, in the words of section "Records": which records lay out a thing from p up to q.
use Rattle.std.specs.Prelude.{◌≡◌, ℕ, suc, ◌+◌, ◌-◌, ◌*◌, ◌≤◌, ◌<◌, List, get_or}
use Rattle.rules.specs.Records.{record_count, byte_of, kind_of, field_a, field_b, field_c, field_d, units, padding_of}

-- so many things in a row from p up to q
pub data InRow (Thing : ℕ → ℕ → Type 0) : ℕ → ℕ → ℕ → Type 0 where
  no_thing : (p : ℕ) → InRow Thing 0 p p
  one_thing : (n p q r : ℕ) → Thing p q → InRow Thing n q r → InRow Thing (suc n) p r

-- the same, numbered from n on
pub data Numbered (Thing : ℕ → ℕ → ℕ → Type 0) : ℕ → ℕ → ℕ → ℕ → Type 0 where
  no_more : (n p : ℕ) → Numbered Thing n 0 p p
  one_more : (n m p q r : ℕ) → Thing n p q → Numbered Thing (suc n) m q r → Numbered Thing n (suc m) p r

-- "the last zero-padded": every byte past the text of n bytes in its units
abbrev pub Padded : List ℕ → ℕ → ℕ → Type 0
Padded s n p = (i : ℕ) → get_or (padding_of s n p) i 0 ≡ 0

-- "After the last thing come zero records only, fewer than 63."
pub record Tail (s : List ℕ) (p : ℕ) : Type 0 where
  pub a_thing : 1 ≤ p
  pub inside : p ≤ record_count s
  pub few : record_count s - p < 63
  pub zero_records : (i j : ℕ) → p ≤ i → i < record_count s → j < 8 → byte_of s i j ≡ 0

-- Grammar
pub record RangeAt (g : List ℕ) (p q : ℕ) : Type 0 where
  pub kind : kind_of g p ≡ 2
  pub unused : byte_of g p 7 ≡ 0
  pub end : q ≡ p + 1

-- "1 class: a number (from 0, consecutive), b least and c most characters, d count of ranges", which is a plain one; 02 c: "Grammar record 5 declares
-- an escaped class: a its number in the common row of classes, b an earlier plain class". It has no ranges.
pub data ClassAt (g : List ℕ) (n p q : ℕ) : Type 0 where
  a_plain : kind_of g p ≡ 1 → field_a g p ≡ n → InRow (RangeAt g) (field_d g p) (p + 1) q → ClassAt g n p q
  an_escaped : kind_of g p ≡ 5 → field_a g p ≡ n → field_c g p ≡ 0 → field_d g p ≡ 0 → q ≡ p + 1 → ClassAt g n p q

pub record ElementHead (g : List ℕ) (p : ℕ) : Type 0 where
  pub kind : kind_of g p ≡ 4
  pub unused_d : field_d g p ≡ 0

-- "0 keyword (b bytes of text follow), 1 class b, 2 nonterminal b, 3 repetition of nonterminal b"; 02 a: "4 is a repetition of nonterminal b with
-- c bytes of separator text after the record". The others have no text.
pub data ElementAt (g : List ℕ) : ℕ → ℕ → Type 0 where
  a_keyword : (p : ℕ) → ElementHead g p → field_a g p ≡ 0 → field_c g p ≡ 0 → Padded g (field_b g p) p → ElementAt g p (p + 1 + units (field_b g p))
  a_name : (p : ℕ) → ElementHead g p → 1 ≤ field_a g p → field_a g p ≤ 3 → field_c g p ≡ 0 → ElementAt g p (p + 1)
  a_separated : (p : ℕ) → ElementHead g p → field_a g p ≡ 4 → Padded g (field_c g p) p → ElementAt g p (p + 1 + units (field_c g p))

-- "3 production: a number (from 0, consecutive ..), b its nonterminal, d count of elements"; 02 f: "a holds its low byte and c its high byte"
pub record ProductionAt (g : List ℕ) (n p q : ℕ) : Type 0 where
  pub kind : kind_of g p ≡ 3
  pub number : field_a g p + 256 * field_c g p ≡ n
  pub elements : InRow (ElementAt g) (field_d g p) (p + 1) q

-- "Grammar, classes first"
pub record GrammarLaid (g : List ℕ) : Type 0 where
  pub class_count : ℕ
  pub production_count : ℕ
  pub middle : ℕ
  pub end : ℕ
  pub classes : Numbered (ClassAt g) 0 class_count 0 middle
  pub productions : Numbered (ProductionAt g) 0 production_count middle end
  pub tail : Tail g end

-- Templates: a field (kind 2) and a parameter (kind 4) name a type
pub record NamingAt (t : List ℕ) (kind p q : ℕ) : Type 0 where
  pub kind_is : kind_of t p ≡ kind
  pub unused_a : field_a t p ≡ 0
  pub unused_c : field_c t p ≡ 0
  pub unused_d : field_d t p ≡ 0
  pub end : q ≡ p + 1

pub data TypeAt (t : List ℕ) : ℕ → ℕ → Type 0 where
  a_text : (p : ℕ) → kind_of t p ≡ 1 → field_a t p ≡ 0 → field_c t p ≡ 0 → field_d t p ≡ 0 → TypeAt t p (p + 1)
  a_yes_no : (p : ℕ) → kind_of t p ≡ 1 → field_a t p ≡ 1 → field_b t p ≡ 0 → field_c t p ≡ 0 → field_d t p ≡ 0 → TypeAt t p (p + 1)
  a_list : (p : ℕ) → kind_of t p ≡ 1 → field_a t p ≡ 2 → field_c t p ≡ 0 → field_d t p ≡ 0 → TypeAt t p (p + 1)
  a_record : (p q : ℕ) → kind_of t p ≡ 1 → field_a t p ≡ 3 → field_b t p ≡ 0 → field_c t p ≡ 0 → InRow (NamingAt t 2) (field_d t p) (p + 1) q → TypeAt t p q
  -- 02 g: "a variant with d cases (1 to 256, else 3), one field record each"
  a_variant : (p q : ℕ) → kind_of t p ≡ 1 → field_a t p ≡ 4 → field_b t p ≡ 0 → field_c t p ≡ 0 → 1 ≤ field_d t p → field_d t p ≤ 256
      → InRow (NamingAt t 2) (field_d t p) (p + 1) q → TypeAt t p q

pub record PathAt (t : List ℕ) (p q : ℕ) : Type 0 where
  pub kind : kind_of t p ≡ 6
  pub steps : byte_of t p 2 ≤ 5
  pub unused : (j : ℕ) → 3 + byte_of t p 2 ≤ j → j < 8 → byte_of t p j ≡ 0
  pub end : q ≡ p + 1

-- the head of a node of a form; "Size is the number of records of a thing, head and all below it"
pub record NodeHead (t : List ℕ) (form p q : ℕ) : Type 0 where
  pub kind : kind_of t p ≡ 5
  pub form_is : field_a t p ≡ form
  pub size : p + field_c t p ≡ q

mutual
  pub data NodeAt (t : List ℕ) : ℕ → ℕ → Type 0 where
    a_build : (p q : ℕ) → NodeHead t 0 p q → NodesAt t (field_d t p) (p + 1) q → NodeAt t p q
    a_literal : (p q : ℕ) → NodeHead t 1 p q → field_d t p ≡ 0 → Padded t (field_b t p) p → q ≡ p + 1 + units (field_b t p) → NodeAt t p q
    a_place : (p q : ℕ) → NodeHead t 2 p q → field_b t p ≡ 0 → field_d t p ≡ 0 → PathAt t (p + 1) q → NodeAt t p q
    an_expand : (p q : ℕ) → NodeHead t 3 p q → InRow (PathAt t) (field_d t p) (p + 1) q → NodeAt t p q
    an_if : (p q r : ℕ) → NodeHead t 4 p q → field_b t p ≡ 0 → field_d t p ≡ 0 → PathAt t (p + 1) r → NodesAt t 2 r q → NodeAt t p q
    a_for : (p q r : ℕ) → NodeHead t 5 p q → field_b t p ≡ 0 → field_d t p ≡ 0 → PathAt t (p + 1) r → NodesAt t 1 r q → NodeAt t p q
    a_sequence : (p q : ℕ) → NodeHead t 6 p q → field_b t p ≡ 0 → NodesAt t (field_d t p) (p + 1) q → NodeAt t p q
    -- 02 g: "a path, then d nodes"
    a_match : (p q r : ℕ) → NodeHead t 7 p q → field_b t p ≡ 0 → PathAt t (p + 1) r → NodesAt t (field_d t p) r q → NodeAt t p q

  pub data NodesAt (t : List ℕ) : ℕ → ℕ → ℕ → Type 0 where
    no_node : (p : ℕ) → NodesAt t 0 p p
    one_node : (n p q r : ℕ) → NodeAt t p q → NodesAt t n q r → NodesAt t (suc n) p r

pub record TemplateAt (t : List ℕ) (p q : ℕ) : Type 0 where
  pub kind : kind_of t p ≡ 3
  pub unused_d : field_d t p ≡ 0
  pub size : p + field_c t p ≡ q
  pub parameters : InRow (NamingAt t 4) (field_a t p) (p + 1) (p + 1 + field_a t p)
  pub body : NodeAt t (p + 1 + field_a t p) q

-- "Templates, types first"
pub record TemplatesLaid (t : List ℕ) : Type 0 where
  pub type_count : ℕ
  pub template_count : ℕ
  pub middle : ℕ
  pub end : ℕ
  pub types : InRow (TypeAt t) type_count 0 middle
  pub templates : InRow (TemplateAt t) template_count middle end
  pub tail : Tail t end

-- Value
mutual
  pub data ValueAt (v : List ℕ) : ℕ → ℕ → Type 0 where
    a_text : (p q : ℕ) → kind_of v p ≡ 1 → field_a v p ≡ 0 → field_d v p ≡ 0 → p + field_c v p ≡ q → Padded v (field_b v p) p
        → q ≡ p + 1 + units (field_b v p) → ValueAt v p q
    a_yes_no : (p q : ℕ) → kind_of v p ≡ 2 → field_a v p ≤ 1 → field_b v p ≡ 0 → field_c v p ≡ 0 → field_d v p ≡ 0 → q ≡ p + 1 → ValueAt v p q
    a_list : (p q : ℕ) → kind_of v p ≡ 3 → field_a v p ≡ 0 → field_b v p ≡ 0 → p + field_c v p ≡ q → ValuesAt v (field_d v p) (p + 1) q → ValueAt v p q
    a_record : (p q : ℕ) → kind_of v p ≡ 4 → field_a v p ≡ 0 → field_b v p ≡ 0 → p + field_c v p ≡ q → ValuesAt v (field_d v p) (p + 1) q → ValueAt v p q
    -- 02 g: "a case: a its number from 0, c size, one child"
    a_case : (p q : ℕ) → kind_of v p ≡ 5 → field_b v p ≡ 0 → field_d v p ≡ 0 → p + field_c v p ≡ q → ValueAt v (p + 1) q → ValueAt v p q

  pub data ValuesAt (v : List ℕ) : ℕ → ℕ → ℕ → Type 0 where
    no_value : (p : ℕ) → ValuesAt v 0 p p
    one_value : (n p q r : ℕ) → ValueAt v p q → ValuesAt v n q r → ValuesAt v (suc n) p r

-- "Value, exactly one."
pub record ValueLaid (v : List ℕ) : Type 0 where
  pub end : ℕ
  pub value : ValueAt v 0 end
  pub tail : Tail v end
