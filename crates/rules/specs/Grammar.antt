-- The grammar's records, section "Records": classes with their ranges, then productions with their elements.
use Rattle.std.specs.Prelude.{ℕ, zero, suc, ◌+◌, ◌-◌, ◌*◌, List, [], ◌∷◌, map, Bool, false, cond, ◌||◌, eqb}
use Rattle.std.proofs.Math.Option.{Option, none}
use Rattle.rules.specs.Faults.{on_found, only_if}
use Rattle.rules.specs.Records.{record_count, field_a, field_b, field_c, field_d, units, text_of, heads, after, things, those, of_kind, nth}

-- "0 keyword (b bytes of text follow)"; 02 a: "4 is a repetition of nonterminal b with c bytes of separator text after the record": how many
-- bytes of text follow an element
unfoldable pub text_length : List ℕ → ℕ → ℕ
text_length g e = cond (eqb (field_a g e) 0) (field_b g e) (cond (eqb (field_a g e) 4) (field_c g e) 0)

-- the records of an element, of a production (its elements follow it), of a class (its ranges follow it)
unfoldable pub element_size : List ℕ → ℕ → ℕ
element_size g e = 1 + units (text_length g e)

unfoldable pub production_size : List ℕ → ℕ → ℕ
production_size g p = after (element_size g) (field_d g p) (p + 1) - p

-- 02 f: "A production's number becomes a word: a holds its low byte and c its high byte". A c above 255 makes a number that no row comes to
unfoldable pub production_number : List ℕ → ℕ → ℕ
production_number g p = field_a g p + 256 * field_c g p

-- 02 c: "Grammar record 5 declares an escaped class: a its number in the common row of classes, b an earlier plain class". A class is a record 1,
-- which is a plain one, or a record 5; the latter's d is unused, so that no ranges follow it
unfoldable pub is_class : List ℕ → ℕ → Bool
is_class g p = of_kind g 1 p || of_kind g 5 p

unfoldable pub grammar_size : List ℕ → ℕ → ℕ
grammar_size g p = cond (is_class g p) (1 + field_d g p) (production_size g p)

unfoldable pub grammar_things : List ℕ → List ℕ
grammar_things g = things g (grammar_size g) (record_count g) 0

-- the heads of the classes and of the productions, by their numbers
unfoldable pub classes : List ℕ → List ℕ
classes g = those (is_class g) (grammar_things g)

unfoldable pub productions : List ℕ → List ℕ
productions g = those (of_kind g 3) (grammar_things g)

unfoldable pub class : List ℕ → ℕ → Option ℕ
class g n = nth (classes g) n

-- class n, if it is a plain one; if it is an escaped one
unfoldable pub plain_class : List ℕ → ℕ → Option ℕ
plain_class g n = on_found (class g n) none λ p. only_if (of_kind g 1 p) p

unfoldable pub escaped_class : List ℕ → ℕ → Option ℕ
escaped_class g n = on_found (class g n) none λ p. only_if (of_kind g 5 p) p

-- the plain class of class n: itself, or the one that an escaped class names
unfoldable pub plain_of : List ℕ → ℕ → ℕ
plain_of g n = on_found (escaped_class g n) n (field_b g)

unfoldable pub production : List ℕ → ℕ → Option ℕ
production g n = nth (productions g) n

-- "4 element: a = 0 keyword (b bytes of text follow), 1 class b, 2 nonterminal b, 3 repetition of nonterminal b"; 02 a: "4 is a repetition of
-- nonterminal b with c bytes of separator text after the record". A repetition has its separator, which is empty where the element has none.
-- A form that there isn't is none of these; layout admits no number above 4.
pub data Element : Type 0 where
  keyword : List ℕ → Element
  lexeme : ℕ → Element
  nonterminal : ℕ → Element
  repetition : ℕ → List ℕ → Element
  unknown : Element

unfoldable pub element_numbered : List ℕ → ℕ → ℕ → Element
element_numbered g zero e = keyword (text_of g (field_b g e) e)
element_numbered g (suc zero) e = lexeme (field_b g e)
element_numbered g (suc (suc zero)) e = nonterminal (field_b g e)
element_numbered g (suc (suc (suc zero))) e = repetition (field_b g e) []
element_numbered g (suc (suc (suc (suc zero)))) e = repetition (field_b g e) (text_of g (field_c g e) e)
element_numbered g (suc (suc (suc (suc (suc a))))) e = unknown

unfoldable pub element_at : List ℕ → ℕ → Element
element_at g e = element_numbered g (field_a g e) e

unfoldable pub element_heads : List ℕ → ℕ → List ℕ
element_heads g p = heads (element_size g) (field_d g p) (p + 1)

unfoldable pub elements : List ℕ → ℕ → List Element
elements g p = map (element_at g) (element_heads g p)

-- "A nonterminal exists if it has a production"
unfoldable pub has_production : List ℕ → ℕ → List ℕ → Bool
has_production g n [] = false
has_production g n (p ∷ ps) = eqb (field_b g p) n || has_production g n ps

unfoldable pub nonterminal_exists : List ℕ → ℕ → Bool
nonterminal_exists g n = has_production g n (productions g)
