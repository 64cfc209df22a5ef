-- The templates' records, section "Records": types, then templates with their parameters and bodies; nodes and paths.
use Rattle.std.specs.Prelude.{ℕ, zero, suc, ◌+◌, List, [], ◌∷◌, map, Bool, true, false, cond, take, drop, eqb}
use Rattle.std.proofs.Math.Option.{Option}
use Rattle.rules.specs.Faults.{on_found}
use Rattle.rules.specs.Records.{record_count, records_from, byte_of, kind_of, field_a, field_b, field_c, field_d, heads, row, things, those, of_kind, nth}
use Rattle.rules.specs.declared.Form.{Form}
use Rattle.rules.specs.declared.Form.TheVariants.{Build, Literal, Place, Expand, If, For, Sequence, Match, Unknown}

-- the records of a type (its fields follow it) and of a template ("c size")
unfoldable pub templates_size : List ℕ → ℕ → ℕ
templates_size t p = cond (eqb (kind_of t p) 1) (1 + field_d t p) (field_c t p)

unfoldable pub templates_things : List ℕ → List ℕ
templates_things t = things t (templates_size t) (record_count t) 0

-- the heads of the types and of the templates, "numbered by order"
unfoldable pub types : List ℕ → List ℕ
types t = those (of_kind t 1) (templates_things t)

unfoldable pub templates : List ℕ → List ℕ
templates t = those (of_kind t 3) (templates_things t)

unfoldable pub type : List ℕ → ℕ → Option ℕ
type t n = nth (types t) n

unfoldable pub template : List ℕ → ℕ → Option ℕ
template t n = nth (templates t) n

-- "1 type (numbered by order from 0): a = 0 text of class b, 1 yes/no, 2 list of type b, 3 record of d fields. 2 field: type b .."; 02 g: "Type form 4
-- is a variant with d cases .., one field record each"
pub data TypeForm : Type 0 where
  text : ℕ → TypeForm
  yes_no : TypeForm
  list : ℕ → TypeForm
  fields : List ℕ → TypeForm
  cases : List ℕ → TypeForm
  no_type : TypeForm

unfoldable pub field_heads : List ℕ → ℕ → List ℕ
field_heads t p = row (field_d t p) (p + 1)

unfoldable pub type_numbered : List ℕ → ℕ → ℕ → TypeForm
type_numbered t zero p = text (field_b t p)
type_numbered t (suc zero) p = yes_no
type_numbered t (suc (suc zero)) p = list (field_b t p)
type_numbered t (suc (suc (suc zero))) p = fields (map (field_b t) (field_heads t p))
type_numbered t (suc (suc (suc (suc zero)))) p = cases (map (field_b t) (field_heads t p))
type_numbered t (suc (suc (suc (suc (suc a))))) p = no_type

unfoldable pub type_at : List ℕ → ℕ → TypeForm
type_at t p = type_numbered t (field_a t p) p

-- what type n is
unfoldable pub type_of : List ℕ → ℕ → TypeForm
type_of t n = on_found (type t n) no_type (type_at t)

-- "3 template (numbered by order): a parameters, b nonterminal, c size; then 4 parameter: type b; then one body node"
unfoldable pub parameter_heads : List ℕ → ℕ → List ℕ
parameter_heads t p = row (field_a t p) (p + 1)

unfoldable pub parameters : List ℕ → ℕ → List ℕ
parameters t p = map (field_b t) (parameter_heads t p)

unfoldable pub body : List ℕ → ℕ → ℕ
body t p = p + 1 + field_a t p

-- "Node forms: 0 build ..; 1 literal ..; 2 place ..; 3 expand ..; 4 if ..; 5 for ..; 6 sequence .."; 02 g: "Node form 7 is match"
unfoldable pub form_numbered : ℕ → Form
form_numbered zero = Build
form_numbered (suc zero) = Literal
form_numbered (suc (suc zero)) = Place
form_numbered (suc (suc (suc zero))) = Expand
form_numbered (suc (suc (suc (suc zero)))) = If
form_numbered (suc (suc (suc (suc (suc zero))))) = For
form_numbered (suc (suc (suc (suc (suc (suc zero)))))) = Sequence
form_numbered (suc (suc (suc (suc (suc (suc (suc zero))))))) = Match
form_numbered (suc (suc (suc (suc (suc (suc (suc (suc n)))))))) = Unknown

unfoldable pub form_of : List ℕ → ℕ → Form
form_of t p = form_numbered (field_a t p)

unfoldable pub is_for : Form → Bool
is_for Build = false
is_for Literal = false
is_for Place = false
is_for Expand = false
is_for If = false
is_for For = true
is_for Sequence = false
is_for Match = false
is_for Unknown = false

-- the d nodes of a build or a sequence; the d paths of an expand
unfoldable pub nodes : List ℕ → ℕ → List ℕ
nodes t p = heads (field_c t) (field_d t p) (p + 1)

unfoldable pub paths : List ℕ → ℕ → List ℕ
paths t p = row (field_d t p) (p + 1)

-- a place, an if, a for and a match have a path; then come the two nodes of an if, the one of a for, the d arms of a match
unfoldable pub path : ℕ → ℕ
path p = p + 1

unfoldable pub first : ℕ → ℕ
first p = p + 2

unfoldable pub second : List ℕ → ℕ → ℕ
second t p = first p + field_c t (first p)

-- 02 g: "a path, then d nodes, one for each case in order"
unfoldable pub arms : List ℕ → ℕ → List ℕ
arms t p = heads (field_c t) (field_d t p) (first p)

-- the nodes directly below a node
unfoldable pub nodes_of : List ℕ → Form → ℕ → List ℕ
nodes_of t Build p = nodes t p
nodes_of t Literal p = []
nodes_of t Place p = []
nodes_of t Expand p = []
nodes_of t If p = first p ∷ second t p ∷ []
nodes_of t For p = first p ∷ []
nodes_of t Sequence p = nodes t p
nodes_of t Match p = arms t p
nodes_of t Unknown p = []

unfoldable pub nodes_below : List ℕ → ℕ → List ℕ
nodes_below t p = nodes_of t (form_of t p) p

-- "6 path: byte 1 variable, byte 2 number of steps (0 to 5), bytes 3-7 field numbers"
unfoldable pub variable : List ℕ → ℕ → ℕ
variable t p = byte_of t p 1

unfoldable pub field_numbers : List ℕ → ℕ → List ℕ
field_numbers t p = take (byte_of t p 2) (drop 3 (records_from t 1 p))
