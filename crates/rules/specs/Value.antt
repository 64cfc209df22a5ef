-- The value's records, section "Records": "1 text: b bytes, c size. 2 yes/no: a 0 or 1. 3 list and 4 record: c size, d children."; 02 g: "Value record 5
-- is a case: a its number from 0, c size, one child"
use Rattle.std.specs.Prelude.{ℕ, ◌+◌, List, [], ◌∷◌, Bool, cond, eqb, leb}
use Rattle.std.proofs.Math.Option.{Option}
use Rattle.rules.specs.Faults.{only_if}
use Rattle.rules.specs.Records.{kind_of, field_a, field_b, field_c, field_d, text_of, heads}

-- a yes/no has no size field
unfoldable pub value_size : List ℕ → ℕ → ℕ
value_size v w = cond (eqb (kind_of v w) 2) 1 (field_c v w)

-- the children of a list or a record; of a case the "one child", its content
unfoldable pub children : List ℕ → ℕ → List ℕ
children v w = heads (value_size v) (field_d v w) (w + 1)

unfoldable pub content : ℕ → ℕ
content w = w + 1

-- the values directly below a value
unfoldable pub values_below : List ℕ → ℕ → List ℕ
values_below v w = cond (eqb (kind_of v w) 5) (content w ∷ []) (cond (leb 3 (kind_of v w)) (children v w) [])

-- a case by its number and its content
pub record Case : Type 0 where
  pub number : ℕ
  pub inside : ℕ

-- the value at w, if it is one of these: a text's bytes, whether a yes/no is yes, the items of a list, the fields of a record, a case
unfoldable pub as_text : List ℕ → ℕ → Option (List ℕ)
as_text v w = only_if (eqb (kind_of v w) 1) (text_of v (field_b v w) w)

unfoldable pub as_yes_no : List ℕ → ℕ → Option Bool
as_yes_no v w = only_if (eqb (kind_of v w) 2) (eqb (field_a v w) 1)

unfoldable pub as_list : List ℕ → ℕ → Option (List ℕ)
as_list v w = only_if (eqb (kind_of v w) 3) (children v w)

unfoldable pub as_record : List ℕ → ℕ → Option (List ℕ)
as_record v w = only_if (eqb (kind_of v w) 4) (children v w)

unfoldable pub as_case : List ℕ → ℕ → Option Case
as_case v w = only_if (eqb (kind_of v w) 5) (record { number = field_a v w; inside = content w })
