-- Trees laid out in records: a head with the records that belong to it alone, then the things below it in order. The layout is judged before the
-- depth, so the code keeps no levels. It goes over the heads in a row, and the things below each must end, by their sizes, where it ends itself.
use Rattle.std.specs.Prelude.{ℕ, zero, suc, ◌+◌, ◌≤◌, ◌<◌, ◌^◌, ◌≡◌, List, Bool, true, false, ◌&&◌, eqb, leb, ltb, Some, None}
use Rattle.std.specs.Prelude as code
use Rattle.std.proofs.Math.Option.{Option, none, some}
use Rattle.rules.specs.Faults.{on_found, only_if}
use Rattle.rules.specs.Blocks.{stream_length}
use Rattle.rules.specs.Records.{record_count, kind_of, field_a, field_b, field_c, field_d}
use Rattle.rules.specs.Templates.{form_of}
use Rattle.rules.specs.Value.{value_size}
use Rattle.rules.specs.Layout.{then_read, in_row, text_end, path_end, node_end, value_end}
use Rattle.rules.specs.declared.Form.{Form}
use Rattle.rules.specs.declared.Form.TheVariants as form
use Rattle.stream.specs.declared.record.Record.{Record}
use Rattle.stream.specs.declared.record.Place.{Place}
use Rattle.stream.specs.Record.{place_of}
use Rattle.records.specs.Sizes.{ValueSize}
use Rattle.layout.specs.declared.tree.Head.{Head}

-- what is laid out as a tree
pub data Thing : Type 0 where
  Node : Thing
  Value : Thing

-- n things from p on end at e, by their sizes. Each starts before e and none is empty, so that there are no more than e - p.
unfoldable pub chain : (ℕ → ℕ) → ℕ → ℕ → ℕ → Bool
chain size zero p e = eqb p e
chain size (suc n) p e = ltb p e && (ltb 0 (size p) && chain size n (p + size p) e)

-- the place after the head at p and its own records; how many things stand directly below it
module _ (head_end : ℕ → Option ℕ) (size below : ℕ → ℕ) where
  -- the heads from p on end at e, and after each stand things that end, by their sizes, where it ends itself, which is no later than e; at most k heads
  unfoldable pub scan : ℕ → ℕ → ℕ → Bool
  scan zero p e = eqb p e
  scan (suc k) p e =
      elim (ltb p e) [
        | false ↦ eqb p e
        | true ↦ leb (p + size p) e && on_found (head_end p) false (λ q. chain size (below p) q (p + size p) && scan k q e)
      ]

-- a head's text, whose end is also where the head ends by its size
unfoldable pub text_head : List ℕ → ℕ → Option ℕ
text_head s p = then_read (text_end s (field_b s p) p) (λ q. only_if (eqb (p + value_size s p) q) q)

-- a path after a head that names nothing; and one that counts nothing either
unfoldable pub path_head : List ℕ → ℕ → Option ℕ
path_head t p = then_read (only_if (eqb (field_b t p) 0) (p + 1)) (path_end t)

unfoldable pub bare_path_head : List ℕ → ℕ → Option ℕ
bare_path_head t p = then_read (only_if (eqb (field_b t p) 0 && eqb (field_d t p) 0) (p + 1)) (path_end t)

-- a node's own records, by its form: a literal has its text, a place, an if, a for and a match a path, an expand all its paths
unfoldable pub form_head : List ℕ → Form → ℕ → Option ℕ
form_head t form.Build p = some (p + 1)
form_head t form.Literal p = then_read (only_if (eqb (field_d t p) 0) p) (text_head t)
form_head t form.Place p = bare_path_head t p
form_head t form.Expand p = in_row (path_end t) (field_d t p) (p + 1)
form_head t form.If p = bare_path_head t p
form_head t form.For p = bare_path_head t p
form_head t form.Sequence p = only_if (eqb (field_b t p) 0) (p + 1)
form_head t form.Match p = path_head t p
form_head t form.Unknown p = none

unfoldable pub form_below : List ℕ → Form → ℕ → ℕ
form_below t form.Build p = field_d t p
form_below t form.Literal p = 0
form_below t form.Place p = 0
form_below t form.Expand p = 0
form_below t form.If p = 2
form_below t form.For p = 1
form_below t form.Sequence p = field_d t p
form_below t form.Match p = field_d t p
form_below t form.Unknown p = 0

-- a value's own records, by its kind: a text has its text
unfoldable pub kind_head : List ℕ → ℕ → ℕ → Option ℕ
kind_head v zero p = none
kind_head v (suc zero) p = then_read (only_if (eqb (field_a v p) 0 && eqb (field_d v p) 0) p) (text_head v)
kind_head v (suc (suc zero)) p =
    only_if (leb (field_a v p) 1 && (eqb (field_b v p) 0 && (eqb (field_c v p) 0 && eqb (field_d v p) 0))) (p + 1)
kind_head v (suc (suc (suc zero))) p = only_if (eqb (field_a v p) 0 && eqb (field_b v p) 0) (p + 1)
kind_head v (suc (suc (suc (suc zero)))) p = only_if (eqb (field_a v p) 0 && eqb (field_b v p) 0) (p + 1)
kind_head v (suc (suc (suc (suc (suc zero))))) p = only_if (eqb (field_b v p) 0 && eqb (field_d v p) 0) (p + 1)
kind_head v (suc (suc (suc (suc (suc (suc kind)))))) p = none

unfoldable pub kind_below : List ℕ → ℕ → ℕ → ℕ
kind_below v zero p = 0
kind_below v (suc zero) p = 0
kind_below v (suc (suc zero)) p = 0
kind_below v (suc (suc (suc zero))) p = field_d v p
kind_below v (suc (suc (suc (suc zero)))) p = field_d v p
kind_below v (suc (suc (suc (suc (suc zero))))) p = 1
kind_below v (suc (suc (suc (suc (suc (suc kind)))))) p = 0

-- of either
unfoldable pub head_end : Thing → List ℕ → ℕ → Option ℕ
head_end Node t p = then_read (only_if (eqb (kind_of t p) 5) p) (λ p. form_head t (form_of t p) p)
head_end Value v p = kind_head v (kind_of v p) p

unfoldable pub below : Thing → List ℕ → ℕ → ℕ
below Node t p = form_below t (form_of t p) p
below Value v p = kind_below v (kind_of v p) p

-- by the recursion of crate rules: the place after the thing at p; exactly one thing from p to e
unfoldable pub thing_end : Thing → List ℕ → ℕ → ℕ → Option ℕ
thing_end Node t k p = node_end t k p
thing_end Value v k p = value_end v k p

unfoldable pub fills : Thing → List ℕ → ℕ → ℕ → Bool
fills thing s p e = on_found (thing_end thing s (record_count s) p) false (λ q. eqb q e)

-- what the code says of a head at p: the place after its own records, and the things below it
abbrev pub end_at : ℕ → code.Option Head → Option ℕ
end_at p (Some h) = some (p + h.own)
end_at p None = none

abbrev pub below_in : code.Option Head → ℕ → ℕ
below_in (Some h) m = h.below
below_in None m = m

pub record Headed (p : ℕ) (h : code.Option Head) (end : Option ℕ) (n : ℕ) : Type 0 where
  pub end_is : end_at p h ≡ end
  pub below_is : below_in h n ≡ n

-- the tests of a yes/no's fields, and of a case's
unfoldable pub yes_no : Record → Bool
yes_no r = leb r.a 1 && (eqb r.b 0 && (eqb r.c 0 && eqb r.d 0))

unfoldable pub case_head : Record → Bool
case_head r = eqb r.b 0 && eqb r.d 0

-- n records can be counted on from a place of a whole stream
pub record CountsOn (s : List ℕ) (at : Place) (n : ℕ) : Type 0 where
  pub sized : stream_length s ≡ none
  pub index : ℕ
  pub place_is : at ≡ place_of index
  pub near : index + n < 2 ^ 60

-- the n records from a place on lie in the stream
pub record LiesIn (s : List ℕ) (at : Place) (n : ℕ) : Type 0 where
  pub index : ℕ
  pub place_is : at ≡ place_of index
  pub near : index < 2 ^ 50
  pub inside : index + n ≤ record_count s

-- r is the head at a place of a thing that lies in a whole stream by its size n
pub record HeadIn (s : List ℕ) (at : Place) (r : Record) (n : ℕ) : Type 0 where
  pub sized : stream_length s ≡ none
  pub within : LiesIn s at n
  pub size_of : ValueSize r n

-- records up to e lie in a whole stream; p is where the code starts
pub record UpTo (s : List ℕ) (p e : ℕ) : Type 0 where
  pub sized : stream_length s ≡ none
  pub near : p < 2 ^ 50
  pub inside : e ≤ record_count s

-- and the record at p is at this place
pub record Chains (s : List ℕ) (p : ℕ) (at : Place) (e : ℕ) : Type 0 where
  pub place_is : at ≡ place_of p
  pub within : UpTo s p e

-- nothing goes on from q: it is at e or past it, or the thing there has no size
abbrev pub Stopped : List ℕ → ℕ → ℕ → Type 0
Stopped s q e = (ltb q e && ltb 0 (value_size s q)) ≡ false

-- a thing of this size stands at q, before e
pub record SizedBefore (s : List ℕ) (q e size : ℕ) : Type 0 where
  pub size_is : size ≡ value_size s q
  pub before : q < e
  pub some : 1 ≤ size
  pub small : size < 65536
