-- Templates: rows of records of one kind, the types, and the templates after them.
use Rattle.std.specs.Prelude.{ℕ, ◌≡◌, ◌+◌, ◌%◌, List, Bool, false, ◌&&◌, drop, eqb, leb}
use Rattle.std.proofs.Math.Option.{Option}
use Rattle.rules.specs.Faults.{on_found, only_if}
use Rattle.rules.specs.Records.{record_count, zeros, of_kind}
use Rattle.rules.specs.Layout.{while_is, type_end, template_end, tail_right}
use Rattle.stream.specs.declared.record.Record.{Record}
use Rattle.stream.specs.Record.{bytes_of, Fetched}

-- the tests of a record that was fetched: it names a type and nothing else; it is a path of at most 5 steps, with no field numbers past them
unfoldable pub naming : Record → ℕ → Bool
naming r kind = eqb r.kind kind && (eqb r.a 0 && (eqb r.c 0 && eqb r.d 0))

unfoldable pub path_record : Record → Bool
path_record r = eqb r.kind 6 && (leb (r.b % 256) 5 && zeros (drop (3 + r.b % 256) (bytes_of r)))

-- a test tells of each record whether one thing of a row stands there
abbrev pub TellsOne : List ℕ → (ℕ → Option ℕ) → (Record → Bool → Type 0) → Type 0
TellsOne t one test = (p : ℕ) (r : Record) (b : Bool) → Fetched t p r → test r b → only_if b (p + 1) ≡ one p

-- where the types end
unfoldable pub types_end : List ℕ → Option ℕ
types_end t = while_is (of_kind t 1) (λ n. type_end t) (record_count t) 0 0

-- the templates from p on, and the zero records after them
unfoldable pub rest_right : List ℕ → ℕ → Bool
rest_right t p = on_found (while_is (of_kind t 3) (λ n. template_end t) (record_count t) 0 p) false (tail_right t)

-- a thing ends within the stream
unfoldable pub within : List ℕ → Option ℕ → Bool
within t o = on_found o false (λ e. leb e (record_count t))
