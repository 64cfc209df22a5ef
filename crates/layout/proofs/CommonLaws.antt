-- Zero bytes: of a record that was fetched, of a text's last unit, and of the records after the last thing. And places inside a stream.
use Prim.Native.Nat.{ℕ, zero, suc, ◌+◌, ◌-◌, ◌*◌, ◌/◌, ◌%◌, ◌^◌, ◌≤◌, ◌<◌}
use mathlib.Core.Path.{◌≡◌, refl, ap, sym, ◌∙◌}
use mathlib.Core.List.{List, [], ◌∷◌, ◌++◌, append-nil}
use mathlib.Core.Bool.{Bool, true, false, ◌&&◌}
use native.Mathlib.Omega.{arith}
use native.Mathlib.Nat.{add-zero, add-mul-div_left, div-eq_of_lt, div-one, zero-div, zero-add}
use native.Mathlib.Numerals.{add-one}
use lib.ListN.{length, get_or, take, drop, length-take, length-drop, length-append, drop_of_length-le, get_or-eq_default}
use lib.Seq.{get_or-take, get_or-drop, drop-append-add, drop-nil}
use lib.Pow.{shr-shr}
use lib.Dec.{eqb, ltb}
use borrow.Author.Tests.{eq-eqb, ne_eqb, eqb-true, eqb-false, ltb-true, ltb-false, le-leb, lt-leb}
use Rattle.rules.specs.Records.{base, byte_of, record_count, records_from, units, padding_of, zeros}
use Rattle.rules.specs.Layout.{tail_right}
use Rattle.stream.specs.declared.record.Record.{Record}
use Rattle.stream.specs.declared.record.Place.{Place}
use Rattle.stream.specs.Record.{bytes_of, Fetched, place_of, Reach}
use Rattle.laws.specs.Rows.{one_less}
use Rattle.stream.proofs.RecordLaws.{eight_bytes}
use Rattle.layout.specs.Common.{number_of}

-- Bytes as a number

number_zero : (x n : ℕ) → eqb (x + 256 * n) 0 ≡ eqb x 0 && eqb n 0
number_zero x n = go (eqb x 0) refl (eqb n 0) refl
  where
    go : (c : Bool) → eqb x 0 ≡ c → (d : Bool) → eqb n 0 ≡ d → eqb (x + 256 * n) 0 ≡ c && d
    go true c true d = eq-eqb (x + 256 * n) 0 (omega (arith, eqb-true x 0 c, eqb-true n 0 d))
    go true c false d = ne_eqb (x + 256 * n) 0 (λ (z : x + 256 * n ≡ 0). eqb-false n 0 d (omega arith))
    go false c d e = ne_eqb (x + 256 * n) 0 (λ (z : x + 256 * n ≡ 0). eqb-false x 0 c (omega arith))

zeros_number : (xs : List ℕ) → eqb (number_of xs) 0 ≡ zeros xs
unfolding number_of zeros
zeros_number [] = refl
zeros_number (x ∷ xs) = number_zero x (number_of xs) ∙ ap (λ (b : Bool). eqb x 0 && b) (zeros_number xs)

-- the bytes from byte j on are the number without its lower j bytes
pub number_from : (xs : List ℕ) → ((k : ℕ) → get_or xs k 0 < 256) → (j : ℕ) → number_of xs / 2 ^ (8 * j) ≡ number_of (drop j xs)
unfolding number_of
number_from xs l zero = div-one (number_of xs)
number_from [] l (suc j) = zero-div (2 ^ (8 * suc j))
number_from (x ∷ xs) l (suc j) =
    let s : 8 * suc j ≡ 8 + 8 * j = omega arith in
    rw (s, ← shr-shr (x + 256 * number_of xs) 8 (8 * j), add-mul-div_left x (number_of xs) {y = 256} (omega arith), div-eq_of_lt {n = x} {m = 256} (l 0), zero-add)
    (number_from xs (λ k. l (suc k)) j)

pub zero_number : (xs : List ℕ) → ((k : ℕ) → get_or xs k 0 < 256) → (j : ℕ) → eqb (number_of xs / 2 ^ (8 * j)) 0 ≡ zeros (drop j xs)
zero_number xs l j = rw (number_from xs l j) (zeros_number (drop j xs))

-- of a record's bytes
pub bytes_small : (r : Record) → r.kind < 256 → r.a < 256 → r.b < 65536 → r.c < 65536 → r.d < 65536 → (k : ℕ) → get_or (bytes_of r) k 0 < 256
unfolding bytes_of
bytes_small r kind a b c d zero = kind
bytes_small r kind a b c d (suc zero) = a
bytes_small r kind a b c d (suc (suc zero)) = omega arith
bytes_small r kind a b c d (suc (suc (suc zero))) = omega arith
bytes_small r kind a b c d (suc (suc (suc (suc zero)))) = omega arith
bytes_small r kind a b c d (suc (suc (suc (suc (suc zero))))) = omega arith
bytes_small r kind a b c d (suc (suc (suc (suc (suc (suc zero)))))) = omega arith
bytes_small r kind a b c d (suc (suc (suc (suc (suc (suc (suc zero))))))) = omega arith
bytes_small r kind a b c d (suc (suc (suc (suc (suc (suc (suc (suc k)))))))) = omega arith

pub zeros_past : (r : Record) (j : ℕ) → 7 < j → true ≡ zeros (drop j (bytes_of r))
unfolding bytes_of zeros
zeros_past r j l = rw (drop_of_length-le (bytes_of r) {i = j} (omega arith))

-- Lists that agree at every index, with 0 past their ends, are zero alike
zeros_tail : (x : ℕ) (xs : List ℕ) → x ≡ 0 → zeros (x ∷ xs) ≡ zeros xs
unfolding zeros
zeros_tail x xs e = rw (eq-eqb x 0 e)

pub zeros_all : (xs : List ℕ) → ((k : ℕ) → get_or xs k 0 ≡ 0) → zeros xs ≡ true
unfolding zeros
zeros_all [] h = refl
zeros_all (x ∷ xs) h = zeros_tail x xs (h 0) ∙ zeros_all xs (λ k. h (suc k))

pub zeros_same : (xs ys : List ℕ) → ((k : ℕ) → get_or xs k 0 ≡ get_or ys k 0) → zeros xs ≡ zeros ys
unfolding zeros
zeros_same [] ys h = sym (zeros_all ys (λ k. sym (h k)))
zeros_same (x ∷ xs) [] h = zeros_all (x ∷ xs) h
zeros_same (x ∷ xs) (y ∷ ys) h = rw (h 0, zeros_same xs ys (λ k. h (suc k)))

pub zeros_drop : (xs ys : List ℕ) → ((k : ℕ) → get_or xs k 0 ≡ get_or ys k 0) → (j : ℕ) → zeros (drop j xs) ≡ zeros (drop j ys)
zeros_drop xs ys h j = zeros_same (drop j xs) (drop j ys) (λ k. get_or-drop j xs k 0 ∙ h (j + k) ∙ sym (get_or-drop j ys k 0))

-- A record that was fetched has the record's bytes

unfoldable pub record_bytes : List ℕ → ℕ → List ℕ
record_bytes s i = take 8 (drop (base i) s)

record_byte : (s : List ℕ) (i j : ℕ) → j < 8 → get_or (record_bytes s i) j 0 ≡ byte_of s i j
unfolding byte_of record_bytes
record_byte s i j l = get_or-take 8 (drop (base i) s) j 0 l ∙ get_or-drop (base i) s j 0

record_past : (s : List ℕ) (i j : ℕ) → 8 ≤ j → get_or (record_bytes s i) j 0 ≡ 0
unfolding record_bytes
record_past s i j l = get_or-eq_default (take 8 (drop (base i) s)) 0 (simp length-take (omega arith))

module _ (s : List ℕ) (i : ℕ) (r : Record) (f : Fetched s i r) where
  from_byte : (k x : ℕ) → k < 8 → byte_of s i k ≡ x → x ≡ get_or (record_bytes s i) k 0
  from_byte k x l e = sym (record_byte s i k l ∙ e)

  fetched_byte : (k : ℕ) → get_or (bytes_of r) k 0 ≡ get_or (record_bytes s i) k 0
  unfolding bytes_of
  fetched_byte zero = from_byte 0 _ (omega arith) (eight_bytes s i r f).byte0
  fetched_byte (suc zero) = from_byte 1 _ (omega arith) (eight_bytes s i r f).byte1
  fetched_byte (suc (suc zero)) = from_byte 2 _ (omega arith) (eight_bytes s i r f).byte2
  fetched_byte (suc (suc (suc zero))) = from_byte 3 _ (omega arith) (eight_bytes s i r f).byte3
  fetched_byte (suc (suc (suc (suc zero)))) = from_byte 4 _ (omega arith) (eight_bytes s i r f).byte4
  fetched_byte (suc (suc (suc (suc (suc zero))))) = from_byte 5 _ (omega arith) (eight_bytes s i r f).byte5
  fetched_byte (suc (suc (suc (suc (suc (suc zero)))))) = from_byte 6 _ (omega arith) (eight_bytes s i r f).byte6
  fetched_byte (suc (suc (suc (suc (suc (suc (suc zero))))))) = from_byte 7 _ (omega arith) (eight_bytes s i r f).byte7
  fetched_byte (suc (suc (suc (suc (suc (suc (suc (suc k)))))))) = sym (record_past s i (suc (suc (suc (suc (suc (suc (suc (suc k)))))))) (omega arith))

  pub fetched_zeros : (j : ℕ) → zeros (drop j (bytes_of r)) ≡ zeros (drop j (record_bytes s i))
  fetched_zeros j = zeros_drop (bytes_of r) (record_bytes s i) fetched_byte j

-- The records from p on: the first n - k of n are gone over
zeros_append : (xs ys : List ℕ) → zeros (xs ++ ys) ≡ zeros xs && zeros ys
unfolding zeros
zeros_append [] ys = refl
zeros_append (x ∷ xs) ys = rw (zeros_append xs ys) (and_assoc (eqb x 0) (zeros xs) (zeros ys))
  where
    and_assoc : (a b c : Bool) → a && (b && c) ≡ a && b && c
    and_assoc true b c = refl
    and_assoc false b c = refl

module _ (s : List ℕ) (p n : ℕ) (r : Record) (f : Fetched s p r) (l : p < n) where
  split_first : zeros (records_from s (n - p) p) ≡ zeros (record_bytes s p) && zeros (records_from s (n - (p + 1)) (p + 1))
  unfolding records_from record_bytes
  split_first = rw (one_less n p l, records_from, zeros_append, add-one p)

  pub tail_go : true ≡ zeros (drop 0 (bytes_of r)) → zeros (records_from s (n - p) p) ≡ zeros (records_from s (n - (p + 1)) (p + 1))
  tail_go z = split_first ∙ ap (λ (b : Bool). b && zeros (records_from s (n - (p + 1)) (p + 1))) (sym (z ∙ fetched_zeros s p r f 0))

  pub tail_stop : false ≡ zeros (drop 0 (bytes_of r)) → zeros (records_from s (n - p) p) ≡ false
  tail_stop z = split_first ∙ ap (λ (b : Bool). b && zeros (records_from s (n - (p + 1)) (p + 1))) (sym (z ∙ fetched_zeros s p r f 0))

pub tail_done : (s : List ℕ) (p n : ℕ) → n ≤ p → zeros (records_from s (n - p) p) ≡ true
unfolding records_from zeros
tail_done s p n l = let z : n - p ≡ 0 = omega arith in rw z

-- The padding of a text

-- a record that the end of the stream cuts has none after it
past_bytes : (s : List ℕ) (q : ℕ) → length s ≤ base q → record_bytes s q ≡ []
unfolding record_bytes
past_bytes s q l = rw (drop_of_length-le s l)

past_records : (s : List ℕ) (n q : ℕ) → length s ≤ base q → records_from s n q ≡ []
unfolding records_from record_bytes base
past_records s zero q l = refl
past_records s (suc n) q l = rw (drop_of_length-le s l) (past_records s n (suc q) (omega arith))

cut_after : (s : List ℕ) (p q : ℕ) → length (record_bytes s p) < 8 → p < q → length s ≤ base q
unfolding record_bytes base
cut_after s p q l g = omega (arith, simp (length-take, length-drop) at l)

at_most_eight : (s : List ℕ) (p : ℕ) → length (record_bytes s p) ≤ 8
unfolding record_bytes
at_most_eight s p = simp length-take (omega arith)

-- the last of n + 1 records
last_record : (s : List ℕ) (n o p : ℕ) → zeros (drop (8 * n + o) (records_from s (suc n) p)) ≡ zeros (drop o (record_bytes s (p + n)))
unfolding records_from record_bytes
last_record s zero o p = let z : 8 * 0 + o ≡ o = omega arith in rw (z, add-zero, append-nil)
last_record s (suc n) o p = go (ltb (length (record_bytes s p)) 8) refl (last_record s n o (suc p))
  where
    go : (b : Bool) → ltb (length (record_bytes s p)) 8 ≡ b
        → zeros (drop (8 * n + o) (records_from s (suc n) (suc p))) ≡ zeros (drop o (record_bytes s (suc p + n)))
        → zeros (drop (8 * suc n + o) (record_bytes s p ++ records_from s (suc n) (suc p))) ≡ zeros (drop o (record_bytes s (p + suc n)))
    go true b ih =
        let l : length (record_bytes s p) < 8 = ltb-true _ 8 b in
        rw (
          past_records s (suc n) (suc p) (cut_after s p (suc p) l (omega arith)),
          past_bytes s (p + suc n) (cut_after s p (p + suc n) l (omega arith)),
          append-nil,
          drop_of_length-le (record_bytes s p) {i = 8 * suc n + o} (omega arith),
          drop-nil o,
        )
    go false b ih =
        let l : length (record_bytes s p) ≡ 8 = omega (arith, ltb-false (length (record_bytes s p)) 8 b, at_most_eight s p) in
        let z : 8 * suc n + o ≡ length (record_bytes s p) + (8 * n + o) = omega arith in
        let y : p + suc n ≡ suc p + n = omega arith in
        rw (z, drop-append-add (record_bytes s p) (records_from s (suc n) (suc p)) (8 * n + o), y) ih

records_length : (s : List ℕ) (n p : ℕ) → length (records_from s n p) ≤ 8 * n
unfolding records_from record_bytes
records_length s zero p = omega arith
records_length s (suc n) p = simp length-append (omega (arith, at_most_eight s p, records_length s n (suc p)))

module _ (s : List ℕ) (p b : ℕ) where
  pub padding_none : b % 8 ≡ 0 → true ≡ zeros (padding_of s b p)
  unfolding padding_of units zeros
  padding_none z = rw (drop_of_length-le (records_from s ((b + 7) / 8) (p + 1)) {i = b} (omega (arith, records_length s ((b + 7) / 8) (p + 1))))

  pub padding_is : (n : ℕ) → n ≡ units b → (u : Record) → Fetched s (p + n) u → (b % 8 ≡ 0 → ⊥) → zeros (drop (b % 8) (bytes_of u)) ≡ zeros (padding_of s b p)
  unfolding padding_of units
  padding_is n is u f z =
      let m : ℕ = n - 1 in
      let x : n ≡ suc m = omega arith in
      let y : b ≡ 8 * m + b % 8 = omega arith in
      let w : p + n ≡ p + 1 + m = omega arith in
      fetched_zeros s (p + n) u f (b % 8)
      ∙ ap (λ (i : ℕ). zeros (drop (b % 8) (record_bytes s i))) w
      ∙ sym (last_record s m (b % 8) (p + 1))
      ∙ ap (λ (k : ℕ). zeros (drop k (records_from s (suc m) (p + 1)))) (sym y)
      ∙ ap (λ (m : ℕ). zeros (drop b (records_from s m (p + 1)))) (sym x ∙ is)

-- Past the end of the stream is no right tail

pub tail_past : (s : List ℕ) (p : ℕ) → 1 ≤ p → (n : ℕ) → n ≡ record_count s → n < p → false ≡ tail_right s p
unfolding tail_right
tail_past s p a n c l = rw (le-leb 1 p a, ← c, lt-leb p n l)

-- Places

-- n records on from a place near the beginning
pub reach : {p : ℕ} {at : Place} (n : ℕ) → at ≡ place_of p → p < 2 ^ 60 → n < 2 ^ 32 → Reach at n
unfolding place_of base
reach {p} n e l m = record { reach = rw e (omega arith) }

-- a record of the stream lies in it
pub in_stream : (s : List ℕ) {p : ℕ} {at : Place} → at ≡ place_of p → p < record_count s → at.at + 8 ≤ length s
unfolding place_of base record_count
in_stream s e l = rw e (omega arith)
