-- A text across blocks: the records that it lies in, its part in one block and what is left, and a scan of it.
use Prim.Native.Nat.{ℕ, zero, suc, ◌+◌, ◌-◌, ◌*◌, ◌/◌, ◌%◌, min, ◌≤◌, ◌<◌}
use mathlib.Core.Path.{◌≡◌, refl, ap, sym, ◌∙◌}
use mathlib.Core.List.{List, [], ◌∷◌, ◌++◌, append_assoc, append-nil}
use mathlib.Core.Bool.{Bool, true, false}
use native.Mathlib.Omega.{arith}
use native.Mathlib.Nat.{mul-add-mod_self_left, mod-eq_of_lt, le_refl, zero-add, add-zero, suc-add}
use lib.ListN.{length, take, drop, get_or, length-append, length-take, length-drop, drop_of_length-le}
use lib.Dec.{leb, ltb}
use lib.Seq.{take-add, take-nil, drop-drop, drop-cons, take-length, take_all}
use borrow.Author.Tests.{eq-eqb, ne_eqb, leb-true, leb-false, ltb-true, ltb-false}
use Rattle.rules.specs.Records.{base, record_count, records_from, units, text_of}
use Rattle.stream.specs.declared.text.Text.{Text}
use Rattle.stream.specs.Text.{onward, payload_from, text_in, Begins, room, part_of, Rest}

-- the next byte of payload: in the block, and past it
onward_in : (at : ℕ) → 1 < room at → onward at ≡ at + 1
unfolding onward room
onward_in at l = rw (ne_eqb (at % 512) 507 (λ e. omega arith))

onward_out : (at : ℕ) → room at ≡ 1 → onward at ≡ at + 9
unfolding onward room
onward_out at l = rw (eq-eqb (at % 512) 507 (omega arith))

room_some : (at : ℕ) → 0 < room at
unfolding room
room_some at = omega arith

onward_up : (at : ℕ) → at < onward at
onward_up at = go (ltb 1 (room at)) refl
  where
    go : (b : Bool) → ltb 1 (room at) ≡ b → at < onward at
    go true e = rw (onward_in at (ltb-true 1 (room at) e)) (omega arith)
    go false e = let w : room at ≤ 1 = ltb-false 1 (room at) e in rw (onward_out at (omega (arith, room_some at))) (omega arith)

-- room along a block
room_next : (at m : ℕ) → m < room at → room (at + m) ≡ room at - m
unfolding room
room_next at m l = omega arith

drop_past : (s : List ℕ) (at : ℕ) → length s ≤ at → drop at s ≡ []
drop_past s at l = drop_of_length-le s {i = at} l

take_past : (s : List ℕ) (n at : ℕ) → length s ≤ at → take n (drop at s) ≡ []
take_past s n at l = rw (drop_past s at l) (take-nil n)

pub payload_past : (s : List ℕ) (n at : ℕ) → length s ≤ at → payload_from s n at ≡ []
unfolding payload_from
payload_past s zero at l = refl
payload_past s (suc n) at l = rw (take_past s 1 at l) (payload_past s n (onward at) (omega (arith, onward_up at)))

-- payload that begins in one block: as much as is before the block's last byte, or all of it
payload_in : (s : List ℕ) (m n at : ℕ) → m < room at → payload_from s (m + n) at ≡ take m (drop at s) ++ payload_from s n (at + m)
unfolding payload_from
payload_in s zero n at l = rw (zero-add, add-zero)
payload_in s (suc m) n at l =
    let e : at + 1 + m ≡ at + suc m = omega arith in
    let w : room (at + 1) ≡ room at - 1 = room_next at 1 (omega arith) in
    rw (suc-add, payload_from, onward_in at (omega arith), payload_in s m n (at + 1) (omega arith), e, ← append_assoc)
    (ap (λ (x : List ℕ). x ++ payload_from s n (at + suc m)) (sym (take-one-more s m at)))
  where
    take-one-more : (s : List ℕ) (m at : ℕ) → take (suc m) (drop at s) ≡ take 1 (drop at s) ++ take m (drop (at + 1) s)
    take-one-more s m at = let e : suc m ≡ 1 + m = omega arith in rw e (take-add 1 m (drop at s) ∙ rw drop-drop)

payload_out : (s : List ℕ) (m n at : ℕ) → suc m ≡ room at → payload_from s (suc m + n) at ≡ take (suc m) (drop at s) ++ payload_from s n (at + suc m + 8)
unfolding payload_from
payload_out s m n at l =
    let e : suc m + n ≡ m + suc n = omega arith in
    let w : room (at + m) ≡ room at - m = room_next at m (omega arith) in
    let f : at + m + 9 ≡ at + suc m + 8 = omega arith in
    let g : suc m ≡ m + 1 = omega arith in
    rw (e, payload_in s m (suc n) at (omega arith), payload_from, onward_out (at + m) (omega arith), f, g, take-add m 1 (drop at s), drop-drop, append_assoc)

-- the same for any number up to the room
payload_over : (s : List ℕ) (m n at : ℕ) → m ≡ room at → payload_from s (m + n) at ≡ take m (drop at s) ++ payload_from s n (at + m + 8)
payload_over s zero n at e = absurd (omega (arith, room_some at))
payload_over s (suc m) n at e = payload_out s m n at e

payload_none : (s x : List ℕ) (at : ℕ) → x ++ payload_from s 0 at ≡ x
unfolding payload_from
payload_none s x at = append-nil x

payload_run : (s : List ℕ) (n at : ℕ) → n ≤ room at → payload_from s n at ≡ take n (drop at s)
payload_run s n at l = ap (λ (m : ℕ). payload_from s m at) (sym (add-zero n)) ∙ go (ltb n (room at)) refl
  where
    go : (b : Bool) → ltb n (room at) ≡ b → payload_from s (n + 0) at ≡ take n (drop at s)
    go true e = payload_in s n 0 at (ltb-true n (room at) e) ∙ payload_none s _ _
    go false e = let w : room at ≤ n = ltb-false n (room at) e in payload_over s n 0 at (omega arith) ∙ payload_none s _ _

payload_length_lem : (s : List ℕ) (n at : ℕ) → length (payload_from s n at) ≤ n
unfolding payload_from
payload_length_lem s zero at = omega arith
payload_length_lem s (suc n) at =
    let w : length (payload_from s n (onward at)) ≤ n = payload_length_lem s n (onward at) in
    simp (length-append, length-take) (omega arith)

-- the first bytes of a longer payload
payload_take : (s : List ℕ) (n m at : ℕ) → take n (payload_from s (n + m) at) ≡ payload_from s n at
unfolding payload_from
payload_take s zero m at = refl
payload_take s (suc n) m at = go (ltb at (length s)) refl (payload_take s n m (onward at))
  where
    go : (b : Bool) → ltb at (length s) ≡ b → take n (payload_from s (n + m) (onward at)) ≡ payload_from s n (onward at)
        → take (suc n) (payload_from s (suc n + m) at) ≡ payload_from s (suc n) at
    go true e h = rw (suc-add, payload_from, drop-cons s at 0 (ltb-true at (length s) e)) (ap (λ (x : List ℕ). get_or s at 0 ∷ x) h)
    go false e h =
        let w : length s ≤ at = ltb-false at (length s) e in
        rw (payload_past s (suc n + m) at w, payload_past s (suc n) at w)

-- from a record's address to the next one's
base_in : (p : ℕ) → p % 63 < 62 → base (suc p) ≡ base p + 8
unfolding base
base_in p l = omega arith

base_out : (p : ℕ) → 62 ≤ p % 63 → base (suc p) ≡ base p + 8 + 8
unfolding base
base_out p l = omega arith

room_of : (block slot : ℕ) → slot < 63 → 512 - (512 * block + 4 + 8 * slot + 4) % 512 ≡ 8 * (63 - slot)
room_of block slot l =
    let e : 512 * block + 4 + 8 * slot + 4 ≡ 512 * block + (8 + 8 * slot) = omega arith in
    let m : (512 * block + (8 + 8 * slot)) % 512 ≡ 8 + 8 * slot = mul-add-mod_self_left 512 block (8 + 8 * slot) ∙ mod-eq_of_lt (omega arith) in
    rw (e, m) (omega arith)

room_base : (p : ℕ) → room (base p) ≡ 8 * (63 - p % 63)
unfolding base room
room_base p = room_of (p / 63) (p % 63) (omega arith)

-- records in a row are the payload from the first one's address on
payload_record : (s : List ℕ) (n p : ℕ) → payload_from s (8 + n) (base p) ≡ take 8 (drop (base p) s) ++ payload_from s n (base (suc p))
payload_record s n p = go (ltb (p % 63) 62) refl
  where
    go : (b : Bool) → ltb (p % 63) 62 ≡ b → payload_from s (8 + n) (base p) ≡ take 8 (drop (base p) s) ++ payload_from s n (base (suc p))
    go true e = let w : p % 63 < 62 = ltb-true (p % 63) 62 e in rw (base_in p w) (payload_in s 8 n (base p) (omega (arith, room_base p)))
    go false e = let w : 62 ≤ p % 63 = ltb-false (p % 63) 62 e in rw (base_out p w) (payload_over s 8 n (base p) (omega (arith, room_base p)))

pub records_payload : (s : List ℕ) (k p : ℕ) → records_from s k p ≡ payload_from s (8 * k) (base p)
unfolding records_from payload_from
records_payload s zero p = refl
records_payload s (suc k) p =
    let e : 8 * suc k ≡ 8 + 8 * k = omega arith in
    rw (e, payload_record s (8 * k) p, records_payload s k (suc p))

-- n bytes of text from record p on
pub text_payload : (s : List ℕ) (n p : ℕ) → take n (records_from s (units n) p) ≡ payload_from s n (base p)
unfolding units
text_payload s n p =
    let e : 8 * ((n + 7) / 8) ≡ n + (8 * ((n + 7) / 8) - n) = omega arith in
    rw (records_payload s ((n + 7) / 8) p, e) (payload_take s n (8 * ((n + 7) / 8) - n) (base p))

-- Where a text begins: after the head at i, so at the record behind it; a head past the end has none
begins : (s : List ℕ) (i n at : ℕ) → at ≡ base (i + 1) → text_in s (record { at = at; left = n }) ≡ text_of s n i
unfolding text_in text_of
begins s i n at e = rw e (sym (text_payload s n (i + 1)))

pub begins_after : (s : List ℕ) (i n at : ℕ) → at ≡ base (i + 1) → Begins s (text_of s n i) n (record { at = at; left = n })
begins_after s i n at e = record { text = begins s i n at e; most = le_refl n }

nothing : (s : List ℕ) (i n : ℕ) → length s / 8 ≤ i → text_in s (record { at = 0; left = 0 }) ≡ text_of s n i
unfolding text_in text_of payload_from base
nothing s i n l = sym (text_payload s n (i + 1) ∙ payload_past s n (base (i + 1)) (omega arith))

pub begins_past : (s : List ℕ) (i n : ℕ) → length s / 8 ≤ i → Begins s (text_of s n i) n (record { at = 0; left = 0 })
begins_past s i n l = record { text = nothing s i n l; most = omega arith }

-- The part of a text in one block, as the code takes it
pub part_past : (s : List ℕ) (t : Text) → length s ≤ t.at → [] ≡ part_of s t
unfolding part_of
part_past s t l = sym (take_past s (min t.left (room t.at)) t.at l)

take_cap : (j : ℕ) (xs : List ℕ) → take (min j (length xs)) xs ≡ take j xs
take_cap j xs = go (leb j (length xs)) refl
  where
    go : (b : Bool) → leb j (length xs) ≡ b → take (min j (length xs)) xs ≡ take j xs
    go true b = let w : j ≤ length xs = leb-true j (length xs) b in let e : min j (length xs) ≡ j = omega arith in rw e
    go false b =
        let w : length xs < j = leb-false j (length xs) b in
        let e : min j (length xs) ≡ length xs = omega arith in
        rw (e, take-length) (sym (take_all j xs (omega arith)))

pub part_here : (s : List ℕ) (t : Text) (here end : ℕ) → here ≡ min t.left (room t.at) → end ≡ min (t.at + here) (length s)
    → take (end - t.at) (drop t.at s) ≡ part_of s t
unfolding part_of
part_here s t here end e f =
    let g : end - t.at ≡ min here (length s - t.at) = omega arith in
    rw (g, ← length-drop t.at s, take_cap here (drop t.at s), e)

-- What is left after it
pub part_most : (s : List ℕ) (t : Text) → length (part_of s t) ≤ min t.left (room t.at)
unfolding part_of
part_most s t = rw length-take (omega arith)

pub rest_past : (s : List ℕ) (t : Text) → length s ≤ t.at → Rest s t (record { at = t.at; left = 0 })
unfolding part_of text_in payload_from
rest_past s t l = record {
  text = rw (payload_past s t.left t.at l, take_past s (min t.left (room t.at)) t.at l);
  falls = λ m. m;
  spent = omega (arith, part_most s t);
}

pub rest_last : (s : List ℕ) (t : Text) → t.left ≤ room t.at → Rest s t (record { at = t.at; left = 0 })
unfolding part_of text_in payload_from
rest_last s t l =
    let e : min t.left (room t.at) ≡ t.left = omega arith in
    record { text = rw (e, append-nil) (payload_run s t.left t.at l); falls = λ m. m; spent = omega (arith, part_most s t) }

pub rest_next : (s : List ℕ) (t : Text) (here : ℕ) → here ≡ room t.at → here < t.left → Rest s t (record { at = t.at + here + 8; left = t.left - here })
unfolding part_of text_in
rest_next s t here e l =
    let f : min t.left (room t.at) ≡ here = omega arith in
    let g : t.left ≡ here + (t.left - here) = omega arith in
    record {
      text = rw f (ap (λ (n : ℕ). payload_from s n t.at) g ∙ payload_over s here (t.left - here) t.at e);
      falls = λ m. omega (arith, room_some t.at);
      spent = omega (arith, part_most s t);
    }

pub text_end_lem : (s : List ℕ) (t : Text) → t.left ≤ 0 → text_in s t ≡ []
unfolding text_in payload_from
text_end_lem s t l = let e : t.left ≡ 0 = omega arith in rw e

pub part_length : (s : List ℕ) (t : Text) → length (part_of s t) ≤ length (text_in s t)
unfolding part_of text_in
part_length s t =
    let m : ℕ = min t.left (room t.at) in
    let e : t.left ≡ m + (t.left - m) = omega arith in
    let f : take m (drop t.at s) ≡ take m (payload_from s t.left t.at) =
    sym (payload_run s m t.at (omega arith)) ∙ sym (payload_take s m (t.left - m) t.at) ∙ ap (λ (n : ℕ). take m (payload_from s n t.at)) (sym e) in
    rw (f, length-take) (omega arith)

-- A scan with a state. What a loop over the parts of a text keeps: f of the state and of what is left is f of the start and of the whole.
-- `g` is what one part does to the state. `scan_next` is a turn of the loop, `scan_end` its end; it starts with `Begins.text`.
-- With `++` for f and g the state is what has been handed so far.
module _ {A B : Type 0} (f : A → List ℕ → B) (g : A → List ℕ → A) (one_by_one : (h : A) (x y : List ℕ) → f (g h x) y ≡ f h (x ++ y)) where
  pub scan_next : (s : List ℕ) (t r : Text) (h : A) (whole : B) → Rest s t r → f h (text_in s t) ≡ whole → f (g h (part_of s t)) (text_in s r) ≡ whole
  scan_next s t r h whole n e = one_by_one h (part_of s t) (text_in s r) ∙ ap (f h) (sym n.text) ∙ e

  pub scan_end : (s : List ℕ) (t : Text) (h : A) (whole : B) → t.left ≤ 0 → f h (text_in s t) ≡ whole → f h [] ≡ whole
  scan_end s t h whole l e = ap (f h) (sym (text_end_lem s t l)) ∙ e

-- A text has at most the bytes that it says, and all of them where its units lie inside the stream
pub text_length_lem : (s : List ℕ) (t : Text) → length (text_in s t) ≤ t.left
unfolding text_in
text_length_lem s t = payload_length_lem s t.left t.at

unit_length : (s : List ℕ) (p : ℕ) → p < length s / 512 * 63 → length (take 8 (drop (base p) s)) ≡ 8
unfolding base
unit_length s p l = simp (length-take, length-drop) (omega arith)

units_length : (s : List ℕ) (k p : ℕ) → p + k ≤ length s / 512 * 63 → length (records_from s k p) ≡ 8 * k
unfolding records_from
units_length s zero p l = refl
units_length s (suc k) p l =
    let a : length (take 8 (drop (base p) s)) ≡ 8 = unit_length s p (omega arith) in
    let b : length (records_from s k (suc p)) ≡ 8 * k = units_length s k (suc p) (omega arith) in
    rw (length-append, a, b) (omega arith)

pub text_whole : (s : List ℕ) (i n : ℕ) → i + 1 + units n ≤ record_count s → length (text_of s n i) ≡ n
unfolding text_of units record_count
text_whole s i n l = rw (length-take, units_length s ((n + 7) / 8) (i + 1) l) (omega arith)
