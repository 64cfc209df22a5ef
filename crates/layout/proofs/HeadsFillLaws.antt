-- Going over a row of things and putting their heads into a table.
use Prim.Native.Nat.{ℕ, zero, suc, ◌+◌, ◌-◌, ◌<◌, ◌≤◌}
use mathlib.Core.Path.{◌≡◌, refl, sym, ◌∙◌, ap, subst}
use mathlib.Core.List.{List, [], ◌∷◌, ◌++◌}
use mathlib.Core.Bool.{Bool, true, false, false≢true}
use mathlib.Core.Option.{none}
use native.Mathlib.Omega.{arith}
use native.Mathlib.Numerals.{add-one}
use native.Mathlib.Nat.{sub-zero}
use lib.ListN.{length, take, drop, set, length-set}
use lib.Seq.{take-suc-set, drop-set-lt, drop-drop}
use Rattle.rules.specs.Blocks.{stream_length}
use Rattle.rules.specs.Records.{field_d, heads, after}
use Rattle.rules.specs.Grammar.{element_size, production_size}
use Rattle.stream.specs.Record.{Fetched}
use Rattle.stream.specs.declared.record.Record.{Record}
use Rattle.theorems.specs.LaidOut.{InRow, no_thing, one_thing}
use Rattle.theorems.specs.Heads.{Spans}
use Rattle.theorems.specs.Sizes.{row_grows}
use Rattle.laws.specs.Rows.{one_less}
use Rattle.layout.specs.Common.{most_records}
use Rattle.layout.specs.Heads.{RowAhead, RowFilled}

module _ {is : ℕ → Bool} {size : ℕ → ℕ} where
  -- a row is one thing longer by the thing after it
  more_things : {n p q r : ℕ} → InRow (Spans is size) n p q → Spans is size q r → InRow (Spans is size) (suc n) p r
  more_things (no_thing p) x = one_thing 0 p _ _ x (no_thing _)
  more_things (one_thing n p q r y ys) x = one_thing (suc n) p q _ y (more_things ys x)

  more_heads : {n p q : ℕ} → InRow (Spans is size) n p q → heads size (suc n) p ≡ heads size n p ++ (q ∷ [])
  unfolding heads
  more_heads (no_thing p) = refl
  more_heads (one_thing n p q r y ys) = rw (← y.end) (ap (λ xs. p ∷ xs) (more_heads ys))

-- a thing of the sort stands at p: it is the next of the row
pub record Next (s : List ℕ) (is : ℕ → Bool) (size : ℕ → ℕ) (p room : ℕ) : Type 0 where
  pub here : Spans is size p (p + size p)
  pub left : 0 < room
  pub ahead : RowAhead s is size (p + size p) (room - 1)
  pub inside : p + size p ≤ most_records

module _ {s : List ℕ} {is : ℕ → Bool} {size : ℕ → ℕ} where
  next_of : {p room n q : ℕ} → stream_length s ≡ none → is p ≡ true → InRow (Spans is size) n p q → is q ≡ false → n ≤ room → q ≤ most_records → Next s is size p room
  next_of w e (no_thing p) st l i = absurd (false≢true (sym st ∙ e))
  next_of {room = room} w e (one_thing n p q r x xs) st l i =
      let y : Spans is size p (p + size p) = subst (λ z. Spans is size p z) x.end x in
      let ys : InRow (Spans is size) n (p + size p) r = subst (λ z. InRow (Spans is size) n z r) x.end xs in
      record {
        here = y;
        left = omega arith;
        ahead = record { sized = w; count = n; end = r; row = record { things = ys; stops = st }; fits = omega arith; inside = i };
        inside = let z = row_grows (λ p q h. h.grows) ys in omega arith;
      }

  pub next : {p room : ℕ} → is p ≡ true → RowAhead s is size p room → Next s is size p room
  next e a = next_of a.sized e a.row.things a.row.stops a.fits a.inside

-- n heads of the row are in the table, and the next thing begins at p
pub record FillingRow (s : List ℕ) (is : ℕ → Bool) (size : ℕ → ℕ) (start : ℕ) (before table : List ℕ) (n p : ℕ) : Type 0 where
  pub done : InRow (Spans is size) n start p
  pub begins : take n table ≡ heads size n start
  pub rest : drop n table ≡ drop n before
  pub same : length table ≡ length before
  pub ahead : RowAhead s is size p (length before - n)

module _ {s : List ℕ} {is : ℕ → Bool} {size : ℕ → ℕ} {start : ℕ} {before : List ℕ} where
  pub fill_start : RowAhead s is size start (length before) → FillingRow s is size start before before 0 start
  unfolding heads
  fill_start a = record { done = no_thing start; begins = refl; rest = refl; same = refl; ahead = rw sub-zero a }

  pub fill_room : {table : List ℕ} {n p : ℕ} → is p ≡ true → FillingRow s is size start before table n p → n < length table
  fill_room {table} e f = let h = (next e f.ahead).left in let z = f.same in omega arith

  pub fill_near : {table : List ℕ} {n p : ℕ} → is p ≡ true → FillingRow s is size start before table n p → (p < most_records) × (p + size p ≤ most_records)
  fill_near e f = let h = next e f.ahead in let a = h.inside in let b = h.here.grows in (omega arith, a)

  -- a turn
  module _ {table : List ℕ} {n p q : ℕ} (e : is p ≡ true) (z : q ≡ p + size p) (f : FillingRow s is size start before table n p) where
    fill_begins : take (n + 1) (set table n p) ≡ heads size (n + 1) start
    fill_begins = let l = fill_room e f in rw (add-one n, take-suc-set table n p l, f.begins) (sym (more_heads f.done))

    fill_rest : drop (n + 1) (set table n p) ≡ drop (n + 1) before
    fill_rest = drop-set-lt (n + 1) table n p (omega arith) ∙ sym (drop-drop 1 n table) ∙ ap (λ xs. drop 1 xs) f.rest ∙ drop-drop 1 n before

    pub fill_go : FillingRow s is size start before (set table n p) (n + 1) q
    fill_go =
        let h = next e f.ahead in
        let l : length before - n - 1 ≡ length before - (n + 1) = omega arith in
        record {
          done = rw (z, add-one n) (more_things f.done h.here);
          begins = fill_begins;
          rest = fill_rest;
          same = length-set table n p ∙ f.same;
          ahead = rw z (subst (λ r. RowAhead s is size (p + size p) r) l h.ahead);
        }

  -- the end of the row
  pub fill_stop : {table : List ℕ} {n p : ℕ} → is p ≡ false → FillingRow s is size start before table n p
      → RowFilled is size start before table (record { count = n; next = p })
  fill_stop l f = record { row = record { things = f.done; stops = l }; begins = f.begins; rest = f.rest }

-- where the table is full, the row has ended
none_left : {is : ℕ → Bool} {size : ℕ → ℕ} {n p q : ℕ} → InRow (Spans is size) n p q → n ≤ 0 → is q ≡ false → is p ≡ false
none_left (no_thing p) l e = e
none_left (one_thing n p q r x xs) l e = absurd (omega arith)

module _ {s : List ℕ} {is : ℕ → Bool} {size : ℕ → ℕ} where
  pub fill_full : {start : ℕ} {before table : List ℕ} {n p : ℕ} → length table ≤ n → FillingRow s is size start before table n p → is p ≡ false
  fill_full l f = let z = f.same in let h = f.ahead.fits in none_left f.ahead.row.things (omega arith) f.ahead.row.stops

-- the place after n things, of which k are passed
pub after_grows : (size : ℕ → ℕ) (n p : ℕ) → p ≤ after size n p
unfolding after
after_grows size zero p = omega arith
after_grows size (suc n) p = let h = after_grows size n (p + size p) in omega arith

pub after_go : (size : ℕ → ℕ) (n k q : ℕ) → k < n → after size (n - k) q ≡ after size (n - (k + 1)) (q + size q)
unfolding after
after_go size n k q l = rw (one_less n k l, after)

pub after_done : (size : ℕ → ℕ) (n k q : ℕ) → n ≤ k → after size (n - k) q ≡ q
unfolding after
after_done size n k q l = let z : n - k ≡ 0 = omega arith in rw z

-- the place after one more is no further than the last
pub after_room : (size : ℕ → ℕ) (n k q whole : ℕ) → k < n → after size (n - k) q ≡ whole → q + size q ≤ whole
after_room size n k q whole l e =
    let h = after_grows size (n - (k + 1)) (q + size q) in let z = after_go size n k q l in omega arith

elements_next : (g : List ℕ) (p : ℕ) → after (element_size g) (field_d g p) (p + 1) ≡ p + production_size g p
unfolding production_size
elements_next g p = let h = after_grows (element_size g) (field_d g p) (p + 1) in omega arith

pub elements_from : {g : List ℕ} {p : ℕ} {r : Record} → Fetched g p r → after (element_size g) r.d (p + 1) ≡ p + production_size g p
elements_from {g} {p} f = rw f.d (elements_next g p)
