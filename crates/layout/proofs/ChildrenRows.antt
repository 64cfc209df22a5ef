-- The rows of a value's children while its heads are gone over: one row, and all rows so far.
use Prim.Native.Nat.{ℕ, zero, suc, ◌+◌, ◌-◌, ◌≤◌, ◌<◌, ◌^◌}
use mathlib.Core.Path.{◌≡◌, refl, ap, sym, ◌∙◌, subst}
use mathlib.Core.List.{List, [], ◌∷◌}
use mathlib.Core.Bool.{Bool, true, false, cond, false≢true}
use mathlib.Core.Option.{Option, some, none-ne-some, some-injective}
use native.Mathlib.Omega.{arith}
use native.Mathlib.Nat.{sub-zero}
use borrow.Author.Tests.{eq-eqb, ltb-true, ltb-false, lt-ltb, le-ltb}
use lib.Dec.{eqb, leb, ltb}
use lib.ListN.{length, get_or, set, length-set}
use lib.Seq.{get_or-set_same, get_or-set_other}
use Rattle.rules.specs.Records.{kind_of, field_d, heads, after, nth}
use Rattle.rules.specs.Value.{value_size, children, content, values_below}
use Rattle.laws.specs.Reads.{only_some, few_records}
use Rattle.stream.specs.declared.record.Place.{Place}
use Rattle.stream.specs.Record.{place_of}
use Rattle.records.specs.Children as table
use Rattle.records.specs.Children.{Stands, whole, Children}
use Rattle.layout.specs.Common.{most_records}
use Rattle.layout.specs.Tree.{Value, Chains, Stopped, SizedBefore, chain, kind_head, kind_below, head_end, below, fills}
use Rattle.layout.specs.Children.{PlacesLent, PlacesPut, TableLent, TablePut}
use Rattle.layout.proofs.TreeLaws.{Chain, last, link, chain_few, chain_then, chain_sound}
use Rattle.layout.proofs.TreeThings.{head_grows}
use Rattle.layout.proofs.TreeTurns.{rest, one_end, chain_done, chain_stop, chain_go, chains_on}
use Rattle.layout.proofs.ChildrenLaws.{after_one, Looked, nothing, another, HeadAt, has, ends, below_at_lem, whole_at, looked_keep}

-- One row: k of n children are put down, and the next begins at q

pub record Putting (v : List ℕ) (n p e used : ℕ) (before places : List ℕ) (q : ℕ) (here : Place) (k : ℕ) : Type 0 where
  pub chains : Chains v q here e
  pub apart : p + k ≤ q
  pub same : chain (value_size v) (n - k) q e ≡ chain (value_size v) n p e
  pub after_is : q ≡ after (value_size v) k p
  pub put : (j : ℕ) → j < k → get_or places (used + j) 0 ≡ after (value_size v) j p
  pub kept : (i : ℕ) → i < used → get_or places i 0 ≡ get_or before i 0
  pub long : length places ≡ length before

pub put_start : {v : List ℕ} {n p e used : ℕ} {before : List ℕ} {at : Place} → PlacesLent v p at e used before → Putting v n p e used before before p at 0
unfolding after
put_start a = record {
  chains = a.chains;
  apart = omega arith;
  same = rw sub-zero;
  after_is = refl;
  put = λ j l. absurd (omega arith);
  kept = λ i l. refl;
  long = refl;
}

module _ {v : List ℕ} {n p e used : ℕ} {before places : List ℕ} {q : ℕ} {here : Place} {k : ℕ} (s : Putting v n p e used before places q here k) where
  pub put_end : n ≤ k → k ≤ n → PlacesPut v n p e used before places (eqb q e)
  put_end l m = record { is = sym (chain_done (value_size v) n k q e l) ∙ s.same; put = λ z j i. s.put j (omega arith); kept = s.kept }

  module _ (l : k < n) where
    pub put_stop : Stopped v q e → PlacesPut v n p e used before places false
    put_stop z = record { is = sym (chain_stop (value_size v) n k q e l z) ∙ s.same; put = λ f. absurd (false≢true f); kept = s.kept }

    pub put_go : {m : ℕ} → SizedBefore v q e m → used + k < length places → {next : Place} → next ≡ place_of (q + m)
        → Putting v n p e used before (set places (used + k) q) (q + m) next (k + 1)
    put_go {m} h room is = record {
      chains = chains_on s.chains h is;
      apart = omega (arith, s.apart, h.some);
      same = sym (chain_go (value_size v) n k q e l h.before m h.size_is h.some) ∙ s.same;
      after_is = ap (λ (x : ℕ). q + x) h.size_is ∙ ap (λ (x : ℕ). x + value_size v x) s.after_is ∙ sym (after_one (value_size v) k p);
      put = λ j i. go j i (ltb j k) refl;
      kept = λ j i. get_or-set_other places (used + k) j q 0 (λ x. omega arith) ∙ s.kept j i;
      long = length-set places (used + k) q ∙ s.long;
    }
      where
        go : (j : ℕ) → j < k + 1 → (b : Bool) → ltb j k ≡ b → get_or (set places (used + k) q) (used + j) 0 ≡ after (value_size v) j p
        go j i true b = let x = ltb-true j k b in get_or-set_other places (used + k) (used + j) q 0 (λ y. omega arith) ∙ s.put j x
        go j i false b =
            let x : j ≡ k = omega (arith, ltb-false j k b) in
            rw x (get_or-set_same places (used + k) q 0 room ∙ s.after_is)

  -- there is room for the next
  pub put_room : {at : Place} → PlacesLent v p at e used before → q < e → used + k < length places
  put_room a g = omega (arith, a.room, s.apart, s.long)

-- All rows: the head at w has its row, which ends before `used`

pub record Rowed (v firsts places : List ℕ) (used w : ℕ) : Type 0 where
  pub head : w < length firsts
  pub row : (r j : ℕ) → head_end Value v w ≡ some r → j < below Value v w
      → (get_or firsts w 0 + j < used) × (get_or places (get_or firsts w 0 + j) 0 ≡ after (value_size v) j r)

-- the heads up to q have their rows. By their sizes so many things stand from q to e, the children among them that were put down and not looked at.
pub record Tabling (v : List ℕ) (e : ℕ) (firsts₀ places₀ firsts places : List ℕ) (q used : ℕ) : Type 0 where
  pub looked : Looked (head_end Value v) (value_size v) (below Value v) (Rowed v firsts places used) e q
  pub pending : ℕ
  pub chain : Chain (head_end Value v) (value_size v) (below Value v) pending q e
  pub counted : used + 1 ≤ q + pending
  pub long_firsts : length firsts ≡ length firsts₀
  pub long_places : length places ≡ length places₀

module _ {v : List ℕ} {e : ℕ} {firsts places : List ℕ} (t : TableLent v e firsts places) (l : 1 ≤ e) where
  one_thing : Chain (head_end Value v) (value_size v) (below Value v) 1 0 e
  one_thing = let z = t.size_is in link {p = 0} {e = e} (omega arith) (omega arith) (last {p = 0 + value_size v 0} {e = e} (omega arith))

  pub one_chain : chain (value_size v) 1 0 e ≡ true
  unfolding chain
  one_chain = let z = t.size_is in rw (lt-ltb 0 e (omega arith), lt-ltb 0 (value_size v 0) (omega arith)) (eq-eqb (0 + value_size v 0) e (omega arith))

  pub table_start : Tabling v e firsts places firsts places 0 0
  table_start = record { looked = nothing; pending = 1; chain = one_thing; counted = omega arith; long_firsts = refl; long_places = refl }

pub no_chain : (size : ℕ → ℕ) (e : ℕ) → e ≡ 0 → chain size 1 0 e ≡ false
unfolding chain
no_chain size e l = rw (le-ltb 0 e (omega arith))

-- the thing at q is the first of them
first_pending : (head_end : ℕ → Option ℕ) (size below : ℕ → ℕ) {m q e : ℕ} → Chain head_end size below m q e → q < e
    → (k : ℕ) × (m ≡ suc k) × Chain head_end size below k (q + size q) e
first_pending head_end size below (last r) l = absurd (omega arith)
first_pending head_end size below (link {n} g z c) l = (n, refl, c)

module _ {v : List ℕ} {e : ℕ} {firsts₀ places₀ firsts places : List ℕ} {q used : ℕ} (t : Tabling v e firsts₀ places₀ firsts places q used) where
  -- each child starts at a record of its own
  pub table_few : used + 1 ≤ e
  table_few = omega (arith, t.counted, chain_few (head_end Value v) (value_size v) (below Value v) t.chain)

  module _ (l : q < e) where
    pub head_room : TableLent v e firsts₀ places₀ → q < length firsts
    head_room a = omega (arith, a.inside, a.firsts_room, t.long_firsts)

    -- the children of the head at q have room, which stand between next and where it ends
    pub row_lent : TableLent v e firsts₀ places₀ → {size next : ℕ} → size ≡ value_size v q → q + size ≤ e → q < next → next < 2 ^ 50
        → {at : Place} → at ≡ place_of next → PlacesLent v next at (q + size) used places
    row_lent a z i g n is =
        let h = first_pending (head_end Value v) (value_size v) (below Value v) t.chain l in
        let f = chain_few (head_end Value v) (value_size v) (below Value v) h.2 in
        record {
          chains = record {
            place_is = is;
            within = record { sized = a.sized; near = n; inside = omega (arith, a.inside) };
          };
          room = omega (arith, t.counted, h.1, a.inside, a.places_room, t.long_places);
        }

    module _ (room : q < length firsts) {size : ℕ} (z : size ≡ value_size v q) {n next : ℕ} (ends : head_end Value v q ≡ some next) (is : n ≡ below Value v q)
        {places' : List ℕ} {b : Bool} (p : PlacesPut v n next (q + size) used places places' b) (yes : b ≡ true) where
      -- the rows of the heads before q are as they were, and the head at q has its own
      rows_stay : (w : ℕ) → w < q → Rowed v firsts places used w → Rowed v (set firsts q used) places' (used + n) w
      rows_stay w i x = record {
        head = rw (length-set firsts q used) x.head;
        row = λ r j h k.
            let f = get_or-set_other firsts q w used 0 (λ y. omega arith) in
            let y = x.row r j h k in
            rw f (omega (arith, y.0), p.kept _ y.0 ∙ y.1);
      }

      row_here : Rowed v (set firsts q used) places' (used + n) q
      row_here = record {
        head = rw (length-set firsts q used) room;
        row = λ r j h k.
            let f = get_or-set_same firsts q used 0 room in
            let y : next ≡ r = some-injective next r (sym ends ∙ h) in
            rw (f, ← y) (omega (arith, is), p.put yes j (omega (arith, is)));
      }

      pub table_go : length places' ≡ length places → Tabling v e firsts₀ places₀ (set firsts q used) places' next (used + n)
      table_go long =
          let g = head_grows Value v q next ends in
          let h = first_pending (head_end Value v) (value_size v) (below Value v) t.chain l in
          let c : Chain (head_end Value v) (value_size v) (below Value v) n next (q + value_size v q) =
          chain_sound (head_end Value v) (value_size v) (below Value v) (head_grows Value v) n next (q + value_size v q) (rw (← z) (sym p.is ∙ yes)) in
          record {
            looked =
                another
                (looked_keep (head_end Value v) (value_size v) (below Value v) (head_grows Value v) (Rowed v firsts places used)
                (Rowed v (set firsts q used) places' (used + n)) e t.looked rows_stay)
                l ends (subst (λ (x : ℕ). Chain (head_end Value v) (value_size v) (below Value v) x next (q + value_size v q)) is c) row_here;
            pending = n + h.0;
            chain = chain_then (head_end Value v) (value_size v) (below Value v) c h.2;
            counted = omega (arith, t.counted, h.1);
            long_firsts = length-set firsts q used ∙ t.long_firsts;
            long_places = long ∙ t.long_places;
          }

-- Each value that stands is a head, and its children are the things below it

kind_below_lem : (v : List ℕ) (w kind r : ℕ) → kind_head v kind w ≡ some r
    → cond (eqb kind 5) (content w ∷ []) (cond (leb 3 kind) (children v w) []) ≡ heads (value_size v) (kind_below v kind w) r
unfolding kind_head kind_below children content heads
kind_below_lem v w zero r e = absurd (none-ne-some r e)
kind_below_lem v w (suc zero) r e = refl
kind_below_lem v w (suc (suc zero)) r e = refl
kind_below_lem v w (suc (suc (suc zero))) r e = ap (heads (value_size v) (field_d v w)) (only_some _ (w + 1) r e).1
kind_below_lem v w (suc (suc (suc (suc zero)))) r e = ap (heads (value_size v) (field_d v w)) (only_some _ (w + 1) r e).1
kind_below_lem v w (suc (suc (suc (suc (suc zero))))) r e = ap (heads (value_size v) 1) (only_some _ (w + 1) r e).1
kind_below_lem v w (suc (suc (suc (suc (suc (suc kind)))))) r e = absurd (none-ne-some r e)

values_below_lem : (v : List ℕ) (w r : ℕ) → head_end Value v w ≡ some r → values_below v w ≡ heads (value_size v) (below Value v w) r
unfolding head_end below values_below
values_below_lem v w r e = kind_below_lem v w (kind_of v w) r e

nth_thing : (size : ℕ → ℕ) (n p j c : ℕ) → nth (heads size n p) j ≡ some c → (j < n) × (after size j p ≡ c)
unfolding nth heads after
nth_thing size zero p j c e = absurd (none-ne-some c e)
nth_thing size (suc n) p zero c e = (omega arith, some-injective p c e)
nth_thing size (suc n) p (suc j) c e = let h = nth_thing size n (p + size p) j c e in (omega arith, h.1)

child_is : (v : List ℕ) (w r j c : ℕ) → head_end Value v w ≡ some r → nth (values_below v w) j ≡ some c → (j < below Value v w) × (after (value_size v) j r ≡ c)
child_is v w r j c e h = nth_thing (value_size v) (below Value v w) r j c (ap (λ xs. nth xs j) (sym (values_below_lem v w r e)) ∙ h)

module _ {v : List ℕ} {e : ℕ} {firsts₀ places₀ firsts places : List ℕ} {q used : ℕ} (t : Tabling v e firsts₀ places₀ firsts places q used)
    (a : TableLent v e firsts₀ places₀) (l : 1 ≤ e) (i : e ≤ q) where
  abbrev Standing : ℕ → Type 0
  Standing w = HeadAt (head_end Value v) (value_size v) (below Value v) (Rowed v firsts places used) e w

  at_end : q ≡ e
  at_end = omega (arith, chain_few (head_end Value v) (value_size v) (below Value v) t.chain)

  stands_at : {w : ℕ} → Stands v w → Standing w
  stands_at whole = whole_at _ _ _ _ e t.looked at_end (omega arith) (one_thing a l)
  stands_at (table.below w j c s n) =
      let h = stands_at s in
      let r = ends _ _ _ _ e h in
      let y = child_is v w r.0 j c r.1 n in
      subst Standing y.1 (below_at_lem _ _ _ _ e h r.0 j r.1 y.0)

  all_children : Children v firsts places
  all_children = record {
    each = λ w j c s n.
        let h = stands_at s in
        let r = ends _ _ _ _ e h in
        let y = child_is v w r.0 j c r.1 n in
        let x = has _ _ _ _ e h in
        let z = x.row r.0 j r.1 y.0 in
        record {
          head = x.head;
          entry = omega (arith, z.0, table_few t, a.inside, a.places_room, t.long_places);
          is = z.1 ∙ y.1;
        };
  }

  -- so the scan is right at its end
  pub table_end : rest Value v q e ≡ fills Value v 0 e → TablePut v e firsts places true
  table_end f = record { is = sym (one_end Value v q e i ∙ eq-eqb q e at_end) ∙ f; children = λ z. all_children }

pub table_not : {v : List ℕ} {e : ℕ} {firsts places : List ℕ} → false ≡ fills Value v 0 e → TablePut v e firsts places false
table_not f = record { is = f; children = λ z. absurd (false≢true z) }

-- the value ends inside the stream
pub near_end : {v : List ℕ} {e : ℕ} {firsts₀ places₀ : List ℕ} → TableLent v e firsts₀ places₀ → e ≤ most_records
near_end {v} a = let r = few_records v a.sized in omega (arith, a.inside)
