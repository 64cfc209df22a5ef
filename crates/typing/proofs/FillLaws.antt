-- Laws of filling the table of asked elements. Assumes nothing.
use Prim.Native.Nat.{ℕ, zero, suc, ◌+◌, ◌-◌, ◌*◌, ◌≤◌, ◌<◌}
use mathlib.Core.Path.{◌≡◌, refl, sym, ap, ◌∙◌}
use mathlib.Core.List.{List, [], ◌∷◌, ◌++◌, append_assoc, append-nil}
use mathlib.Core.Bool.{Bool, true, false}
use mathlib.Core.Option.{none, some, some-ne-none}
use native.Mathlib.Omega.{arith}
use native.Mathlib.Nat.{sub-zero, le_of_suc-le-suc, not-suc-le-zero}
use lib.ListN.{length, get_or, take, drop, set, length-set, length-take, length-drop, get_or-eq_default}
use lib.Seq.{get_or-take, get_or-drop, get_or-set_same, take-set-le, drop-set-add, drop-set-lt}
use lib.Dec.{eqb, ltb}
use borrow.Author.Tests.{eq-eqb, ne_eqb, eqb-true, ltb-true, ltb-false}
use Rattle.rules.specs.Blocks.{stream_length}
use Rattle.rules.specs.Records.{base, byte_of, kind_of, field_a, field_d, heads, after, things, those, of_kind, nth, record_count}
use Rattle.rules.specs.Grammar.{element_size, production_size, grammar_size, grammar_things, productions, element_heads}
use Rattle.laws.specs.Lists.{nth_some, nth_within}
use Rattle.laws.specs.Reads.{whole_blocks}
use Rattle.laws.specs.Rows.{heads_done, heads_more, length_heads}
use Rattle.laws.specs.Sorts.{no_class}
use Rattle.typing.specs.Asked.{asked_among, asked_of, AskedRow, AskedFilled, RowPut}
use Rattle.typing.proofs.AnswerLaws.{one_more}

-- a record that is not all zeros stands in the stream, so its index is below 8,064

stands_in : (s : List ℕ) (i j : ℕ) → stream_length s ≡ none → j < 8 → (byte_of s i j ≡ 0 → ⊥) → (b : Bool) → ltb i 8064 ≡ b → i < 8064
unfolding byte_of base
stands_in s i j e h ne true k = ltb-true _ _ k
stands_in s i j e h ne false k =
    let w = whole_blocks s e in
    let l : 8064 ≤ i = ltb-false _ _ k in
    absurd (ne (get_or-eq_default s 0 (omega (arith, w.0))))

pub asked_inside : (g : List ℕ) (e : ℕ) → stream_length g ≡ none → (field_a g e ≡ 0 → ⊥) → e < 8064
unfolding field_a
asked_inside g e s ne = stands_in g e 1 s (omega arith) ne (ltb e 8064) refl

pub head_inside : (g : List ℕ) (q : ℕ) → stream_length g ≡ none → kind_of g q ≡ 3 → q < 8064
unfolding kind_of
head_inside g q s k = stands_in g q 0 s (omega arith) (λ z. let w : ◌≡◌ {A = ℕ} 0 3 = sym z ∙ k in omega arith) (ltb q 8064) refl

-- one production: what is put in, and what is left after i elements

pub record Filling (g : List ℕ) (q n : ℕ) (before table : List ℕ) (e i count : ℕ) : Type 0 where
  pub far : e ≤ q + 1 + i * 8194
  pub behind : q + 1 + count ≤ e
  pub inside : q + 1 + count ≤ 8064
  pub full : length table ≡ 8064
  pub kept : take q table ≡ take q before
  pub done : take count (drop (q + 1) table) ++ asked_among g (heads (element_size g) (n - i) e) ≡ asked_of g q

pub filling_start : (g : List ℕ) (q n : ℕ) (table : List ℕ) → stream_length g ≡ none → kind_of g q ≡ 3 → n ≡ field_d g q → length table ≡ 8064
    → Filling g q n table table (q + 1) 0 0
unfolding asked_of element_heads
filling_start g q n table s k e h =
    let l = head_inside g q s k in
    record {
      far = omega arith;
      behind = omega arith;
      inside = omega arith;
      full = h;
      kept = refl;
      done = rw (sub-zero n, e);
    }

size_some : (g : List ℕ) (e : ℕ) → 1 ≤ element_size g e
unfolding element_size
size_some g e = omega arith

module _ {g : List ℕ} {q n : ℕ} {before table : List ℕ} {e i count : ℕ} (F : Filling g q n before table e i count) (more : i < n) where
  among_more : (c : ℕ) → c ≡ element_size g e → asked_among g (heads (element_size g) (n - i) e) ≡ asked_among g (e ∷ heads (element_size g) (n - (i + 1)) (e + c))
  among_more c k = ap (asked_among g) (heads_more (element_size g) n i e more c k)

  module _ (c : ℕ) (size : c ≡ element_size g e) (small : c ≤ 8193) where
    pub filling_keyword : field_a g e ≡ 0 → Filling g q n before table (e + c) (i + 1) count
    unfolding asked_among
    filling_keyword h = record {
      far = omega (arith, F.far);
      behind = omega (arith, F.behind);
      inside = F.inside;
      full = F.full;
      kept = F.kept;
      done = ap (λ (l : List ℕ). take count (drop (q + 1) table) ++ l) (sym (among_more c size ∙ rw (asked_among, eq-eqb _ _ h))) ∙ F.done;
    }

    put_more : e < 8064 → take (count + 1) (drop (q + 1) (set table (q + 1 + count) e)) ≡ take count (drop (q + 1) table) ++ e ∷ []
    put_more h = rw (drop-set-add (q + 1) table count e) (one_more (drop (q + 1) table) count e (simp length-drop (omega (arith, F.full, F.behind))))

    pub filling_asked : stream_length g ≡ none → (field_a g e ≡ 0 → ⊥) → Filling g q n before (set table (q + 1 + count) e) (e + c) (i + 1) (count + 1)
    unfolding asked_among
    filling_asked s h =
        let l = asked_inside g e s h in
        let m = size_some g e in
        record {
          far = omega (arith, F.far);
          behind = omega (arith, F.behind, size, m);
          inside = omega (arith, F.behind);
          full = length-set table _ _ ∙ F.full;
          kept = take-set-le q table _ e (omega arith) ∙ F.kept;
          done = rw (put_more l, append_assoc) (ap (λ (t : List ℕ). take count (drop (q + 1) table) ++ t) (sym (among_more c size ∙ rw (asked_among, ne_eqb _ _ h))) ∙ F.done);
        }

pub filling_end : {g : List ℕ} {q n : ℕ} {before table : List ℕ} {e i count : ℕ} → Filling g q n before table e i count → n ≤ i → RowPut g q before (set table q count)
unfolding asked_among
filling_end {g} {q} {n} {before} {table} {e} {i} {count} F h =
    let d : take count (drop (q + 1) table) ≡ asked_of g q = sym (append-nil _) ∙ (rw (heads_done (element_size g) n i e h) at F.done) in
    let m : length (asked_of g q) ≡ count = sym (ap length d) ∙ simp (length-take, length-drop) (omega (arith, F.inside, F.full)) in
    let l : q < length table = omega (arith, F.inside, F.full) in
    record {
      full = length-set table q count ∙ F.full;
      kept = take-set-le q table q count (omega arith) ∙ F.kept;
      row = record {
        count = get_or-set_same table q count 0 l ∙ sym m;
        heads = λ j k.
            let y : j < count = omega arith in
            sym (get_or-drop (q + 1) (set table q count) j 0)
            ∙ ap (λ (x : List ℕ). get_or x j 0) (drop-set-lt (q + 1) table q count (omega arith))
            ∙ sym (get_or-take count (drop (q + 1) table) j 0 y)
            ∙ ap (λ (x : List ℕ). get_or x j 0) d;
        inside = omega (arith, F.inside);
      };
    }

-- all productions: the things of a grammar stand one after the other

after_grows : (size : ℕ → ℕ) → ((p : ℕ) → 1 ≤ size p) → (n p : ℕ) → p + n ≤ after size n p
unfolding after
after_grows size h zero p = omega arith
after_grows size h (suc n) p = let w : p + size p + n ≤ after size n (p + size p) = after_grows size h n (p + size p) in omega (arith, w, h p)

among_fewer : (g es : List ℕ) → length (asked_among g es) ≤ length es
unfolding asked_among
among_fewer g [] = omega arith
among_fewer g (e ∷ es) = go (eqb (field_a g e) 0) (among_fewer g es)
  where
    go : (b : Bool) → length (asked_among g es) ≤ length es → length {A = ℕ} (elim b [ true ↦ asked_among g es | false ↦ e ∷ asked_among g es ]) ≤ length (e ∷ es)
    go true h = omega arith
    go false h = omega arith

-- a production's row ends before the next thing
row_ends : (g : List ℕ) (p : ℕ) → kind_of g p ≡ 3 → p + length (asked_of g p) < p + grammar_size g p
unfolding asked_of element_heads grammar_size production_size
row_ends g p k =
    let a = after_grows (element_size g) (size_some g) (field_d g p) (p + 1) in
    let b = among_fewer g (heads (element_size g) (field_d g p) (p + 1)) in
    let c = length_heads (element_size g) (field_d g p) (p + 1) in
    let n = no_class g p (λ e. omega (arith, k)) (λ e. omega (arith, k)) in
    rw (n) (omega (arith, a, b, c))

none_found : {A : Type 0} {q : ℕ} (k : ℕ) → nth [] k ≡ some q → A
unfolding nth
none_found k e = absurd (some-ne-none _ (sym e))

-- the productions from a thing on: it is one itself if its kind is 3, and there is none after the last thing
abbrev one_more_production : Bool → Bool → ℕ → List ℕ → List ℕ
one_more_production last is p ps = elim last [ true ↦ [] | false ↦ elim is [ true ↦ p ∷ ps | false ↦ ps ] ]

abbrev productions_from : List ℕ → ℕ → ℕ → List ℕ
productions_from g n p = those (of_kind g 3) (things g (grammar_size g) n p)

productions_more : (g : List ℕ) (n p : ℕ)
    → productions_from g (suc n) p ≡ one_more_production (eqb (kind_of g p) 0) (eqb (kind_of g p) 3) p (productions_from g n (p + grammar_size g p))
unfolding things those
productions_more g n p = go (eqb (kind_of g p) 0)
  where
    go : (b : Bool) → those (of_kind g 3) (elim b [ true ↦ [] | false ↦ p ∷ things g (grammar_size g) n (p + grammar_size g p) ])
        ≡ one_more_production b (eqb (kind_of g p) 3) p (productions_from g n (p + grammar_size g p))
    go true = refl
    go false = refl

-- each has kind 3 and stands from there on
more_here : (g : List ℕ) (p p' : ℕ) (ps : List ℕ) (last is : Bool) → eqb (kind_of g p) 3 ≡ is → p ≤ p' → ((k q : ℕ) → nth ps k ≡ some q → (p' ≤ q) × (kind_of g q ≡ 3))
    → (k q : ℕ) → nth (one_more_production last is p ps) k ≡ some q → (p ≤ q) × (kind_of g q ≡ 3)
unfolding nth
more_here g p p' ps true is e h f k q m = none_found k m
more_here g p p' ps false true e h f zero q m = let w : p ≡ q = cc in rw (← w) (omega arith, eqb-true _ _ e)
more_here g p p' ps false true e h f (suc k) q m = let w = f k q m in (omega (arith, w.0), w.1)
more_here g p p' ps false false e h f k q m = let w = f k q m in (omega (arith, w.0), w.1)

from_here : (g : List ℕ) (n p : ℕ) → (k q : ℕ) → nth (productions_from g n p) k ≡ some q → (p ≤ q) × (kind_of g q ≡ 3)
unfolding things those
from_here g zero p k q m = none_found k m
from_here g (suc n) p k q m =
    more_here g p (p + grammar_size g p) (productions_from g n (p + grammar_size g p)) (eqb (kind_of g p) 0) (eqb (kind_of g p) 3) refl (omega arith)
    (from_here g n (p + grammar_size g p)) k q (rw (productions_more g n p) at m)

productions_kind : (g : List ℕ) (k q : ℕ) → nth (productions g) k ≡ some q → kind_of g q ≡ 3
unfolding productions grammar_things
productions_kind g k q m = (from_here g (record_count g) 0 k q m).1

pub production_kind : (g hs : List ℕ) (k : ℕ) → hs ≡ productions g → k < length hs → kind_of g (get_or hs k 0) ≡ 3
production_kind g hs k he l = productions_kind g k (get_or hs k 0) (ap (λ (x : List ℕ). nth x k) (sym he) ∙ nth_some hs k l)

-- the row of an earlier production ends before a later production
abbrev Apart : List ℕ → List ℕ → Type 0
Apart g ps = (i j p q : ℕ) → nth ps i ≡ some p → nth ps j ≡ some q → i < j → p + length (asked_of g p) < q

more_apart : (g : List ℕ) (p : ℕ) (ps : List ℕ) (last is : Bool) → eqb (kind_of g p) 3 ≡ is → ((k q : ℕ) → nth ps k ≡ some q → p + grammar_size g p ≤ q)
    → Apart g ps → Apart g (one_more_production last is p ps)
unfolding nth
more_apart g p ps true is e f h i j a b m k l = none_found i m
more_apart g p ps false true e f h zero zero a b m k l = absurd (omega arith)
more_apart g p ps false true e f h zero (suc j) a b m k l =
    let w : p ≡ a = cc in
    let x = row_ends g p (eqb-true _ _ e) in
    let y = f j b k in
    rw (← w) (omega (arith, x, y))
more_apart g p ps false true e f h (suc i) zero a b m k l = absurd (omega arith)
more_apart g p ps false true e f h (suc i) (suc j) a b m k l = h i j a b m k (le_of_suc-le-suc l)
more_apart g p ps false false e f h i j a b m k l = h i j a b m k l

apart_from : (g : List ℕ) (n p : ℕ) → Apart g (productions_from g n p)
unfolding things those
apart_from g zero p i j a b m k l = none_found i m
apart_from g (suc n) p i j a b m k l =
    more_apart g p (productions_from g n (p + grammar_size g p)) (eqb (kind_of g p) 0) (eqb (kind_of g p) 3) refl
    (λ k q m. (from_here g n (p + grammar_size g p) k q m).0) (apart_from g n (p + grammar_size g p)) i j a b
    (rw (productions_more g n p) at m) (rw (productions_more g n p) at k) l

pub apart : (g : List ℕ) → Apart g (productions g)
unfolding productions grammar_things
apart g = apart_from g (record_count g) 0

-- the rows of the first k productions are in
pub record Rows (g table : List ℕ) (k : ℕ) : Type 0 where
  pub rows : (j q : ℕ) → j < k → nth (productions g) j ≡ some q → AskedRow g table q

-- an entry before q is as it was
entry_kept : (before table : List ℕ) (q i : ℕ) → take q table ≡ take q before → i < q → get_or table i 0 ≡ get_or before i 0
entry_kept before table q i e h = sym (get_or-take q table i 0 h) ∙ ap (λ (l : List ℕ). get_or l i 0) e ∙ get_or-take q before i 0 h

row_kept : (g before table : List ℕ) (p q : ℕ) → take q table ≡ take q before → p + length (asked_of g p) < q → AskedRow g before p → AskedRow g table p
row_kept g before table p q e h r = record {
  count = entry_kept before table q p e (omega arith) ∙ r.count;
  heads = λ j k. entry_kept before table q (p + 1 + j) e (omega arith) ∙ r.heads j k;
  inside = r.inside;
}

rows_step : (g : List ℕ) (before table : List ℕ) (k q : ℕ) → Rows g before k → RowPut g q before table → nth (productions g) k ≡ some q
    → (j p : ℕ) → j < k + 1 → nth (productions g) j ≡ some p → (b : Bool) → ltb j k ≡ b → AskedRow g table p
rows_step g before table k q R P m j p l n true e =
    let w : j < k = ltb-true _ _ e in
    row_kept g before table p q P.kept (apart g j k p q n m w) (R.rows j p w n)
rows_step g before table k q R P m j p l n false e =
    let w : k ≤ j = ltb-false _ _ e in
    let x : j ≡ k = omega arith in
    let o : nth (productions g) k ≡ some p = rw x at n in
    let y : q ≡ p = cc in
    rw (← y) P.row

module _ (g hs table : List ℕ) (he : hs ≡ productions g) where
  pub rows_start : Rows g table 0
  rows_start = record { rows = λ j q l m. absurd (not-suc-le-zero l) }

  pub rows_done : (k : ℕ) → length hs ≤ k → Rows g table k → AskedFilled g table
  rows_done k l R = record { rows = λ j q m. R.rows j q (omega (arith, nth_within (productions g) j q m, ap length he)) m }

pub rows_next : (g hs before table : List ℕ) (k : ℕ) → hs ≡ productions g → k < length hs → Rows g before k → RowPut g (get_or hs k 0) before table → Rows g table (k + 1)
rows_next g hs before table k he l R P = record { rows = λ j p m n. rows_step g before table k (get_or hs k 0) R P (ap (λ (x : List ℕ). nth x k) (sym he) ∙ nth_some hs k l) j p m n (ltb j k) refl }
