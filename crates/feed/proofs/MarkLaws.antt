-- The table of the grammar's heads, made into that of the walk.
use Prim.Native.Nat.{ℕ, suc, ◌+◌, ◌-◌, ◌≤◌, ◌<◌}
use mathlib.Core.Path.{◌≡◌, refl, sym, ap, ◌∙◌}
use mathlib.Core.List.{List, [], ◌∷◌, ◌++◌, map, append_assoc}
use mathlib.Core.Bool.{Bool, true, false, cond}
use native.Mathlib.Omega.{arith}
use native.Mathlib.Nat.{sub-zero}
use lib.ListN.{length, get_or, take, drop, set, length-append, length-take, length-drop, length-map, take-append-drop, get_or-eq_default}
use lib.Seq.{drop-drop, drop-cons, set_at, take_at, drop_at}
use lib.Dec.{eqb, ltb}
use borrow.Author.Tests.{eqb-true, eqb-false, ltb-true, ltb-false}
use Rattle.rules.specs.Faults.{on_found, only_if, exists}
use Rattle.rules.specs.Records.{kind_of}
use Rattle.rules.specs.Grammar.{classes, productions, class, escaped_class}
use Rattle.laws.specs.Lists.{nth_some, nth_none}
use Rattle.layout.specs.Heads.{part}
use Rattle.walk.proofs.MarkLaws.{mark_at}
use Rattle.walk.specs.Marks.{mark_of, Marked}
use Rattle.feed.specs.Asks.{MarkAsks, HeadsMarked}

-- a mark tells whether its class is escaped

tells_one : (g : List ℕ) (p : ℕ) → exists (only_if (eqb (kind_of g p) 5) p) ≡ eqb (mark_of g p) 1
unfolding mark_of only_if exists
tells_one g p = go (eqb (kind_of g p) 5)
  where
    go : (b : Bool) → exists (only_if b p) ≡ eqb (cond b 1 0) 1
    go true = refl
    go false = refl

tells : (g : List ℕ) (c : ℕ) → exists (escaped_class g c) ≡ eqb (get_or (map (mark_of g) (classes g)) c 0) 1
unfolding escaped_class class on_found exists
tells g c = go (ltb c (length (classes g))) refl
  where
    go : (b : Bool) → ltb c (length (classes g)) ≡ b → exists (escaped_class g c) ≡ eqb (get_or (map (mark_of g) (classes g)) c 0) 1
    go true e = let l : c < length (classes g) = ltb-true c (length (classes g)) e in rw (nth_some (classes g) c l, mark_at g (classes g) c l) (tells_one g (get_or (classes g) c 0))
    go false e =
        let l : length (classes g) ≤ c = ltb-false c (length (classes g)) e in
        let z : get_or (map (mark_of g) (classes g)) c 0 ≡ 0 = get_or-eq_default (map (mark_of g) (classes g)) 0 {n = c} (rw length-map l) in
        rw (nth_none (classes g) c l, z)

-- the table: marks, productions, a number, and what is left

module _ (ys ps tail : List ℕ) (x m : ℕ) where
  put : set (ys ++ (ps ++ x ∷ tail)) (length ys + length ps) m ≡ ys ++ (ps ++ m ∷ tail)
  put =
      ap (λ (l : List ℕ). set l (length ys + length ps) m) (sym (append_assoc ys ps (x ∷ tail)))
      ∙ set_at (ys ++ ps) x tail m (length ys + length ps) (length-append ys ps)
      ∙ append_assoc ys ps (m ∷ tail)

  front : take (length ps + 1) (ps ++ m ∷ tail) ≡ ps ++ m ∷ []
  front =
      ap (take (length ps + 1)) (sym (append_assoc ps (m ∷ []) tail))
      ∙ take_at (ps ++ m ∷ []) tail (length ps + 1) (length-append ps (m ∷ []))

  whole : take (length ys + length ps + 1) (ys ++ (ps ++ m ∷ tail)) ≡ ys ++ (ps ++ m ∷ [])
  whole =
      ap (take (length ys + length ps + 1)) (ap (λ (l : List ℕ). ys ++ l) (sym (append_assoc ps (m ∷ []) tail)) ∙ sym (append_assoc ys (ps ++ m ∷ []) tail))
      ∙ take_at (ys ++ (ps ++ m ∷ [])) tail (length ys + length ps + 1) (simp length-append (omega arith))

  -- from the marks on, and from behind them
  pub from_marks : (n : ℕ) → n ≡ length ys + length ps → part 0 (n + 1) (ys ++ (ps ++ m ∷ tail)) ≡ ys ++ (ps ++ m ∷ [])
  from_marks n e = rw (sub-zero, e) whole

  pub behind_marks : (n : ℕ) → n ≡ length ys + length ps → part (length ys) (n + 1) (ys ++ (ps ++ m ∷ tail)) ≡ ps ++ m ∷ []
  behind_marks n e =
      let k : n + 1 - length ys ≡ length ps + 1 = omega arith in
      rw (drop_at ys (ps ++ m ∷ tail) (length ys) refl, k) front

-- what the code leaves in the table
module _ {g heads : List ℕ} {cs ps : ℕ} (a : MarkAsks g heads cs ps) {after : List ℕ} {r : ℕ} (h : Marked g (take cs heads) after r) where
  marks_are : after ≡ map (mark_of g) (classes g)
  marks_are = h.each ∙ ap (map (mark_of g)) a.classes_are

  classes_long : length (classes g) ≡ cs
  classes_long = sym (ap length a.classes_are) ∙ simp length-take (omega (arith, a.behind, a.inside))

  after_long : length after ≡ cs
  after_long = ap length marks_are ∙ length-map (classes g) (mark_of g) ∙ classes_long

  pub few_marks : r ≤ cs
  few_marks = go (eqb r 0) refl
    where
      go : (b : Bool) → eqb r 0 ≡ b → r ≤ cs
      go true e = let z : r ≡ 0 = eqb-true r 0 e in omega arith
      go false e = let z : r ≡ 0 → ⊥ = eqb-false r 0 e in omega (arith, h.all_used z, ap length a.classes_are, classes_long)

  productions_long : length (productions g) ≡ ps - cs
  productions_long = sym (ap length a.productions_are) ∙ simp (length-take, length-drop) (omega (arith, a.behind, a.inside))

  -- the table between the two writes
  table : after ++ drop cs heads ≡ after ++ (productions g ++ get_or heads ps 0 ∷ drop (suc ps) heads)
  table =
      let k : cs + (ps - cs) ≡ ps = omega (arith, a.behind) in
      let e : drop (ps - cs) (drop cs heads) ≡ get_or heads ps 0 ∷ drop (suc ps) heads =
      drop-drop (ps - cs) cs heads ∙ rw k (drop-cons heads ps 0 a.inside) in
      ap (λ (l : List ℕ). after ++ l) (sym (take-append-drop (ps - cs) (drop cs heads)) ∙ rw (a.productions_are, e))

  long_enough : ps ≡ length after + length (productions g)
  long_enough = omega (arith, after_long, productions_long, a.behind)

  left : set (after ++ drop cs heads) ps r ≡ after ++ (productions g ++ r ∷ drop (suc ps) heads)
  left =
      ap (λ (l : List ℕ). set l ps r) table
      ∙ ap (λ (n : ℕ). set (after ++ (productions g ++ get_or heads ps 0 ∷ drop (suc ps) heads)) n r) long_enough
      ∙ put after (productions g) (drop (suc ps) heads) (get_or heads ps 0) r

  pub marked : HeadsMarked g ps (set (after ++ drop cs heads) ps r) (cs - r)
  marked = go (eqb r 0) refl
    where
      go : (b : Bool) → eqb r 0 ≡ b → HeadsMarked g ps (set (after ++ drop cs heads) ps r) (cs - r)
      go true e =
          let z : r ≡ 0 = eqb-true r 0 e in
          let k : cs - r ≡ length after = omega (arith, after_long) in
          record {
            begins = omega (arith, a.behind);
            table = rw (left, k, behind_marks after (productions g) (drop (suc ps) heads) (get_or heads ps 0) r ps long_enough)
                record { marks = []; is = rw z; tells = λ c. tells g c ∙ ap (λ (n : ℕ). eqb n 1) (ap (λ (l : List ℕ). get_or l c 0) (sym marks_are) ∙ h.none_used z c) };
          }
      go false e =
          let z : r ≡ cs = h.all_used (eqb-false r 0 e) ∙ ap length a.classes_are ∙ classes_long in
          let k : cs - r ≡ 0 = omega arith in
          let n : r ≡ length after = z ∙ sym after_long in
          record {
            begins = omega (arith, a.behind);
            table = rw (left, k, from_marks after (productions g) (drop (suc ps) heads) (get_or heads ps 0) r ps long_enough)
                record { marks = after; is = rw n; tells = λ c. tells g c ∙ ap (λ (l : List ℕ). eqb (get_or l c 0) 1) (sym marks_are) };
          }
