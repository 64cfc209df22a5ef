-- The ranges of a class, one after the other: searched for a code point, and put into a set. And the sets of all classes, one after the other.
use Prim.Native.Nat.{ℕ, zero, suc, ◌+◌, ◌-◌, ◌*◌, ◌≤◌, ◌<◌}
use mathlib.Core.Path.{◌≡◌, refl, ap, sym, ◌∙◌}
use mathlib.Core.List.{List, ◌++◌}
use mathlib.Core.Bool.{Bool, true, false, ◌&&◌, ◌||◌, or-false, or-true, or_assoc}
use mathlib.Core.Option.{none, some, some-injective}
use native.Mathlib.Omega.{arith}
use native.Mathlib.Nat.{sub-zero, add-zero}
use lib.ListN.{length, get_or, take, drop, length-take, length-drop, replicate, take-append-drop}
use lib.Seq.{length-take-le, take-append-le, drop-append-le, take_at, drop_at}
use lib.Dec.{ltb}
use borrow.Author.Tests.{ltb-true, ltb-false}
use borrow.Rule.Slice.PartMut.{put_mid, same_len_mid}
use Rattle.std.specs.List.{list_any, range_with_len}
use Rattle.rules.specs.Blocks.{stream_length}
use Rattle.rules.specs.Records.{field_d, heads, row, nth}
use Rattle.rules.specs.Grammar.{classes, class}
use Rattle.rules.specs.Lexeme.{within, lowest, highest, ranges, in_some, is_xml_char, is_of_class}
use Rattle.laws.specs.Lists.{nth_some, nth_within}
use Rattle.laws.specs.Rows.{row_more, row_done}
use Rattle.records.specs.declared.range.Range.{Range}
use Rattle.records.specs.Ranges.{RangeAt}
use Rattle.lexeme.specs.Sets.{is_in, ClassSet, set_of, Compiled}
use Rattle.lexeme.proofs.SetLaws.{none_in}

-- the ranges that are left
pub left_start : (g : List ℕ) (p count x : ℕ) → count ≡ field_d g p → in_some g (row (count - 0) (p + 1 + 0)) x ≡ in_some g (ranges g p) x
unfolding ranges
left_start g p count x e = rw (sub-zero, add-zero, e)

left_turn : (g : List ℕ) (q count k x : ℕ) (r : Range) → k < count → RangeAt g (q + k) r
    → in_some g (row (count - k) (q + k)) x ≡ (within r.lowest r.highest x || in_some g (row (count - (k + 1)) (q + (k + 1))) x)
unfolding in_some
left_turn g q count k x r l e = rw (row_more count q k l, e.from, e.to)

-- the search through all of them
in_row : (g : List ℕ) (n q x : ℕ) → list_any (λ i. within (lowest g i) (highest g i) x) (range_with_len q n) ≡ in_some g (row n q) x
unfolding in_some row heads
in_row g zero q x = refl
in_row g (suc n) q x = ap (λ (b : Bool). within (lowest g q) (highest g q) x || b) (in_row g n (q + 1) x)

pub search_all : (g : List ℕ) (p count x : ℕ) → count ≡ field_d g p → list_any (λ i. within (lowest g i) (highest g i) x) (range_with_len (p + 1) count) ≡ in_some g (ranges g p) x
unfolding ranges
search_all g p count x e = in_row g count (p + 1) x ∙ ap (λ (n : ℕ). in_some g (row n (p + 1)) x) e

-- a range of the class that has the code point
in_kth : (g : List ℕ) (n k q x : ℕ) → k < n → within (lowest g (q + k)) (highest g (q + k)) x ≡ true → in_some g (row n q) x ≡ true
unfolding in_some row heads
in_kth g zero k q x l e = absurd (omega arith)
in_kth g (suc n) zero q x l e =
    let f : within (lowest g q) (highest g q) x ≡ true = ap (λ (i : ℕ). within (lowest g i) (highest g i) x) (sym (add-zero q)) ∙ e in
    ap (λ (b : Bool). b || in_some g (row n (q + 1)) x) f
in_kth g (suc n) (suc k) q x l e =
    let i : q + suc k ≡ q + 1 + k = omega arith in
    let f : within (lowest g (q + 1 + k)) (highest g (q + 1 + k)) x ≡ true = ap (λ (j : ℕ). within (lowest g j) (highest g j) x) (sym i) ∙ e in
    ap (λ (b : Bool). within (lowest g q) (highest g q) x || b) (in_kth g n k (q + 1) x (omega arith) f) ∙ or-true (within (lowest g q) (highest g q) x)

pub kth_found : (g : List ℕ) (p k x : ℕ) (r : Range) → k < field_d g p → RangeAt g (p + 1 + k) r → (b : Bool) → b ≡ within r.lowest r.highest x → b ≡ true
    → in_some g (ranges g p) x ≡ true
unfolding ranges
kth_found g p k x r l e b f h = in_kth g (field_d g p) k (p + 1) x l (rw (← e.from, ← e.to) (sym f ∙ h))

-- the set, and the ranges that are not in it yet
pub record SetFilling (g : List ℕ) (p count q k : ℕ) (set₁ : List ℕ) : Type 0 where
  pub grammar_sized : stream_length g ≡ none
  pub size : length set₁ ≡ 128
  pub same : (x : ℕ) → x < 2048 → (is_in set₁ x || in_some g (row (count - k) (q + k)) x) ≡ in_some g (ranges g p) x

pub fill_start : (g : List ℕ) (p count : ℕ) (set₁ : List ℕ) → stream_length g ≡ none → count ≡ field_d g p → length set₁ ≡ 128 → set₁ ≡ replicate 128 0 → SetFilling g p count (p + 1) 0 set₁
fill_start g p count set₁ w e l f = record {
  grammar_sized = w;
  size = l;
  same = λ x m. ap (λ (b : Bool). b || in_some g (row (count - 0) (p + 1 + 0)) x) (ap (λ (s : List ℕ). is_in s x) f ∙ none_in 128 x) ∙ left_start g p count x e;
}

pub fill_turn : (g : List ℕ) (p count q k : ℕ) (set₁ set₂ : List ℕ) (r : Range) → SetFilling g p count q k set₁ → k < count → RangeAt g (q + k) r → length set₂ ≡ length set₁
    → ((x : ℕ) → x < 2048 → is_in set₂ x ≡ (is_in set₁ x || within r.lowest r.highest x)) → SetFilling g p count q (k + 1) set₂
fill_turn g p count q k set₁ set₂ r f l e s h = record {
  grammar_sized = f.grammar_sized;
  size = s ∙ f.size;
  same = λ x m.
      ap (λ (b : Bool). b || in_some g (row (count - (k + 1)) (q + (k + 1))) x) (h x m)
      ∙ or_assoc (is_in set₁ x) (within r.lowest r.highest x) (in_some g (row (count - (k + 1)) (q + (k + 1))) x)
      ∙ ap (λ (b : Bool). is_in set₁ x || b) (sym (left_turn g q count k x r l e))
      ∙ f.same x m;
}

pub fill_end : (g : List ℕ) (p count q k : ℕ) (set₁ set₂ : List ℕ) → SetFilling g p count q k set₁ → count ≤ k → length set₂ ≡ length set₁
    → ((x : ℕ) → x < 2048 → is_in set₂ x ≡ (is_xml_char x && is_in set₁ x)) → ClassSet g p set₂
unfolding in_some is_of_class
fill_end g p count q k set₁ set₂ f l s h = record {
  grammar_sized = f.grammar_sized;
  size = s ∙ f.size;
  same = λ x m. h x m ∙ ap (λ (b : Bool). is_xml_char x && b) (
      sym (or-false (is_in set₁ x))
      ∙ ap (λ (rs : List ℕ). is_in set₁ x || in_some g rs x) (sym (row_done count q k l))
      ∙ f.same x m
      );
}

-- the sets of the first n classes
pub record Compiling (g list sets₀ sets₁ : List ℕ) (n : ℕ) : Type 0 where
  pub size : length sets₁ ≡ length sets₀
  pub done : (m p : ℕ) → m < n → nth list m ≡ some p → ClassSet g p (set_of sets₁ m)

-- a set put in its place is there, and those before it stay
module _ (sets₁ ys : List ℕ) (n : ℕ) (room : 128 * n + 128 ≤ length sets₁) (size : length ys ≡ 128) where
  front : length (take (128 * n) sets₁) ≡ 128 * n
  front = length-take-le (128 * n) sets₁ (omega arith)

  put_here : set_of (put_mid (128 * n) (128 * n + 128 - 128 * n) sets₁ ys) n ≡ ys
  unfolding set_of
  put_here =
      ap (take 128) (drop_at (take (128 * n) sets₁) (ys ++ drop (128 * n + 128 - 128 * n) (drop (128 * n) sets₁)) (128 * n) front)
      ∙ take_at ys (drop (128 * n + 128 - 128 * n) (drop (128 * n) sets₁)) 128 size

  before : (m : ℕ) (rest : List ℕ) → m < n → take 128 (drop (128 * m) (take (128 * n) sets₁ ++ rest)) ≡ take 128 (drop (128 * m) (take (128 * n) sets₁))
  before m rest l =
      ap (take 128) (drop-append-le (128 * m) (take (128 * n) sets₁) rest (omega (arith, front)))
      ∙ take-append-le 128 (drop (128 * m) (take (128 * n) sets₁)) rest (rw length-drop (omega (arith, front)))

  put_other : (m : ℕ) → m < n → set_of (put_mid (128 * n) (128 * n + 128 - 128 * n) sets₁ ys) m ≡ set_of sets₁ m
  unfolding set_of
  put_other m l =
      before m (ys ++ drop (128 * n + 128 - 128 * n) (drop (128 * n) sets₁)) l
      ∙ sym (before m (drop (128 * n) sets₁) l)
      ∙ ap (λ (xs : List ℕ). take 128 (drop (128 * m) xs)) (take-append-drop (128 * n) sets₁)

pub compile_turn : (g list sets₀ sets₁ ys : List ℕ) (n : ℕ) → Compiling g list sets₀ sets₁ n → n < length list → 128 * n + 128 ≤ length sets₁
    → ClassSet g (get_or list n 0) ys → Compiling g list sets₀ (put_mid (128 * n) (128 * n + 128 - 128 * n) sets₁ ys) (n + 1)
compile_turn g list sets₀ sets₁ ys n c l room s = record {
  size = same_len_mid (128 * n) (128 * n + 128 - 128 * n) sets₁ ys (s.size ∙ sym part) ∙ c.size;
  done = λ m p k e. go m p k e (ltb m n) refl;
}
  where
    part : length (take (128 * n + 128 - 128 * n) (drop (128 * n) sets₁)) ≡ 128
    part = simp (length-take, length-drop) (omega arith)

    go : (m p : ℕ) → m < n + 1 → nth list m ≡ some p → (b : Bool) → ltb m n ≡ b → ClassSet g p (set_of (put_mid (128 * n) (128 * n + 128 - 128 * n) sets₁ ys) m)
    go m p k e true f =
        let q : m < n = ltb-true m n f in
        rw (put_other sets₁ ys n room s.size m q) (c.done m p q e)
    go m p k e false f =
        let q : n ≤ m = ltb-false m n f in
        let z : m ≡ n = omega arith in
        let h : get_or list n 0 ≡ p = some-injective (get_or list n 0) p (sym (nth_some list n l) ∙ (rw z at e)) in
        rw (z, put_here sets₁ ys n room s.size, ← h) s

pub compile_end : (g list sets₀ sets₁ : List ℕ) (n : ℕ) → Compiling g list sets₀ sets₁ n → length list ≤ n → list ≡ classes g → Compiled g sets₁
unfolding class
compile_end g list sets₀ sets₁ n c l e = record {
  each = λ m p f. c.done m p (omega (arith, nth_within list m p (rw e f))) (rw e f);
}
