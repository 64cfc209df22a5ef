-- Which classes have a lexeme, in the code's steps.
use Prim.Native.Nat.{ℕ, zero, suc, ◌+◌, ◌≤◌, ◌<◌}
use mathlib.Core.Path.{◌≡◌, refl, sym, ap, ◌∙◌}
use mathlib.Core.List.{List, [], ◌∷◌}
use mathlib.Core.Bool.{Bool, true, false, ◌||◌}
use mathlib.Core.Logic.{inl, inr}
use mathlib.Core.Option.{none, some, some-ne-none}
use native.Mathlib.Omega.{arith}
use lib.ListN.{length, get_or, set, replicate, length-set, get_or-replicate, length-replicate, get_or-eq_default}
use lib.Seq.{get_or-set_same, get_or-set_other}
use lib.Dec.{eqb, ltb}
use borrow.Author.Tests.{eqb-true, eqb-false, ltb-true, ltb-false}
use Rattle.rules.specs.Faults.{on_found}
use Rattle.rules.specs.Records.{kind_of, field_b, heads, row}
use Rattle.rules.specs.Grammar.{class, classes, plain_class, plain_of}
use Rattle.std.specs.List.{list_any, range_with_len}
use Rattle.std.proofs.Math.Numerals.{add-one}
use Rattle.rules.specs.Finite.{overlap, overlap_some, has_character, some_character, plain_has_lexeme, has_lexeme}
use Rattle.stream.specs.declared.record.Record.{Record}
use Rattle.stream.specs.Record.{Fetched}
use Rattle.laws.specs.Faults.{nth_in, on_some}
use Rattle.laws.specs.Lists.{nth_some, nth_none}
use Rattle.theorems.specs.Readings.{Plain, plain_is, of_itself, of_its_plain, takes_is, not_both}
use Rattle.theorems.specs.LimitsExactly.{grammar_names_exactly}
use Rattle.theorems.specs.ClassesExactly.{class_in}
use Rattle.finite.specs.Found.{ClassAsks, is_noted, Noted, NotedTo}

-- one interval after the other, and one range after the other
pub some_overlap : (low high : ℕ) (is : List (ℕ × ℕ)) → list_any (overlap low high) is ≡ overlap_some low high is
unfolding overlap_some
some_overlap low high [] = refl
some_overlap low high (i ∷ is) = ap (λ (b : Bool). overlap low high i || b) (some_overlap low high is)

pub some_in_row : (g : List ℕ) (count first : ℕ) → list_any (has_character g) (range_with_len first count) ≡ some_character g (row count first)
unfolding some_character row heads
some_in_row g zero first = refl
some_in_row g (suc n) first = rw add-one (ap (λ (b : Bool). has_character g first || b) (some_in_row g n (suc first)))

-- class c, by the plain class that it is or names
has_by : (g : List ℕ) (c d q : ℕ) → plain_of g c ≡ d → plain_class g d ≡ some q → has_lexeme g c ≡ plain_has_lexeme g q
unfolding has_lexeme
has_by g c d q e f = rw e (on_some false (plain_has_lexeme g) f)

plain_itself : (g : List ℕ) (c q : ℕ) → Plain g c q → has_lexeme g c ≡ plain_has_lexeme g q
plain_itself g c q k = has_by g c c q ((takes_is g c c).1 (of_itself (λ p x. not_both k x))) ((plain_is g c q).1 k)

none_there : (g : List ℕ) (c : ℕ) → class g c ≡ none → has_lexeme g c ≡ false
unfolding has_lexeme plain_class on_found
none_there g c e =
    let f : plain_of g c ≡ c = (takes_is g c c).1 (of_itself (λ p x. some-ne-none p (sym x.of_number ∙ e))) in
    rw (f, e)

-- class n, whose head is at p
module _ (g : List ℕ) (n p : ℕ) (lexemes : List Bool) (h : ClassAsks g n p lexemes) (x : Record) (f : Fetched g p x) (escaped : Bool) (k : escaped ≡ eqb x.kind 5) where
  pub of_escaped : escaped ≡ true → is_noted lexemes x.b ≡ has_lexeme g n
  unfolding class
  of_escaped e =
      let five : kind_of g p ≡ 5 = sym f.kind ∙ eqb-true x.kind 5 (sym k ∙ e) in
      let (l, (q, d)) = ((grammar_names_exactly g).0 h.named).classes_name n p h.a_class five in
      let b : x.b ≡ field_b g p = f.b in
      rw b (h.noted.so_far (field_b g p) l ∙ plain_itself g (field_b g p) q d
      ∙ sym (has_by g n (field_b g p) q ((takes_is g n (field_b g p)).1 (of_its_plain p (record { of_number = h.a_class; kind = five }))) ((plain_is g (field_b g p) q).1 d)))

  pub of_plain : escaped ≡ false → plain_has_lexeme g p ≡ has_lexeme g n
  unfolding class
  of_plain e = elim (class_in g (nth_in (classes g) n p h.a_class)) [
    | inl one ↦ sym (plain_itself g n p (record { of_number = h.a_class; kind = one }))
    | inr five ↦ absurd (eqb-false x.kind 5 (sym k ∙ e) (f.kind ∙ five))
  ]

-- what is noted, class by class
pub noted_start : (g : List ℕ) → NotedTo g 0 (replicate 256 false)
unfolding is_noted
noted_start g = record { places = refl; so_far = λ c l. absurd (omega arith); not_yet = λ c l. go c (ltb c 256) refl }
  where
    go : (c : ℕ) (b : Bool) → ltb c 256 ≡ b → get_or (replicate 256 false) c false ≡ false
    go c true e = get_or-replicate {A = Bool} 256 c false false (ltb-true c 256 e)
    go c false e = get_or-eq_default (replicate 256 false) false {n = c} (rw (length-replicate {A = Bool} 256 false) (ltb-false c 256 e))

pub noted_next : (g : List ℕ) (lexemes : List Bool) (n : ℕ) (has : Bool) → NotedTo g n lexemes → n < 256 → has ≡ has_lexeme g n → NotedTo g (n + 1) (set lexemes n has)
unfolding is_noted
noted_next g lexemes n has h l e = record {
  places = length-set lexemes n has ∙ h.places;
  so_far = λ c m. go c m (eqb n c) refl;
  not_yet = λ c m. get_or-set_other lexemes n c has false (omega arith) ∙ h.not_yet c (omega arith);
}
  where
    go : (c : ℕ) → c < n + 1 → (b : Bool) → eqb n c ≡ b → is_noted (set lexemes n has) c ≡ has_lexeme g c
    go c m true d =
        let z : n ≡ c = eqb-true n c d in
        rw (← z, get_or-set_same lexemes n has false (omega (arith, h.places))) e
    go c m false d = let z = eqb-false n c d in rw (get_or-set_other lexemes n c has false (λ y. z (sym y))) (h.so_far c (omega arith))

pub noted_done : (g cs : List ℕ) (lexemes : List Bool) (n : ℕ) → cs ≡ classes g → NotedTo g n lexemes → length cs ≤ n → Noted g lexemes
unfolding class
noted_done g cs lexemes n e h l = record { exactly = λ c. go c (ltb c n) refl }
  where
    go : (c : ℕ) (b : Bool) → ltb c n ≡ b → is_noted lexemes c ≡ has_lexeme g c
    go c true d = h.so_far c (ltb-true c n d)
    go c false d =
        let m = ltb-false c n d in
        h.not_yet c m ∙ sym (none_there g c (rw (← e) (nth_none cs c (omega arith))))

pub a_class : (g cs : List ℕ) (n : ℕ) → cs ≡ classes g → n < length cs → class g n ≡ some (get_or cs n 0)
unfolding class
a_class g cs n e l = rw (← e) (nth_some cs n l)
