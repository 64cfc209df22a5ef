-- The table of productions, and the marks of the escaped classes in it. Assumes nothing.
use Prim.Native.Nat.{ℕ, zero, suc, ◌+◌, ◌-◌, ◌≤◌, ◌<◌}
use mathlib.Core.Path.{◌≡◌, refl, sym, ap, ◌∙◌}
use mathlib.Core.List.{List, [], ◌∷◌, ◌++◌, map, append_assoc, append-nil}
use mathlib.Core.Bool.{Bool, true, false, cond, ◌||◌, false≢true}
use mathlib.Core.Option.{some, none}
use native.Mathlib.Omega.{arith}
use lib.ListN.{length, get_or, take, drop, set, length-append, length-set, length-map, drop_of_length-le, get_or-append, get_or-eq_default}
use lib.Seq.{get_or-append-add, get_or_at, drop-cons, length-take-le}
use lib.Dec.{eqb, ltb}
use borrow.Author.Tests.{ne_eqb, ltb-true, ltb-false}
use Rattle.std.specs.Int.{from_bool}
use Rattle.std.specs.List.{list_any}
use Rattle.rules.specs.Faults.{exists}
use Rattle.rules.specs.Records.{kind_of}
use Rattle.rules.specs.Grammar.{Element, keyword, lexeme, nonterminal, repetition, unknown, element_numbered, element_at, productions, production, escaped_class}
use Rattle.rules.specs.Escape.{escape}
use Rattle.rules.specs.Walk.{piece, written_for}
use Rattle.stream.specs.Record.{Fetched}
use Rattle.stream.specs.declared.record.Record.{Record}
use Rattle.laws.specs.Lists.{nth_some, nth_none, first_some, first_none}
use Rattle.rules.specs.Records.{nth}
use Rattle.laws.specs.Writes.{copy_more, copy_all}
use Rattle.walk.specs.Nodes.{element_for}
use Rattle.walk.specs.Marks.{ProductionHeads, escapes_for, escapes_at, PlaceText, mark_of, Marked}

-- where things stand in the table

module _ {g heads : List ℕ} (h : ProductionHeads g heads) where
  heads_length : length heads ≡ length h.marks + length (productions g) + 1
  heads_length = ap length h.is ∙ simp length-append (omega arith)

  pub heads_some : 1 ≤ length heads
  heads_some = omega (arith, heads_length)

  -- the last entry: how many marks there are
  marks_count : get_or heads (length heads - 1) 0 ≡ length h.marks
  marks_count =
      ap (λ (x : List ℕ). get_or x (length heads - 1) 0) (h.is ∙ sym (append_assoc h.marks (productions g) (length h.marks ∷ [])))
      ∙ get_or_at (h.marks ++ productions g) (length h.marks) [] 0 (length heads - 1) (simp length-append (omega (arith, heads_length)))

  production_here : (k : ℕ) → k < length (productions g) → get_or heads (length h.marks + k) 0 ≡ get_or (productions g) k 0
  production_here k l =
      ap (λ (x : List ℕ). get_or x (length h.marks + k) 0) h.is
      ∙ get_or-append-add h.marks _ k 0
      ∙ get_or-append (productions g) (length h.marks ∷ []) 0 k l

  module _ (marks number : ℕ) (e : marks ≡ get_or heads (length heads - 1) 0) where
    at_marks : marks + number ≡ length h.marks + number
    at_marks = ap (λ (x : ℕ). x + number) (e ∙ marks_count)

    production_found : marks + number + 1 < length heads → some (get_or heads (marks + number) 0) ≡ production g number
    unfolding production
    production_found l =
        let m : number < length (productions g) = omega (arith, at_marks, heads_length) in
        sym (nth_some (productions g) number m ∙ ap some (sym (production_here number m) ∙ ap (λ (x : ℕ). get_or heads x 0) (sym at_marks)))

    production_lost : length heads ≤ marks + number + 1 → none ≡ production g number
    unfolding production
    production_lost l = sym (nth_none (productions g) number (omega (arith, at_marks, heads_length)))

    pub production_is : nth (take (length heads - 1) heads) (marks + number) ≡ production g number
    production_is = go (ltb (marks + number) (length heads - 1)) refl
      where
        go : (b : Bool) → ltb (marks + number) (length heads - 1) ≡ b → nth (take (length heads - 1) heads) (marks + number) ≡ production g number
        go true w =
            let l : marks + number < length heads - 1 = ltb-true _ _ w in
            sym (first_some heads (length heads - 1) (marks + number) (omega arith) l) ∙ production_found (omega arith)
        go false w =
            let l : length heads - 1 ≤ marks + number = ltb-false _ _ w in
            sym (first_none heads (length heads - 1) (marks + number) l) ∙ production_lost (omega arith)

  -- the mark of a class, by its number
  module _ (marks : ℕ) (e : marks ≡ get_or heads (length heads - 1) 0) where
    pub unmarked : (c : ℕ) → marks ≤ c → exists (escaped_class g c) ≡ false
    unmarked c l = h.tells c ∙ rw (get_or-eq_default h.marks 0 {n = c} (omega (arith, e ∙ marks_count)))

    pub mark_inside : (c : ℕ) → c < marks → c < length heads
    mark_inside c l = omega (arith, e ∙ marks_count, heads_length)

    pub mark_here : (c : ℕ) → c < marks → eqb (get_or heads c 0) 1 ≡ exists (escaped_class g c)
    mark_here c l =
        ap (λ (x : List ℕ). eqb (get_or x c 0) 1) h.is
        ∙ ap (λ (x : ℕ). eqb x 1) (get_or-append h.marks _ 0 c (omega (arith, e ∙ marks_count)))
        ∙ sym (h.tells c)

-- what an element's position asks for

other_form : (g : List ℕ) (a e : ℕ) → (a ≡ 1 → ⊥) → false ≡ escapes_for g (element_numbered g a e)
unfolding escapes_for element_numbered
other_form g zero e l = refl
other_form g (suc zero) e l = absurd (l refl)
other_form g (suc (suc zero)) e l = refl
other_form g (suc (suc (suc zero))) e l = refl
other_form g (suc (suc (suc (suc zero)))) e l = refl
other_form g (suc (suc (suc (suc (suc a))))) e l = refl

module _ (g : List ℕ) (element : ℕ) where
  pub no_element : element ≡ 0 → false ≡ escapes_at g element
  unfolding escapes_for element_for
  no_element e = rw e

  module _ (z : element ≡ 0 → ⊥) {r : Record} (f : Fetched g element r) where
    there : element_for g element ≡ element_numbered g r.a element
    unfolding element_for element_at
    there = rw (ne_eqb element 0 z, f.a)

    pub no_class : (r.a ≡ 1 → ⊥) → false ≡ escapes_at g element
    no_class l = rw there (other_form g r.a element l)

    pub of_class : r.a ≡ 1 → (b : Bool) → b ≡ exists (escaped_class g r.b) → b ≡ escapes_at g element
    unfolding escapes_for element_numbered
    of_class e b h = rw (there, e) (h ∙ ap (λ (c : ℕ). exists (escaped_class g c)) f.b)

-- no escaped class at all
no_marks : (g : List ℕ) → ((c : ℕ) → exists (escaped_class g c) ≡ false) → (e : Element) → false ≡ escapes_for g e
unfolding escapes_for
no_marks g h (keyword y) = refl
no_marks g h (lexeme c) = sym (h c)
no_marks g h (nonterminal n) = refl
no_marks g h (repetition n y) = refl
no_marks g h unknown = refl

pub never : {g heads : List ℕ} → ProductionHeads g heads → (marks : ℕ) → marks ≡ get_or heads (length heads - 1) 0 → marks ≡ 0 → (element : ℕ)
    → false ≡ escapes_at g element
never {g} h marks e z element = no_marks g (λ c. unmarked h marks e c (omega arith)) (element_for g element)

-- what is written for a text
position_is : (g : List ℕ) (e : Element) (x : List ℕ) → written_for g (piece e) x ≡ cond (escapes_for g e) (escape x) x
unfolding written_for escapes_for
position_is g (keyword y) x = refl
position_is g (lexeme c) x = refl
position_is g (nonterminal n) x = refl
position_is g (repetition n y) x = refl
position_is g unknown x = refl

module _ (g : List ℕ) (element : ℕ) (x : List ℕ) (b : Bool) (e : b ≡ escapes_at g element) where
  pub stands_plain : b ≡ false → PlaceText g element x true
  stands_plain f = record { is = position_is g (element_for g element) x ∙ rw (← e, f) }

  pub stands_so : b ≡ true → (plain : Bool) → (plain ≡ true → escape x ≡ x) → PlaceText g element x plain
  stands_so f plain h = record { is = position_is g (element_for g element) x ∙ rw (← e, f) (go plain h) }
    where
      go : (p : Bool) → (p ≡ true → escape x ≡ x) → escape x ≡ cond p x (escape x)
      go true h = h refl
      go false h = refl

pub plain_text_lem : {y x : List ℕ} {b : Bool} → y ≡ x → (b ≡ true → escape y ≡ y) → b ≡ true → escape x ≡ x
plain_text_lem e h t = rw (← e) (h t)

-- Marks in the place of heads

pub marked_as : (g : List ℕ) (p kind : ℕ) (b : Bool) → kind ≡ kind_of g p → b ≡ eqb kind 5 → from_bool b ≡ mark_of g p
unfolding mark_of
marked_as g p kind b e f = rw (← e, ← f) (go b)
  where
    go : (x : Bool) → from_bool x ≡ cond x 1 0
    go true = refl
    go false = refl

-- What the marking keeps: so many heads are marks by now
pub record Marking (g before classes : List ℕ) (i : ℕ) : Type 0 where
  pub few : i ≤ length before
  pub so_far : classes ≡ take i (map (mark_of g) before) ++ drop i before
  pub long : length classes ≡ length before

pub mark_at : (g before : List ℕ) (i : ℕ) → i < length before → get_or (map (mark_of g) before) i 0 ≡ mark_of g (get_or before i 0)
mark_at g [] i l = absurd (omega arith)
mark_at g (p ∷ ps) zero l = refl
mark_at g (p ∷ ps) (suc i) l = mark_at g ps i (omega arith)

module _ {g before classes : List ℕ} {i m : ℕ} (h : Marking g before classes i) (l : i < length classes) (e : m ≡ mark_of g (get_or classes i 0)) where
  inside : i < length before
  inside = omega (arith, h.long)

  -- the head that is still there
  head_here : get_or classes i 0 ≡ get_or before i 0
  head_here =
      let t : length (take i (map (mark_of g) before)) ≡ i = length-take-le i (map (mark_of g) before) (omega (arith, length-map before (mark_of g), inside)) in
      ap (λ (x : List ℕ). get_or x i 0) (h.so_far ∙ ap (λ (x : List ℕ). take i (map (mark_of g) before) ++ x) (drop-cons before i 0 inside))
      ∙ get_or_at (take i (map (mark_of g) before)) (get_or before i 0) (drop (suc i) before) 0 i t

  mark_is : m ≡ get_or (map (mark_of g) before) i 0
  mark_is = e ∙ ap (mark_of g) head_here ∙ sym (mark_at g before i inside)

  pub marking_turn : Marking g before (set classes i m) (i + 1)
  marking_turn = record {
    few = omega (arith, inside);
    so_far = rw mark_is (copy_more (map (mark_of g) before) classes before i (omega (arith, length-map before (mark_of g), inside)) (omega (arith, length-map before (mark_of g))) h.so_far);
    long = length-set classes i m ∙ h.long;
  }

-- a mark is 0 or 1, so where none is 1 all are 0
neither : (a b : Bool) → a || b ≡ false → (a ≡ false) × (b ≡ false)
neither true b h = absurd (false≢true (sym h))
neither false b h = (refl, h)

not_one : (b : Bool) → eqb (cond b 1 0) 1 ≡ false → ◌≡◌ {A = ℕ} (cond b 1 0) 0
not_one true h = absurd (false≢true (sym h))
not_one false h = refl

no_mark : (g before : List ℕ) → list_any (λ m. eqb m 1) (map (mark_of g) before) ≡ false → (k : ℕ) → get_or (map (mark_of g) before) k 0 ≡ 0
unfolding mark_of
no_mark g [] h k = refl
no_mark g (p ∷ ps) h zero = not_one (eqb (kind_of g p) 5) (neither _ _ h).0
no_mark g (p ∷ ps) h (suc k) = no_mark g ps (neither (eqb (mark_of g p) 1) _ h).1 k

module _ {g before classes : List ℕ} {i : ℕ} (h : Marking g before classes i) (l : length classes ≤ i) where
  all_marks : classes ≡ map (mark_of g) before
  all_marks =
      copy_all (map (mark_of g) before) classes before i (omega (arith, h.few, length-map before (mark_of g))) (omega (arith, h.long, length-map before (mark_of g))) h.so_far
      ∙ ap (λ (x : List ℕ). map (mark_of g) before ++ x) (drop_of_length-le before {i = length (map (mark_of g) before)} (omega (arith, length-map before (mark_of g))))
      ∙ append-nil (map (mark_of g) before)

  pub none_marked : list_any (λ m. eqb m 1) classes ≡ false → Marked g before classes 0
  none_marked e = record { each = all_marks; all_used = λ z. absurd (z refl); none_used = λ z k. rw all_marks (no_mark g before (rw all_marks at e) k) }
