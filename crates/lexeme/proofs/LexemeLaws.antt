-- A text, part by part, to the verdict.
use Prim.Native.Nat.{ℕ, ◌+◌, ◌-◌, ◌*◌, min, ◌≤◌, ◌<◌}
use mathlib.Core.Path.{◌≡◌, refl, ap, sym, ◌∙◌}
use mathlib.Core.List.{List, ◌++◌}
use mathlib.Core.Bool.{Bool, true, false, ◌&&◌, and-true, and-false}
use mathlib.Core.Option.{some}
use native.Mathlib.Omega.{arith}
use native.Mathlib.Nat.{zero-add}
use lib.ListN.{length, get_or, take, drop, length-take, length-drop, get_or-eq_default}
use lib.Seq.{get_or-take, get_or-drop, drop-length}
use lib.Dec.{eqb, leb, ltb}
use borrow.Author.Tests.{le-leb, ne_eqb, ltb-true, ltb-false, leb-true, leb-false}
use Rattle.std.specs.Prelude.{Some, None, option_and_then}
use Rattle.rules.specs.Records.{kind_of, field_b, field_c}
use Rattle.rules.specs.Grammar.{classes, class}
use Rattle.rules.specs.Lexeme.{ranges, is_plain_lexeme}
use Rattle.laws.specs.Lists.{nth_some}
use Rattle.stream.specs.declared.text.Text.{Text}
use Rattle.stream.specs.Text.{text_in, payload_from, room, part_of, Rest}
use Rattle.lexeme.specs.declared.scan.Scan.{Scan}
use Rattle.lexeme.specs.Sets.{ClassSet, set_of, LexemesReady}
use Rattle.lexeme.specs.Runs.{RunsTo}
use Rattle.lexeme.specs.Scan.{clean, scanned, Tidy}
use Rattle.lexeme.proofs.ScanLaws.{passes, scanned_append, plain_scan, plain_other}
use Rattle.lexeme.proofs.PartLaws.{tidy_clean, tidy_scanned, passes_past}

pub found : (g list : List ℕ) (n : ℕ) → list ≡ classes g → n < length list → class g n ≡ some (get_or list n 0)
unfolding class
found g list n e l = rw (← e) (nth_some list n l)

-- a part of bytes
bytes_part : (xs : List ℕ) (m a : ℕ) → ((k : ℕ) → get_or xs k 0 < 256) → (k : ℕ) → get_or (take m (drop a xs)) k 0 < 256
bytes_part xs m a l k = go (ltb k m) refl
  where
    go : (b : Bool) → ltb k m ≡ b → get_or (take m (drop a xs)) k 0 < 256
    go true e = rw (get_or-take m (drop a xs) k 0 (ltb-true k m e), get_or-drop a xs k 0) (l (a + k))
    go false e =
        let z : get_or (take m (drop a xs)) k 0 ≡ 0 = get_or-eq_default (take m (drop a xs)) 0 (rw length-take (omega (arith, ltb-false k m e))) in
        omega arith

-- what the scan of the whole text says of it
abbrev verdict : List ℕ → ℕ → List ℕ → Text → Bool
verdict g p s t = passes g p (scanned g (ranges g p) (clean 0) (text_in s t))

pub by_scan : (g : List ℕ) (p : ℕ) (s : List ℕ) (t : Text) (r : Bool) → kind_of g p ≡ 1 → r ≡ passes g p (scanned g (ranges g p) (clean 0) (text_in s t))
    → (c : ℕ) → class g c ≡ some p → r ≡ is_plain_lexeme g c (text_in s t)
by_scan g p s t r k e c f = e ∙ sym (plain_scan g c p (text_in s t) f k)

-- a class that is not plain
pub by_kind : (g : List ℕ) (p : ℕ) (text : List ℕ) → (kind_of g p ≡ 1 → ⊥) → (c : ℕ) → class g c ≡ some p → false ≡ is_plain_lexeme g c text
by_kind g p text k c f = sym (plain_other g c p text f k)

-- the verdict on the last state
pub ends_short : (g : List ℕ) (p : ℕ) (state : Scan) → (state.due ≡ 0 → ⊥) → passes g p (Some state) ≡ false
unfolding passes
ends_short g p state d = rw (ne_eqb state.due 0 d)

pub ends_whole : (g : List ℕ) (p : ℕ) (state : Scan) → state.count ≤ field_c g p → state.due ≡ 0 → passes g p (Some state) ≡ leb (field_b g p) state.count
unfolding passes
ends_whole g p state m d = rw (d, le-leb state.count (field_c g p) m) (and-true (leb (field_b g p) state.count))

-- what is left of a text, and the state after what went before
pub record Reading (g : List ℕ) (p : ℕ) (s : List ℕ) (t : Text) (state : Scan) (rest : Text) : Type 0 where
  pub tidy : Tidy state
  pub most : state.count ≤ field_c g p
  pub same : scanned g (ranges g p) (clean 0) (text_in s t) ≡ scanned g (ranges g p) state (text_in s rest)

pub read_start : (g : List ℕ) (p : ℕ) (s : List ℕ) (t : Text) (state : Scan) → state ≡ clean 0 → Reading g p s t state t
read_start g p s t state e = rw e record { tidy = tidy_clean 0; most = omega arith; same = refl }

module _ (g : List ℕ) (p : ℕ) (s : List ℕ) (t : Text) (state : Scan) (rest rest' : Text) (part : List ℕ)
    (h : Reading g p s t state rest) (q : part ≡ part_of s rest) (r : Rest s rest rest') where
  onward : scanned g (ranges g p) (clean 0) (text_in s t) ≡ option_and_then (λ x. scanned g (ranges g p) x (text_in s rest')) (scanned g (ranges g p) state part)
  onward =
      h.same
      ∙ ap (scanned g (ranges g p) state) (r.text ∙ ap (λ (xs : List ℕ). xs ++ text_in s rest') (sym q))
      ∙ scanned_append g (ranges g p) state part (text_in s rest')

  pub read_bad : None ≡ scanned g (ranges g p) state part → false ≡ verdict g p s t
  unfolding passes
  read_bad f = sym (ap (passes g p) (onward ∙ ap (option_and_then (λ x. scanned g (ranges g p) x (text_in s rest'))) (sym f)))

  module _ (next : Scan) (f : Some next ≡ scanned g (ranges g p) state part) where
    onto : scanned g (ranges g p) (clean 0) (text_in s t) ≡ scanned g (ranges g p) next (text_in s rest')
    onto = onward ∙ ap (option_and_then (λ x. scanned g (ranges g p) x (text_in s rest'))) (sym f)

    pub read_turn : ((k : ℕ) → get_or s k 0 < 256) → next.count ≤ field_c g p → Reading g p s t next rest'
    unfolding part_of
    read_turn l m = record {
      tidy = tidy_scanned g (ranges g p) part state next h.tidy (rw q (bytes_part s (min rest.left (room rest.at)) rest.at l)) f;
      most = m;
      same = onto;
    }

    pub read_past : field_c g p < next.count → false ≡ verdict g p s t
    read_past m = sym (ap (passes g p) onto ∙ passes_past g p (ranges g p) (text_in s rest') next m)

-- at the end of the text
module _ (g : List ℕ) (p : ℕ) (s : List ℕ) (t : Text) (state : Scan) (rest : Text) (h : Reading g p s t state rest) (l : rest.left ≤ 0) where
  whole : scanned g (ranges g p) (clean 0) (text_in s t) ≡ Some state
  unfolding text_in payload_from scanned
  whole = let e : rest.left ≡ 0 = omega arith in h.same ∙ rw e

  pub read_short : (state.due ≡ 0 → ⊥) → eqb state.due 0 ≡ verdict g p s t
  read_short d = ne_eqb state.due 0 d ∙ sym (ap (passes g p) whole ∙ ends_short g p state d)

  pub read_whole : state.due ≡ 0 → leb (field_b g p) state.count ≡ verdict g p s t
  read_whole d = sym (ap (passes g p) whole ∙ ends_whole g p state h.most d)

-- one run, from the beginning of a text to its end
module _ (g : List ℕ) (p : ℕ) (set₁ s part : List ℕ) (t rest : Text) (r : ClassSet g p set₁) (to n : ℕ) (h : RunsTo set₁ part 0 to n) (l : length part ≤ to)
    (q : part ≡ part_of s t) (f : Rest s t rest) where
  ran_whole : Some (clean n) ≡ scanned g (ranges g p) (clean 0) part
  unfolding scanned
  ran_whole =
      let e : to ≡ length part = omega (arith, h.inside) in
      sym (h.same g p r 0 ∙ rw (e, drop-length, zero-add))

  run_whole : ((k : ℕ) → get_or s k 0 < 256) → rest.left ≡ 0 → (leb (field_b g p) n && leb n (field_c g p)) ≡ verdict g p s t
  run_whole b z = go (leb n (field_c g p)) refl
    where
      go : (x : Bool) → leb n (field_c g p) ≡ x → (leb (field_b g p) n && x) ≡ verdict g p s t
      go true e =
          let m : n ≤ field_c g p = leb-true n (field_c g p) e in
          and-true (leb (field_b g p) n)
          ∙ read_whole g p s t (clean n) rest (read_turn g p s t (clean 0) t rest part (read_start g p s t (clean 0) refl) q f (clean n) ran_whole b m) (omega arith) refl
      go false e =
          let m : field_c g p < n = leb-false n (field_c g p) e in
          and-false (leb (field_b g p) n)
          ∙ read_past g p s t (clean 0) t rest part (read_start g p s t (clean 0) refl) q f (clean n) ran_whole m

  -- as the code has it
  module _ (bytes : (k : ℕ) → get_or s k 0 < 256) (z : rest.left ≡ 0) (b m : ℕ) (x : b ≡ field_b g p) (y : m ≡ field_c g p) (v : Bool) (u : v ≡ leb b n) where
    told : (v && leb n m) ≡ verdict g p s t
    told = rw (u, x, y) (run_whole bytes z)

    pub run_enough : v ≡ true → leb n m ≡ verdict g p s t
    run_enough e = ap (λ (w : Bool). w && leb n m) (sym e) ∙ told

    pub run_few : v ≡ false → v ≡ verdict g p s t
    run_few e = e ∙ ap (λ (w : Bool). w && leb n m) (sym e) ∙ told

-- by the class's number
pub set_room : (g list table : List ℕ) (n : ℕ) → LexemesReady g list table → n < length list → 128 * n + 128 ≤ length table
unfolding set_of class
set_room g list table n r l =
    let e : class g n ≡ some (get_or list n 0) = found g list n r.heads l in
    omega (arith, simp (length-take, length-drop) at (r.sets.each n (get_or list n 0) e).size)

pub set_there : (g list table : List ℕ) (n p : ℕ) → LexemesReady g list table → n < length list → p ≡ get_or list n 0 → ClassSet g p (take (128 * n + 128 - 128 * n) (drop (128 * n) table))
unfolding set_of
set_there g list table n p r l k =
    let e : 128 * n + 128 - 128 * n ≡ 128 = omega arith in
    rw e (r.sets.each n p (found g list n r.heads l ∙ ap some (sym k)))
