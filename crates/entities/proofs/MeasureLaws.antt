-- The plain text, measured and written.
use Prim.Native.Nat.{ℕ, zero, suc, ◌+◌, ◌-◌, ◌≤◌, ◌<◌}
use mathlib.Core.Path.{◌≡◌, refl, ap, sym, ◌∙◌}
use mathlib.Core.List.{List, [], ◌∷◌}
use mathlib.Core.Bool.{Bool, true, false}
use mathlib.Core.Option.{Option, none, some}
use native.Mathlib.Omega.{arith}
use native.Mathlib.Nat.{add-zero}
use lib.ListN.{length, drop, get_or, length-drop, drop_of_length-le}
use lib.Seq.{drop-drop}
use lib.Dec.{eqb}
use borrow.Author.Tests.{eqb-true, eqb-false}
use Rattle.std.specs.Prelude.{Option as Maybe, Some, None}
use Rattle.std.specs.Bool.{then_some}
use Rattle.rules.specs.Faults.{on_found, only_if}
use Rattle.rules.specs.Escape.{unescaped_after, unescaped}
use Rattle.rules.specs.Lexeme.{next_byte}
use Rattle.laws.specs.FirstBytes.{first_plain}
use Rattle.entities.specs.declared.entity.Plain.{Plain}
use Rattle.entities.specs.declared.utf8.Utf8.{Utf8}
use Rattle.entities.specs.Entity.{plain_in, Read, Begun}
use Rattle.entities.specs.Utf8.{calm, next_shape, shapes, is_end}
use Rattle.entities.specs.Measured.{length_from, measured, Letter, Letters}
use Rattle.entities.proofs.PlainLaws.{plain_of_lem, own_form, read_some}
use Rattle.entities.proofs.Utf8Laws.{shape_between}

-- What is broken stays broken

shapes_bad : (x : List ℕ) → is_end (shapes None x) ≡ false
unfolding shapes is_end
shapes_bad [] = refl
shapes_bad (b ∷ bs) = shapes_bad bs

-- A byte more

length_turn : (u : Utf8) (n b : ℕ) (o : Option (List ℕ)) → length_from (Some u) n (on_found o none λ x. some (b ∷ x)) ≡ length_from (next_shape u b) (n + 1) o
unfolding length_from on_found shapes
length_turn u n b none = refl
length_turn u n b (some x) = ap (only_if (is_end (shapes (next_shape u b) x))) (longer (length x))
  where
    longer : (m : ℕ) → n + suc m ≡ n + 1 + m
    longer m = omega arith

length_bad : (n : ℕ) (o : Option (List ℕ)) → length_from None n o ≡ none
unfolding length_from on_found only_if
length_bad n none = refl
length_bad n (some x) = rw (shapes_bad x)

-- What the measuring keeps: the length from here on is that of the whole
pub record Measuring (text : List ℕ) (u : Utf8) (n at : ℕ) : Type 0 where
  pub inside : at ≤ length text
  pub fewer : n ≤ at
  pub same : length_from (Some u) n (unescaped (drop at text)) ≡ length_from (Some calm) 0 (unescaped text)

drop_some : (text : List ℕ) (at : ℕ) → at < length text → 1 ≤ length (drop at text)
drop_some text at l = rw length-drop (omega arith)

-- A run of letters

-- between two characters it doesn't matter how the state came there
settled : (u : Utf8) (n : ℕ) (o : Option (List ℕ)) → u.due ≡ 0 → length_from (Some u) n o ≡ length_from (Some calm) n o
unfolding length_from on_found shapes is_end next_shape next_byte
settled u n none d = refl
settled u n (some []) d = rw d
settled u n (some (b ∷ bs)) d = rw d

letter_calm : (b : ℕ) → b < 0x80 → next_shape calm b ≡ Some calm
unfolding next_shape next_byte
letter_calm b l = rw (first_plain b l) (shape_between _)

-- one letter
letter_turn : (text : List ℕ) (at n : ℕ) → at < length text → Letter (get_or text at 0)
    → length_from (Some calm) n (unescaped (drop at text)) ≡ length_from (Some calm) (n + 1) (unescaped (drop (at + 1) text))
letter_turn text at n l h =
    let p = plain_of_lem (drop at text) (Some (record { byte = get_or text at 0; length = 1 })) (drop_some text at l) (own_form text at l refl h.itself) in
    ap (length_from (Some calm) n) p.one
    ∙ length_turn calm n (get_or text at 0) (unescaped (drop 1 (drop at text)))
    ∙ rw (letter_calm (get_or text at 0) h.small, drop-drop 1 at text)

letters_run : (text : List ℕ) (k at n : ℕ) → at + k ≤ length text → ((i : ℕ) → at ≤ i → i < at + k → Letter (get_or text i 0))
    → length_from (Some calm) n (unescaped (drop at text)) ≡ length_from (Some calm) (n + k) (unescaped (drop (at + k) text))
letters_run text zero at n l h = rw (add-zero, add-zero)
letters_run text (suc k) at n l h =
    let a : at + 1 + k ≡ at + suc k = omega arith in
    let b : n + 1 + k ≡ n + suc k = omega arith in
    letter_turn text at n (omega arith) (h at (omega arith) (omega arith))
    ∙ letters_run text k (at + 1) (n + 1) (omega arith) (λ i x y. h i (omega arith) (omega arith))
    ∙ rw (a, b)

measure_run : {text : List ℕ} {u : Utf8} {n at r : ℕ} → Measuring text u n at → Letters text at u.due r → Measuring text u (n + (r - at)) r
measure_run {text} {u} {n} {at} {r} h p = record {
  inside = p.inside;
  fewer = omega (arith, h.fewer, p.onward);
  same = go (eqb u.due 0) refl;
}
  where
    go : (b : Bool) → eqb u.due 0 ≡ b → length_from (Some u) (n + (r - at)) (unescaped (drop r text)) ≡ length_from (Some calm) 0 (unescaped text)
    go false e =
        let z : r ≡ at = p.idle (eqb-false _ _ e) in
        let k : n + (r - at) ≡ n = omega arith in
        rw (k, z) h.same
    go true e =
        let d : u.due ≡ 0 = eqb-true _ _ e in
        let k : at + (r - at) ≡ r = omega (arith, p.onward) in
        settled u (n + (r - at)) _ d
        ∙ sym (letters_run text (r - at) at n (omega (arith, p.onward, p.inside)) (λ i x y. p.letters i x (omega (arith, p.onward))) ∙ rw k)
        ∙ sym (settled u n _ d)
        ∙ h.same

pub unescaped_nothing : unescaped [] ≡ some []
unfolding unescaped unescaped_after
unescaped_nothing = refl

ended_by : (t : Bool) (n : ℕ) → measured (then_some t n) ≡ only_if t n
unfolding only_if
ended_by true n = refl
ended_by false n = refl

-- What a turn of the loop makes of it: first a run of letters, and then a byte more, or the end
module _ {text : List ℕ} {u : Utf8} {n₀ at₀ at : ℕ} (g : Measuring text u n₀ at₀) (q : Letters text at₀ u.due at) where
  h : Measuring text u (n₀ + (at - at₀)) at
  h = measure_run g q

  pub measure_end : at ≡ length text → {m : Maybe ℕ} → m ≡ then_some (eqb u.due 0) (n₀ + (at - at₀)) → measured m ≡ length_from (Some calm) 0 (unescaped text)
  unfolding length_from on_found shapes is_end
  measure_end l e =
      let k : length text ≤ at = omega arith in
      rw (e, ended_by (eqb u.due 0) (n₀ + (at - at₀))) (sym (rw (drop_of_length-le text {i = at} k, unescaped_nothing, add-zero)) ∙ h.same)

  pub measure_none : (at ≡ length text → ⊥) → plain_in (drop at text) ≡ none → {m : Maybe ℕ} → m ≡ None → measured m ≡ length_from (Some calm) 0 (unescaped text)
  unfolding length_from on_found
  measure_none l p e = rw e (sym (rw (plain_of_lem (drop at text) None (drop_some text at (omega (arith, q.inside))) p)) ∙ h.same)

  module _ {r : Plain} (p : Read (drop at text) r) where
    begun : Begun (drop at text) r
    begun = plain_of_lem (drop at text) (Some r) (read_some (drop at text) p) p

    turn : length_from (Some u) (n₀ + (at - at₀)) (unescaped (drop at text)) ≡ length_from (next_shape u r.byte) (n₀ + (at - at₀) + 1) (unescaped (drop (at + r.length) text))
    turn =
        ap (length_from (Some u) (n₀ + (at - at₀))) begun.one
        ∙ length_turn u (n₀ + (at - at₀)) r.byte (unescaped (drop r.length (drop at text)))
        ∙ ap (λ (x : List ℕ). length_from (next_shape u r.byte) (n₀ + (at - at₀) + 1) (unescaped x)) (drop-drop r.length at text)

    pub measure_inside : at + r.length ≤ length text
    measure_inside = omega (arith, begun.inside, q.inside, length-drop at text)

    pub measure_grows : at₀ < at + r.length
    measure_grows = omega (arith, begun.onward, q.onward)

    pub measure_bad : None ≡ next_shape u r.byte → {m : Maybe ℕ} → m ≡ None → measured m ≡ length_from (Some calm) 0 (unescaped text)
    measure_bad e f = rw f (sym (turn ∙ rw (← e) (length_bad (n₀ + (at - at₀) + 1) _)) ∙ h.same)

    pub measure_turn : {v : Utf8} → Some v ≡ next_shape u r.byte → Measuring text v (n₀ + (at - at₀) + 1) (at + r.length)
    measure_turn e = record {
      inside = measure_inside;
      fewer = omega (arith, h.fewer, begun.onward);
      same = rw e (sym turn ∙ h.same);
    }

-- The run of letters, letter by letter
