-- The steps of a path, from its record: they are the field numbers that the stream holds.
use Prim.Native.Nat.{ℕ, zero, suc, ◌+◌, ◌-◌, ◌/◌, ◌%◌, min, ◌≤◌, ◌<◌}
use mathlib.Core.Path.{◌≡◌, refl, sym, ap, ◌∙◌}
use mathlib.Core.List.{List, [], ◌∷◌, append-nil}
use mathlib.Core.Bool.{Bool, true, false}
use mathlib.Core.Option.{none}
use native.Mathlib.Omega.{arith}
use native.Mathlib.Numerals.{add-one}
use lib.ListN.{length, get_or, take, drop, length-take, length-drop, get_or-eq_default, drop_of_length-le}
use lib.Seq.{get_or-take, get_or-drop, ext_get_or, drop-cons}
use lib.Dec.{ltb}
use borrow.Author.Tests.{ltb-true, ltb-false}
use Rattle.rules.specs.Blocks.{stream_length}
use Rattle.rules.specs.Records.{base, byte_of, records_from}
use Rattle.rules.specs.Templates.{field_numbers}
use Rattle.laws.specs.Reads.{whole_blocks}
use Rattle.stream.specs.Record.{Fetched}
use Rattle.stream.specs.declared.record.Record.{Record}
use Rattle.stream.proofs.RecordLaws.{eight_bytes}
use Rattle.records.specs.Paths.{steps_in, StepIn}

-- bytes 3 to 7 of a path's record
unfoldable pub step_bytes : Record → List ℕ
step_bytes r = r.b / 256 ∷ r.c % 256 ∷ r.c / 256 ∷ r.d % 256 ∷ r.d / 256 ∷ []

pub steps_count : (r : Record) → length (steps_in r) ≡ min (r.b % 256) 5
unfolding steps_in
steps_count r = simp length-take

step_byte : (r : Record) (i : ℕ) → i < length (steps_in r) → get_or (step_bytes r) i 0 ≡ get_or (steps_in r) i 0
unfolding steps_in step_bytes
step_byte r i l = let h = steps_count r in sym (get_or-take (r.b % 256) (step_bytes r) i 0 (omega (arith, h, l)))

pub step_number : (r : Record) (i k j : ℕ) → i < length (steps_in r) → i ≡ k → j ≡ get_or (step_bytes r) k 0 → StepIn r i j
step_number r i k j l e h = record { is = h ∙ ap (λ (n : ℕ). get_or (step_bytes r) n 0) (sym e) ∙ step_byte r i l }

pub step_last : (r : Record) (i j : ℕ) → i < length (steps_in r) → (i ≡ 0 → ⊥) → (i ≡ 1 → ⊥) → (i ≡ 2 → ⊥) → (i ≡ 3 → ⊥) → j ≡ r.d / 256 → StepIn r i j
unfolding step_bytes
step_last r i j l a b c d h = step_number r i 4 j l (last i (omega (arith, steps_count r, l)) a b c d) h
  where
    last : (i : ℕ) → i < 5 → (i ≡ 0 → ⊥) → (i ≡ 1 → ⊥) → (i ≡ 2 → ⊥) → (i ≡ 3 → ⊥) → i ≡ 4
    last zero l a b c d = absurd (a refl)
    last (suc zero) l a b c d = absurd (b refl)
    last (suc (suc zero)) l a b c d = absurd (c refl)
    last (suc (suc (suc zero))) l a b c d = absurd (d refl)
    last (suc (suc (suc (suc i)))) l a b c d = omega arith

-- the bytes of a record that lies in the stream
record_bytes_lem : (t : List ℕ) (p : ℕ) → records_from t 1 p ≡ take 8 (drop (base p) t)
unfolding records_from
record_bytes_lem t p = append-nil (take 8 (drop (base p) t))

-- bytes 3 to 7 of the record at p, as far as it lies in the stream: past the end there is no step
steps_room : (t : List ℕ) (p : ℕ) → stream_length t ≡ none → (b : Bool) → ltb (p / 63) (length t / 512) ≡ b
    → min (byte_of t p 2) (min 8 (length t - base p) - 3) ≡ min (byte_of t p 2) 5
unfolding base byte_of
steps_room t p s true e = let w = whole_blocks t s in let l : p / 63 < length t / 512 = ltb-true _ _ e in let k : min 8 (length t - base p) - 3 ≡ 5 = omega (arith, w.0, w.1, l) in rw k
steps_room t p s false e =
    let w = whole_blocks t s in
    let l : length t / 512 ≤ p / 63 = ltb-false _ _ e in
    let k : get_or t (base p + 2) 0 ≡ 0 = get_or-eq_default t 0 (omega (arith, w.0, w.1, l)) in
    rw k (omega arith)

module _ (t : List ℕ) (p : ℕ) (r : Record) (f : Fetched t p r) (s : stream_length t ≡ none) where
  numbers_count : length (field_numbers t p) ≡ length (steps_in r)
  unfolding field_numbers
  numbers_count =
      let e = eight_bytes t p r f in
      rw (record_bytes_lem t p) (simp (length-take, length-drop))
      ∙ steps_room t p s (ltb (p / 63) (length t / 512)) refl
      ∙ ap (λ (m : ℕ). min m 5) e.byte2
      ∙ sym (steps_count r)

  number_at : (i : ℕ) → i < length (steps_in r) → get_or (field_numbers t p) i 0 ≡ byte_of t p (3 + i)
  unfolding field_numbers byte_of
  number_at i h =
      let e = eight_bytes t p r f in
      let k : i < byte_of t p 2 = omega (arith, steps_count r, h, e.byte2) in
      rw (record_bytes_lem t p, get_or-take (byte_of t p 2) (drop 3 (take 8 (drop (base p) t))) i 0 k, get_or-drop, get_or-take 8 (drop (base p) t) (3 + i) 0 (omega (arith, steps_count r, h)), get_or-drop)

  byte_at : (i : ℕ) → i < 5 → get_or (step_bytes r) i 0 ≡ byte_of t p (3 + i)
  unfolding step_bytes
  byte_at zero h = sym (eight_bytes t p r f).byte3
  byte_at (suc zero) h = sym (eight_bytes t p r f).byte4
  byte_at (suc (suc zero)) h = sym (eight_bytes t p r f).byte5
  byte_at (suc (suc (suc zero))) h = sym (eight_bytes t p r f).byte6
  byte_at (suc (suc (suc (suc zero)))) h = sym (eight_bytes t p r f).byte7
  byte_at (suc (suc (suc (suc (suc i))))) h = absurd (omega arith)

  same_step : (i : ℕ) → i < length (steps_in r) → get_or (steps_in r) i 0 ≡ get_or (field_numbers t p) i 0
  same_step i h = sym (step_byte r i h) ∙ byte_at i (omega (arith, steps_count r, h)) ∙ sym (number_at i h)

  -- the steps that the code reads are the field numbers
  pub steps_are : steps_in r ≡ field_numbers t p
  steps_are = ext_get_or 0 (steps_in r) (field_numbers t p) (sym numbers_count) same_step

-- following them: what is left after i of n steps
pub steps_done : (r : Record) (n i : ℕ) → n ≡ length (steps_in r) → n ≤ i → drop i (steps_in r) ≡ []
steps_done r n i e l = drop_of_length-le (steps_in r) {i = i} (omega arith)

pub steps_more : (r : Record) (n i j : ℕ) → n ≡ length (steps_in r) → i < n → StepIn r i j → drop i (steps_in r) ≡ j ∷ drop (i + 1) (steps_in r)
steps_more r n i j e l h = drop-cons (steps_in r) i 0 (omega arith) ∙ rw (add-one i, ← h.is)
