-- Laws of the frames in the scratch, and of the variables that an expand passes on. Assumes nothing.
use Prim.Native.Nat.{ℕ, ◌+◌, ◌-◌, ◌≤◌, ◌<◌}
use mathlib.Core.Path.{◌≡◌, refl, sym, ap, ◌∙◌}
use mathlib.Core.List.{List, [], ◌∷◌, ◌++◌, append-nil, append_assoc}
use mathlib.Core.Bool.{Bool, true, false, false≢true}
use mathlib.Core.Option.{Option, none, some}
use native.Mathlib.Omega.{arith}
use lib.ListN.{length, take, drop}
use lib.Seq.{take-take, take-add, drop_at, length-take-le}
use Rattle.rules.specs.Faults.{on_found, only_if}
use Rattle.rules.specs.Records.{row}
use Rattle.rules.specs.Walk.{path_value, path_values}
use Rattle.laws.specs.Faults.{on_none, on_some}
use Rattle.laws.specs.Rows.{row_more, row_done, row_all}
use Rattle.records.specs.Children.{Stands}
use Rattle.walk.specs.Frames.{frame, Held, Bound, Passed}
use Rattle.walk.specs.Asks.{Follows}
use Rattle.walk.proofs.PathLaws.{held_more, held_none}

-- frames

frame_of : (base vars : ℕ) (s : List ℕ) → base ≤ length s → frame base vars s ≡ drop base (take (base + vars) s)
frame_of base vars s h = sym (rw take-add (drop_at (take base s) (take vars (drop base s)) base (length-take-le base s h)))

pub take_less : (m n : ℕ) (a b : List ℕ) → m ≤ n → take n a ≡ take n b → take m a ≡ take m b
take_less m n a b h e = sym (take-take m n a h) ∙ ap (take m) e ∙ take-take m n b h

-- the numbers up to a frame's end are as they were, so they are the same variables
pub frame_kept : (base vars : ℕ) (s r : List ℕ) → base + vars ≤ length s → length r ≡ length s → take (base + vars) r ≡ take (base + vars) s → frame base vars r ≡ frame base vars s
frame_kept base vars s r h e k = frame_of base vars r (omega arith) ∙ ap (drop base) k ∙ sym (frame_of base vars s (omega arith))

-- paths in a row

module _ (t v env : List ℕ) (n p i : ℕ) where
  values_go : i < n → (w : ℕ) → path_value t v env (p + i) ≡ some w
      → path_values t v env (row (n - i) (p + i)) ≡ on_found (path_values t v env (row (n - (i + 1)) (p + (i + 1)))) none (λ ws. some (w ∷ ws))
  unfolding path_values on_found
  values_go h w e = rw (row_more n p i h, e)

  values_stop : i < n → path_value t v env (p + i) ≡ none → path_values t v env (row (n - i) (p + i)) ≡ none
  unfolding path_values on_found
  values_stop h e = rw (row_more n p i h, e)

  values_done : n ≤ i → path_values t v env (row (n - i) (p + i)) ≡ some []
  unfolding path_values
  values_done h = rw (row_done n p i h)

-- they are passed on: those that were found, and then what is left, are all of them

on_same : (o : Option (List ℕ)) → on_found o none (λ ws. some ([] ++ ws)) ≡ o
unfolding on_found
on_same none = refl
on_same (some ws) = refl

on_cons : (o : Option (List ℕ)) (xs : List ℕ) (w : ℕ) → on_found (on_found o none (λ ws. some (w ∷ ws))) none (λ ws. some (xs ++ ws)) ≡ on_found o none (λ ws. some ((xs ++ w ∷ []) ++ ws))
unfolding on_found
on_cons none xs w = refl
on_cons (some ws) xs w = ap some (sym (append_assoc xs (w ∷ []) ws))

pub record Passing (t v : List ℕ) (base vars p n : ℕ) (stored : Bool) (s₀ s : List ℕ) (i : ℕ) : Type 0 where
  pub most : i ≤ n
  pub found : List ℕ
  pub same : on_found (path_values t v (frame base vars s₀) (row (n - i) (p + i))) none (λ ws. some (found ++ ws)) ≡ path_values t v (frame base vars s₀) (row n p)
  pub held : Held v found
  pub next : stored ≡ true → frame (base + vars) i s ≡ found
  pub kept : take (base + vars) s ≡ take (base + vars) s₀
  pub lens : length s ≡ length s₀

pub passing_start : (t v : List ℕ) (base vars p n : ℕ) (stored : Bool) (s₀ : List ℕ) → Passing t v base vars p n stored s₀ s₀ 0
passing_start t v base vars p n stored s₀ = record {
  most = omega arith;
  found = [];
  same = on_same _ ∙ ap (path_values t v (frame base vars s₀)) (row_all n p);
  held = held_none v;
  next = λ z. refl;
  kept = refl;
  lens = refl;
}

module _ {t v firsts places : List ℕ} {base vars p n : ℕ} {stored : Bool} {s₀ s : List ℕ} {i : ℕ} (inv : Passing t v base vars p n stored s₀ s i) (f : Follows t v firsts places base vars s₀) where
  same_frame : frame base vars s ≡ frame base vars s₀
  same_frame = frame_kept base vars s₀ s f.inside inv.lens inv.kept

  pub passing_follows : Follows t v firsts places base vars s
  passing_follows = record { sized = f.sized; value_lent = f.value_lent; inside = omega (arith, f.inside, inv.lens); held = rw same_frame f.held }

  -- what a path finds now, it found at the start
  found_before : {o : Option ℕ} → path_value t v (frame base vars s) (p + i) ≡ o → path_value t v (frame base vars s₀) (p + i) ≡ o
  found_before found = rw same_frame at found

  module _ (more : i < n) where
    pub passing_stop : path_value t v (frame base vars s) (p + i) ≡ none → Passed t v base vars p n stored false s₀ s
    unfolding only_if
    passing_stop found = record {
      values = [];
      is = sym inv.same ∙ on_none none _ (values_stop t v (frame base vars s₀) n p i more (found_before found));
      held = held_none v;
      next = λ z. absurd (false≢true z);
      kept = inv.kept;
    }

    passing_more : (w : ℕ) → path_value t v (frame base vars s) (p + i) ≡ some w → Stands v w → (s' : List ℕ) → length s' ≡ length s
        → (stored ≡ true → frame (base + vars) (i + 1) s' ≡ frame (base + vars) i s ++ w ∷ []) → take (base + vars) s' ≡ take (base + vars) s
        → Passing t v base vars p n stored s₀ s' (i + 1)
    passing_more w found l s' lens next kept = record {
      most = omega arith;
      found = inv.found ++ w ∷ [];
      same = sym (on_cons _ inv.found w) ∙ ap (λ (o : Option (List ℕ)). on_found o none (λ ws. some (inv.found ++ ws))) (sym (values_go t v (frame base vars s₀) n p i more w (found_before found))) ∙ inv.same;
      held = held_more v inv.found w inv.held l;
      next = λ z. next z ∙ ap (λ (xs : List ℕ). xs ++ w ∷ []) (inv.next z);
      kept = kept ∙ inv.kept;
      lens = lens ∙ inv.lens;
    }

    pub passing_stored : (w : ℕ) → path_value t v (frame base vars s) (p + i) ≡ some w → Stands v w → (s' : List ℕ) → length s' ≡ length s → Bound (base + vars) i w s s'
        → Passing t v base vars p n stored s₀ s' (i + 1)
    passing_stored w found l s' lens b =
        passing_more w found l s' lens (λ z. b.more) (take_less (base + vars) (base + vars + i) s' s (omega arith) b.kept)

    pub passing_seen : (w : ℕ) → path_value t v (frame base vars s) (p + i) ≡ some w → Stands v w → stored ≡ false → Passing t v base vars p n stored s₀ s (i + 1)
    passing_seen w found l z = passing_more w found l s refl (λ y. absurd (false≢true (sym z ∙ y))) refl

  pub passing_done : n ≤ i → Passed t v base vars p n stored true s₀ s
  unfolding only_if
  passing_done h =
      let e : i ≡ n = omega (arith, inv.most) in
      record {
        values = inv.found;
        is = sym inv.same ∙ on_some none _ (values_done t v (frame base vars s₀) n p i h) ∙ ap some (append-nil inv.found);
        held = inv.held;
        next = λ y z. rw (← e) (inv.next z);
        kept = inv.kept;
      }
