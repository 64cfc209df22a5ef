-- Things that are read one after the other, each answering the place after it; and streams that refusal 1 lets through.
use Rattle.std.specs.Prelude.{ℕ, zero, suc, ◌+◌, ◌-◌, ◌%◌, ◌≤◌, ◌<◌, ◌≡◌, refl, List, Bool, true, length, leb}
use Rattle.std.proofs.Math.Option.{Option, none, some, none-ne-some, some-injective}
use native.Mathlib.Omega.{arith}
use Rattle.std.proofs.Common.{leb-true, eqb-true}
use Rattle.rules.specs.Faults.{on_found, only_if}
use Rattle.rules.specs.Blocks.{stream_length}
use Rattle.rules.specs.Records.{record_count}
use Rattle.rules.specs.Layout.{then_read, in_row}
use Rattle.laws.specs.Faults.{need_none, and_true, only_if_iff}
use Rattle.laws.specs.Rows.{one_less}

pub only_some : {A : Type 0} (b : Bool) (x y : A) → only_if b x ≡ some y → (b ≡ true) × (x ≡ y)
only_some b x y e = (only_if_iff b x y).0 e

pub then_some : (o : Option ℕ) (next : ℕ → Option ℕ) (q : ℕ) → then_read o next ≡ some q → (a : ℕ) × (o ≡ some a) × (next a ≡ some q)
unfolding then_read on_found
then_some none next q e = absurd (none-ne-some q e)
then_some (some a) next q e = (a, refl, e)

pub some_then : (o : Option ℕ) (next : ℕ → Option ℕ) (q : ℕ) → o ≡ some q → then_read o next ≡ next q
unfolding then_read on_found
some_then o next q h = rw h

-- a row: the first, and then the rest
pub in_row_some : (one : ℕ → Option ℕ) (n p q : ℕ) → in_row one (suc n) p ≡ some q → (r : ℕ) × (one p ≡ some r) × (in_row one n r ≡ some q)
unfolding in_row
in_row_some one n p q e = then_some (one p) (in_row one n) q e

pub in_row_none : (one : ℕ → Option ℕ) (p q : ℕ) → in_row one 0 p ≡ some q → p ≡ q
unfolding in_row
in_row_none one p q e = some-injective p q e

pub in_row_one : (one : ℕ → Option ℕ) (p q : ℕ) → one p ≡ some q → in_row one 1 p ≡ some q
unfolding in_row then_read on_found
in_row_one one p q e = rw e

pub in_row_grows : (one : ℕ → Option ℕ) → ((p q : ℕ) → one p ≡ some q → p < q) → (n p q : ℕ) → in_row one n p ≡ some q → p + n ≤ q
in_row_grows one f zero p q e = let h : p ≡ q = in_row_none one p q e in omega arith
in_row_grows one f (suc n) p q e =
    let h = in_row_some one n p q e in
    let a : p < h.0 = f p h.0 h.1 in
    let b : h.0 + n ≤ q = in_row_grows one f n h.0 q h.2 in
    omega arith

-- n things in a row, of which k are read
module _ (one : ℕ → Option ℕ) (n k p : ℕ) where
  pub in_row_go : (q : ℕ) → k < n → one p ≡ some q → in_row one (n - k) p ≡ in_row one (n - (k + 1)) q
  unfolding in_row then_read on_found
  in_row_go q l e = rw (one_less n k l, in_row, e)

  pub in_row_broken : k < n → one p ≡ none → in_row one (n - k) p ≡ none
  unfolding in_row then_read on_found
  in_row_broken l e = rw (one_less n k l, in_row, e)

  pub in_row_done : n ≤ k → in_row one (n - k) p ≡ some p
  unfolding in_row
  in_row_done l = let z : n - k ≡ 0 = omega arith in rw z

-- refusal 1 leaves whole blocks, at most 128, and so at most 8,064 records
pub whole_blocks : (s : List ℕ) → stream_length s ≡ none → (length s ≤ 65536) × (length s % 512 ≡ 0)
unfolding stream_length
whole_blocks s e =
    let h = and_true (leb 1 (length s)) _ (need_none _ _ e) in
    let k = and_true (leb (length s) 65536) _ h.1 in
    (leb-true _ _ k.0, eqb-true _ _ k.1)

pub few_records : (s : List ℕ) → stream_length s ≡ none → record_count s ≤ 8064
unfolding record_count
few_records s e = let w = whole_blocks s e in omega (arith, w.0)
