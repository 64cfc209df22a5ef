-- The separator before an item, and what comes after it. Assumes nothing.
use Prim.Native.Nat.{ℕ, zero, suc, ◌+◌, ◌≤◌}
use mathlib.Core.Path.{◌≡◌, refl, sym, ◌∙◌}
use mathlib.Core.List.{List, append-nil}
use mathlib.Core.Bool.{true, false, true≢false}
use native.Mathlib.Omega.{arith}
use native.Mathlib.Nat.{add-zero}
use lib.ListN.{length, take}
use lib.Seq.{length-take-le}
use borrow.Author.Tests.{le-leb, ne_eqb, eqb-true, not-false}
use Rattle.rules.specs.Records.{text_of}
use Rattle.rules.specs.Walk.{State, End, done, ended, stuck, and_then, write, separate}
use Rattle.walk.specs.declared.at.At.{At}
use Rattle.walk.specs.declared.separator.Separator.{Separator}
use Rattle.walk.specs.declared.state.Run.{Run}
use Rattle.walk.specs.Nodes.{after_at, ended_at, placed_at, write_at, filled_at, due_at, separate_at}
use Rattle.walk.specs.Run.{state_of, RanFrom}
use Rattle.walk.proofs.RunLaws.{view_going, after_after, ran_there}

-- one after the other, and a third after these
pub then_then : (e : End) (next last : State → End) → and_then (and_then e next) last ≡ and_then e (λ s. and_then (next s) last)
unfolding and_then
then_then (done s) next last = refl
then_then (ended l p s) next last = refl
then_then stuck next last = refl

-- what stands before an item: its separator, or nothing where none is due; then the run goes on
pub record Apart (g : List ℕ) (x : Separator) (before : ℕ) (at : At) (out : List ℕ) (u : Run) (out' : List ℕ) : Type 0 where
  pub ran : RanFrom (separate_at g x before at out) at u out out'
  pub goes : u.number ≡ 0
  pub len : length out' ≡ length out

module _ (g : List ℕ) (x : Separator) (at : At) (out : List ℕ) (room : at.bytes ≤ length out) where
  -- before the first item nothing is written, nor by an empty separator
  nothing : (n : ℕ) → due_at x n ≡ false → separate_at g x n at out ≡ done (state_of at.steps at.bytes out)
  unfolding separate write filled_at text_of due_at
  nothing zero e = refl
  nothing (suc n) e =
      let z : x.length ≡ 0 = eqb-true x.length 0 (not-false _ (rw (ne_eqb (suc n) 0 (λ z. omega arith)) at e)) in
      let l : length (take at.bytes out) + 0 ≤ length out = rw (add-zero, length-take-le at.bytes out room) room in
      rw (z, le-leb _ _ l, append-nil)

  -- so the run so far goes on, whatever its place
  pub apart_none : (n : ℕ) → due_at x n ≡ false → {r : Run} → r.number ≡ 0 → r.steps ≡ at.steps → r.bytes ≡ at.bytes → Apart g x n at out r out
  apart_none n e {r} z es eb = record {
    ran = record {
      meets = view_going r out z ∙ rw (es, eb) (sym (nothing n e));
      grown = record { steps_grow = omega arith; bytes_grow = omega arith; inside = omega arith; rest = refl };
    };
    goes = z;
    len = refl;
  }

-- past it: none was due, or one was written
pub past_none : (g : List ℕ) (x : Separator) (at : At) {here : At} {out : List ℕ} → here ≡ after_at at (ended_at 0 here) → here.bytes ≤ length out → (n : ℕ) → due_at x n ≡ false
    → {past : At} {out' : List ℕ} → out' ≡ out → past ≡ here → (Apart g x n here out (ended_at 0 past) out') × (past ≡ after_at at (ended_at 0 past))
past_none g x at {here = here} {out = out} is room n d eo e = rw (eo, e) (apart_none g x here out room n d {r = ended_at 0 here} refl refl refl, is)

pub past_written : {g : List ℕ} {x : Separator} (at : At) {here : At} {out : List ℕ} {n : ℕ} {u : Run} {out₁ : List ℕ} → here ≡ after_at at (ended_at 0 here)
    → RanFrom (separate_at g x n here out) here u out out₁ → length out₁ ≡ length out → u.number ≡ 0
    → {there : At} → there ≡ after_at here u → {past : At} {out' : List ℕ} → out' ≡ out₁ → past ≡ there
    → (Apart g x n here out (ended_at 0 past) out') × (past ≡ after_at at (ended_at 0 past))
past_written at {here = here} {u = u} is v len z e₂ eo e = rw (eo, e) (record { ran = ran_there here v z e₂; goes = refl; len = len }, after_after at here u is e₂)

-- any other is written for the sequence
pub due_later : (x : Separator) (n : ℕ) → due_at x n ≡ true → n ≡ 0 → ⊥
unfolding due_at
due_later x zero e z = true≢false (sym e)
due_later x (suc n) e z = omega arith

pub separate_written : (g : List ℕ) (x : Separator) (at : At) (out : List ℕ) (n : ℕ) → (n ≡ 0 → ⊥) → write_at (placed_at at x.sequence) (text_of g x.length x.element) out ≡ separate_at g x n at out
unfolding separate filled_at
separate_written g x at out zero h = absurd (h refl)
separate_written g x at out (suc n) h = refl

-- there: at the sequence's place
pub from_there : (at : At) (node : ℕ) (x : List ℕ) {there : At} → there ≡ placed_at at node → {out : List ℕ} {r : Run} {out' : List ℕ}
    → RanFrom (write_at there x out) there r out out' → RanFrom (write_at (placed_at at node) x out) at r out out'
from_there at node x e v = rw e at v
