-- Laws of refusal 4 below a node: that no frame has more than 24 variables. Assumes nothing.
use Prim.Native.Nat.{ℕ, ◌+◌, ◌-◌, ◌≤◌, ◌<◌}
use mathlib.Core.Path.{◌≡◌, refl, sym, ◌∙◌}
use mathlib.Core.List.{List, map}
use mathlib.Core.Option.{none}
use native.Mathlib.Omega.{arith}
use native.Mathlib.Nat.{sub-zero}
use borrow.Author.Tests.{leb-true}
use Rattle.rules.specs.Faults.{every, tree}
use Rattle.rules.specs.Records.{field_c, heads}
use Rattle.rules.specs.Templates.{form_of, nodes_below}
use Rattle.rules.specs.Limits.{looped, looped_below, few_loops}
use Rattle.laws.specs.Faults.{both_none, itself, tree_in, tree_right}
use Rattle.laws.specs.Rows.{heads_more}
use Rattle.typing.specs.Answers.{site_of, brings_of, brought, Suited}
use Rattle.typing.specs.Asks.{RoomBelow, FrameReady, RowLimits, RowReady}
use Rattle.typing.specs.declared.Below.{Below}
use Rattle.typing.specs.declared.Frame.{Frame}

-- a node that meets no limit: its own loops, and what stands below it
limits_here : (t : List ℕ) (k loops p : ℕ) → tree few_loops (looped_below t) k (looped loops p) ≡ none
    → (loops ≤ 16) × (every (tree few_loops (looped_below t) (k - 1)) (looped_below t (looped loops p)) ≡ none)
unfolding few_loops looped
limits_here t k loops p e =
    let w = tree_in few_loops (looped_below t) k e (itself (looped loops p)) in
    (leb-true _ _ w.1, sym (tree_right few_loops (looped_below t) k (looped loops p) w.0 w.1) ∙ e)

-- what is left of a row of nodes meets no limit

pub limits_start : {left : ℕ} {t : List ℕ} {count n at : ℕ} → RowLimits left t count n at → RowLimits left t count (n - 0) at
limits_start {n} R = record { loops = R.loops; few = R.few; limits = rw (sub-zero n) R.limits }

module _ {t : List ℕ} {left count d i at : ℕ} (more : i < d) (R : RowLimits left t count (d - i) at) where
  row_limits : (tree few_loops (looped_below t) left (looped R.loops at) ≡ none)
      × (every (tree few_loops (looped_below t) left) (map (looped R.loops) (heads (field_c t) (d - (i + 1)) (at + field_c t at))) ≡ none)
  unfolding every
  row_limits = both_none _ _ (rw (heads_more (field_c t) d i at more (field_c t at) refl) at R.limits)

  pub row_ready : {f : Frame} → f.node ≡ at → f.count ≡ count → RoomBelow left at → FrameReady left t f
  row_ready n e h = record { near = rw n h; loops = R.loops; few = omega (arith, R.few, e); limits = rw n row_limits.0 }

  pub row_next : (c : ℕ) → c ≡ field_c t at → RowLimits left t count (d - (i + 1)) (at + c)
  row_next c e = record { loops = R.loops; few = R.few; limits = rw e row_limits.1 }

  -- a row with a node in it: there is room for its variables
  pub row_room : count ≤ 24
  row_room = omega (arith, R.few, (limits_here t left R.loops at row_limits.0).0)

module _ {t : List ℕ} {left : ℕ} {f : Frame} (deep : left ≡ 0 → ⊥) (R : FrameReady left t f) where
  own_limits : (R.loops ≤ 16) × (every (tree few_loops (looped_below t) (left - 1)) (looped_below t (looped R.loops f.node)) ≡ none)
  own_limits = limits_here t left R.loops f.node R.limits

  pub ready_few : f.count ≤ 24
  ready_few = omega (arith, own_limits.0, R.few)

  module _ (g asked scope : List ℕ) {b : Below} (s : Suited g t asked (site_of scope f) (form_of t f.node) b) where
    below_limits : RowLimits (left - 1) t (f.count + brought (brings_of b.positions)) b.count b.first
    unfolding looped_below nodes_below looped
    below_limits = record {
      loops = R.loops + brought (brings_of b.positions);
      few = omega (arith, R.few);
      limits = rw (← s.nodes_are, ← s.loops_are R.loops) own_limits.1;
    }

    pub below_ready : RowReady (left - 1) t b f.count
    below_ready = record {
      near = omega (arith, deep, R.near, s.near, s.few);
      many = s.few;
      inside = s.inside;
      limits = below_limits;
    }
