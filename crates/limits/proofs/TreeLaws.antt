-- Trees of values and of template nodes, one level at a time, in the code's terms.
use Prim.Native.Nat.{ℕ, ◌+◌, ◌-◌, ◌≤◌, ◌<◌}
use mathlib.Core.Path.{◌≡◌, refl, sym, ap, ◌∙◌}
use mathlib.Core.List.{List, [], ◌∷◌, map}
use mathlib.Core.Bool.{Bool, true, false}
use mathlib.Core.Option.{Option, none, some}
use borrow.Author.Tests.{le-leb, lt-leb}
use Rattle.rules.specs.Faults.{both, every, tree, at}
use Rattle.rules.specs.Records.{field_b, field_c, heads}
use Rattle.rules.specs.Value.{value_size, values_below}
use Rattle.rules.specs.Templates.{form_of, nodes_below}
use Rattle.rules.specs.Limits.{Looped, looped, loops_below, looped_below, few_loops}
use Rattle.rules.specs.Names.{form_named, node_named}
use Rattle.rules.specs.declared.Form.{Form}
use Rattle.laws.specs.Faults.{tree_right, tree_wrong, tree_deep, at_both}
use Rattle.laws.specs.Rows.{every_none}
use Rattle.limits.specs.Rows.{values_within, node_within, nodes_within, nodes_named}

-- a value: all depends on the row of values below it, or none is below it
module _ (v : List ℕ) (left w : ℕ) (more : 0 < left) (count : ℕ) (hr : heads (value_size v) count (w + 1) ≡ values_below v w) where
  pub value_below : tree (λ x. true) (values_below v) left w ≡ values_within v (left - 1) count (w + 1)
  unfolding values_within
  value_below = tree_right _ _ left w more refl ∙ rw hr

  pub value_leaf : count ≡ 0 → tree (λ x. true) (values_below v) left w ≡ none
  unfolding values_within
  value_leaf e = value_below ∙ sym (every_none _ _ count (w + 1) e)

-- the place of what offends among nodes with the same loops around them
every_at : (f : Looped → Option Looped) (loops : ℕ) (ps : List ℕ)
    → at (λ x. x.node) (every f (map (looped loops) ps)) ≡ every (λ q. at (λ x. x.node) (f (looped loops q))) ps
unfolding every at
every_at f loops [] = refl
every_at f loops (p ∷ ps) = at_both _ _ _ ∙ ap (both _) (every_at f loops ps)

-- a node with so many loops around it: it is too deep, the loops are too many, all depends on the row below it, or none is below it
module _ (t : List ℕ) (left loops q : ℕ) where
  pub node_deep : left ≡ 0 → node_within t left loops q ≡ some q
  unfolding node_within at looped
  node_deep e = ap (at (λ x. x.node)) (tree_deep few_loops (looped_below t) left (looped loops q) e)

  pub node_many : 0 < left → 16 < loops → node_within t left loops q ≡ some q
  unfolding node_within at looped few_loops
  node_many h l = ap (at (λ x. x.node)) (tree_wrong few_loops (looped_below t) left (looped loops q) h (lt-leb loops 16 l))

  pub node_below : 0 < left → loops ≤ 16 → (form : Form) (inside count from : ℕ) → form ≡ form_of t q → inside ≡ loops_below form loops
      → heads (field_c t) count from ≡ nodes_below t q → node_within t left loops q ≡ nodes_within t (left - 1) inside count from
  unfolding node_within nodes_within looped looped_below few_loops
  node_below h l _ inside count from hf hi hr =
      ap (at (λ x. x.node)) (tree_right few_loops (looped_below t) left (looped loops q) h (le-leb loops 16 l))
      ∙ every_at (tree few_loops (looped_below t) (left - 1)) (loops_below (form_of t q) loops) (nodes_below t q) ∙ rw (hi, hf, hr)

  pub node_leaf : 0 < left → loops ≤ 16 → (count from : ℕ) → heads (field_c t) count from ≡ nodes_below t q → count ≡ 0
      → node_within t left loops q ≡ none
  unfolding nodes_within
  node_leaf h l count from hr e = node_below h l _ _ count from refl refl hr ∙ sym (every_none _ _ count from e)

-- a node whose form names number b: no such thing is there, all depends on the row below it, or none is below it
module _ (g t : List ℕ) (left q : ℕ) (more : 0 < left) (named : Bool) (form : Form) (b : ℕ) (hf : form ≡ form_of t q) (hb : b ≡ field_b t q)
    (hn : named ≡ form_named g t form b) where
  named_is : node_named g t q ≡ named
  unfolding node_named
  named_is = rw (← hf, ← hb) (sym hn)

  pub named_wrong : named ≡ false → tree (node_named g t) (nodes_below t) left q ≡ some q
  named_wrong e = tree_wrong _ _ left q more (named_is ∙ e)

  pub named_below : named ≡ true → (count from : ℕ) → heads (field_c t) count from ≡ nodes_below t q
      → tree (node_named g t) (nodes_below t) left q ≡ nodes_named g t (left - 1) count from
  unfolding nodes_named
  named_below e count from hr = tree_right _ _ left q more (named_is ∙ e) ∙ rw hr

  pub named_leaf : named ≡ true → (count from : ℕ) → heads (field_c t) count from ≡ nodes_below t q → count ≡ 0
      → tree (node_named g t) (nodes_below t) left q ≡ none
  unfolding nodes_named
  named_leaf e count from hr z = named_below e count from hr ∙ sym (every_none _ _ count from z)
