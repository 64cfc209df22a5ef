-- The code's turns: over things by their sizes, and over heads; and what the code says of a head.
use Prim.Native.Nat.{ℕ, ◌+◌, ◌-◌, ◌≤◌, ◌<◌}
use mathlib.Core.Path.{◌≡◌, refl, ap, sym, ◌∙◌}
use mathlib.Core.List.{List}
use mathlib.Core.Bool.{Bool, true, false, ◌&&◌, false≢true}
use mathlib.Core.Option.{Option, none, some}
use native.Mathlib.Omega.{arith}
use borrow.Author.Tests.{eqb-true, eqb-false, eq-eqb, ne_eqb, lt-ltb}
use lib.Dec.{eqb, ltb}
use Rattle.rules.specs.Faults.{on_found, only_if}
use Rattle.rules.specs.Records.{record_count, field_b, units, padding_of, zeros}
use Rattle.rules.specs.Value.{value_size}
use Rattle.rules.specs.Layout.{then_read, text_end}
use Rattle.layout.specs.declared.tree.Head.{Head}
use Rattle.std.specs.Prelude.{Some, None}
use Rattle.std.specs.Prelude as code
use Rattle.stream.specs.declared.record.Place.{Place}
use Rattle.stream.specs.Record.{place_of}
use Rattle.laws.specs.Reads.{few_records}
use Rattle.layout.specs.Common.{most_records}
use Rattle.layout.specs.Tree.{SizedBefore, Chains, Thing, chain, scan, text_head, head_end, below, fills, Headed}
use Rattle.layout.proofs.TreeLaws.{fills_scan, scan_step, scan_long, scan_no_head, scan_no_chain, scan_end}
use Rattle.laws.specs.Rows.{one_less}
use Rattle.layout.proofs.TreeThings.{thing_is, head_grows}

-- Things by their sizes: k of n are passed

module _ (size : ℕ → ℕ) (n k q e : ℕ) where
  pub chain_done : n ≤ k → chain size (n - k) q e ≡ eqb q e
  unfolding chain
  chain_done l = let z : n - k ≡ 0 = omega arith in rw z

  module _ (l : k < n) where
    pub chain_stop : (ltb q e && ltb 0 (size q)) ≡ false → chain size (n - k) q e ≡ false
    unfolding chain
    chain_stop z = rw (one_less n k l, chain) (stops (ltb q e) (ltb 0 (size q)) _ z)
      where
        stops : (a b c : Bool) → (a && b) ≡ false → a && (b && c) ≡ false
        stops true true c z = absurd (false≢true (sym z))
        stops true false c z = refl
        stops false b c z = refl

    pub chain_go : q < e → (m : ℕ) → m ≡ size q → 1 ≤ m → chain size (n - k) q e ≡ chain size (n - (k + 1)) (q + m) e
    unfolding chain
    chain_go g m z i = rw (one_less n k l, chain, lt-ltb q e g, lt-ltb 0 (size q) (omega arith), z)

-- What the code says of the size of a thing

module _ {s : List ℕ} {q e m : ℕ} {at : Place} (c : Chains s q at e) (h : SizedBefore s q e m) where
  pub chains_near : q < most_records
  chains_near = let a = few_records s c.within.sized in omega (arith, h.before, c.within.inside)

  pub chains_on : {next : Place} → next ≡ place_of (q + m) → Chains s (q + m) next e
  chains_on is = record { place_is = is; within = record { sized = c.within.sized; near = omega (arith, chains_near, h.small); inside = c.within.inside } }

-- What the code says of a head

pub wrong : (p : ℕ) (end : Option ℕ) (n : ℕ) → end ≡ none → Headed p None end n
wrong p end n e = record { end_is = sym e; below_is = refl }

pub right : (p : ℕ) (end : Option ℕ) (own n m : ℕ) → end ≡ some (p + own) → n ≡ m → Headed p (Some (record { own = own; below = n })) end m
right p end own n m e z = record { end_is = sym e; below_is = z }

pub as_head : {p : ℕ} {h : code.Option Head} {end other : Option ℕ} {n m : ℕ} → other ≡ end → m ≡ n → Headed p h end n → Headed p h other m
as_head e z is = record { end_is = is.end_is ∙ sym e; below_is = rw z is.below_is }

module _ (p : ℕ) (h : code.Option Head) (end : Option ℕ) (n : ℕ) (is : Headed p h end n) where
  pub head_wrong : h ≡ None → end ≡ none
  head_wrong e = sym (rw e at is.end_is)

  pub head_right : (x : Head) → h ≡ Some x → (end ≡ some (p + x.own)) × (x.below ≡ n)
  head_right x e = (sym (rw e at is.end_is), rw e at is.below_is)

-- a head with a text
not_closed : (c : Bool) (x z : ℕ) → eqb z x ≡ false → then_read (only_if c x) (λ q. only_if (eqb z q) q) ≡ none
unfolding then_read on_found only_if
not_closed true x z e = rw e
not_closed false x z e = refl

module _ (s : List ℕ) (p b size n : ℕ) (eb : b ≡ field_b s p) (es : size ≡ value_size s p) (en : n ≡ units b) where
  text_end_lem : (z : Bool) → z ≡ zeros (padding_of s b p) → text_end s (field_b s p) p ≡ only_if z (p + 1 + n)
  unfolding text_end
  text_end_lem z e = rw (e, en, eb)

  pub text_size : (size ≡ 1 + n → ⊥) → text_head s p ≡ none
  unfolding text_head
  text_size l =
      rw (text_end_lem (zeros (padding_of s b p)) refl)
      (not_closed (zeros (padding_of s b p)) (p + 1 + n) (p + value_size s p) (ne_eqb _ _ (λ (e : p + value_size s p ≡ p + 1 + n). l (omega arith))))

  pub text_unpadded : false ≡ zeros (padding_of s b p) → text_head s p ≡ none
  unfolding text_head then_read on_found only_if
  text_unpadded z = rw (text_end_lem false z)

  pub text_right : size ≡ 1 + n → true ≡ zeros (padding_of s b p) → text_head s p ≡ some (p + size)
  unfolding text_head then_read on_found only_if
  text_right l z =
      let e : p + 1 + n ≡ p + size = omega arith in
      rw (text_end_lem true z, e, es) (rw (eq-eqb (p + value_size s p) (p + value_size s p) refl))

-- What a test of the place after a thing says

pub found_true : (o : Option ℕ) (e : ℕ) → on_found o false (λ q. eqb q e) ≡ true → o ≡ some e
unfolding on_found
found_true none e t = absurd (let z : ◌≡◌ {A = ℕ} 0 1 = cc in omega arith)
found_true (some q) e t = ap some (eqb-true q e t)

pub found_false : (o : Option ℕ) (e q : ℕ) → on_found o false (λ q. eqb q e) ≡ false → o ≡ some q → q ≡ e → ⊥
unfolding on_found
found_false o e q t i = eqb-false q e (rw i at t)

-- One thing, from its size and a scan

module _ (thing : Thing) (s : List ℕ) where
  -- the heads from q to e
  unfoldable pub rest : ℕ → ℕ → Bool
  rest q e = scan (head_end thing s) (value_size s) (below thing s) (e - q) q e

  fills_is : (p e : ℕ) → e ≤ record_count s → fills thing s p e ≡ chain (value_size s) 1 p e && rest p e
  unfolding fills rest
  fills_is p e l =
      rw (thing_is thing s (record_count s) p) (fills_scan (head_end thing s) (value_size s) (below thing s) (head_grows thing s) (record_count s) p e (omega arith))

  pub one_start : (p e : ℕ) → e ≤ record_count s → chain (value_size s) 1 p e ≡ true → rest p e ≡ fills thing s p e
  one_start p e l c = sym (fills_is p e l ∙ rw c)

  pub one_not : (p e : ℕ) → e ≤ record_count s → chain (value_size s) 1 p e ≡ false → false ≡ fills thing s p e
  one_not p e l c = sym (fills_is p e l ∙ rw c)

  pub one_end : (q e : ℕ) → e ≤ q → rest q e ≡ eqb q e
  unfolding rest
  one_end q e l = scan_end (head_end thing s) (value_size s) (below thing s) (head_grows thing s) q e l

  pub turn_long : (q e size : ℕ) → q < e → size ≡ value_size s q → e < q + size → rest q e ≡ false
  unfolding rest
  turn_long q e size l z i = scan_long (head_end thing s) (value_size s) (below thing s) (head_grows thing s) q e l (omega arith)

-- what the code has of the head at q, before e, when it has looked at it
pub record Turn (thing : Thing) (s : List ℕ) (q e size : ℕ) (h : code.Option Head) : Type 0 where
  pub before : q < e
  pub sized : size ≡ value_size s q
  pub fits : q + size ≤ e
  pub head : Headed q h (head_end thing s q) (below thing s q)

module _ {thing : Thing} {s : List ℕ} {q e size : ℕ} {h : code.Option Head} (t : Turn thing s q e size h) where
  ends : q + value_size s q ≤ e
  ends = let a = t.fits in let b = t.sized in omega arith

  pub turn_wrong : h ≡ None → rest thing s q e ≡ false
  unfolding rest
  turn_wrong w = scan_no_head (head_end thing s) (value_size s) (below thing s) (head_grows thing s) q e t.before ends (head_wrong q h _ _ t.head w)

  pub turn_right : (x : Head) → h ≡ Some x → (head_end thing s q ≡ some (q + x.own)) × (x.below ≡ below thing s q)
  turn_right x w = head_right q h _ _ t.head x w

  pub own_some : (x : Head) → h ≡ Some x → q < q + x.own
  own_some x w = head_grows thing s q (q + x.own) (turn_right x w).0

  module _ (x : Head) (w : h ≡ Some x) {b : Bool} (c : b ≡ chain (value_size s) x.below (q + x.own) (q + size)) where
    chain_is : b ≡ chain (value_size s) (below thing s q) (q + x.own) (q + value_size s q)
    chain_is = c ∙ rw (t.sized, (turn_right x w).1)

    pub turn_stop : b ≡ false → rest thing s q e ≡ false
    unfolding rest
    turn_stop f =
        scan_no_chain (head_end thing s) (value_size s) (below thing s) (head_grows thing s) q (q + x.own) e t.before ends (turn_right x w).0 (sym chain_is ∙ f)

    pub turn_go : b ≡ true → rest thing s q e ≡ rest thing s (q + x.own) e
    unfolding rest
    turn_go f =
        scan_step (head_end thing s) (value_size s) (below thing s) (head_grows thing s) q (q + x.own) e t.before ends (turn_right x w).0 (sym chain_is ∙ f)
