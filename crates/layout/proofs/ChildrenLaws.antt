-- A value's heads in a row, with a property of each: each value that stands has it. So the rows of children, once all heads are looked at, have all.
use Prim.Native.Nat.{ℕ, zero, suc, ◌+◌, ◌<◌}
use mathlib.Core.Path.{◌≡◌, ap, sym, ◌∙◌, subst}
use mathlib.Core.Option.{Option, some, some-injective}
use native.Mathlib.Omega.{arith}
use Rattle.rules.specs.Records.{after}
use Rattle.layout.proofs.TreeLaws.{Chain, last, link, chain_after, chain_then}

-- the place after n things, and then m more; after one more
pub after_add : (size : ℕ → ℕ) (n m p : ℕ) → after size (n + m) p ≡ after size m (after size n p)
unfolding after
after_add size zero m p = let z : 0 + m ≡ m = omega arith in rw z
after_add size (suc n) m p = let z : suc n + m ≡ suc (n + m) = omega arith in rw (z, after) (after_add size n m (p + size p))

pub after_one : (size : ℕ → ℕ) (n p : ℕ) → after size (n + 1) p ≡ after size n p + size (after size n p)
unfolding after
after_one size n p = after_add size n 1 p

module _ (head_end : ℕ → Option ℕ) (size below : ℕ → ℕ) (Has : ℕ → Type 0) (e : ℕ) where
  -- the heads up to q were looked at, and each has it
  pub data Looked : ℕ → Type 0 where
    nothing : Looked 0
    another : {q r : ℕ} → Looked q → q < e → head_end q ≡ some r → Chain head_end size below (below q) r (q + size q) → Has q → Looked r

  -- and those from q on
  pub data Heads : ℕ → Type 0 where
    over : {q : ℕ} → q ≡ e → Heads q
    this : {q r : ℕ} → q < e → head_end q ≡ some r → Chain head_end size below (below q) r (q + size q) → Has q → Heads r → Heads q

  all_heads : {q : ℕ} → Looked q → Heads q → Heads 0
  all_heads nothing h = h
  all_heads (another d l n c x) h = all_heads d (this l n c x h)

  -- a head at w, and m things in a row from there to the end
  pub record HeadAt (w : ℕ) : Type 0 where
    pub heads : Heads w
    pub count : ℕ
    pub chain : Chain head_end size below count w e
    pub before : w < e

  -- each of m things in a row is such a head
  each_thing : {m q : ℕ} → Heads q → Chain head_end size below m q e → (j : ℕ) → j < m → HeadAt (after size j q)
  unfolding after
  each_thing (over r) (last s) j l = absurd (omega arith)
  each_thing (over r) (link g z c) j l = absurd (omega arith)
  each_thing (this i n k x h) (last s) j l = absurd (omega arith)
  each_thing (this {q} {r} i n k x h) (link g z c) zero l = record { heads = this i n k x h; count = _; chain = link g z c; before = i }
  each_thing (this {q = q} {r = r} i n k x h) (link {n = n'} g z c) (suc j) l =
      let a = each_thing {m = below q + n'} h (chain_then head_end size below k c) (below q + j) (omega arith) in
      let s : after size (below q + j) r ≡ after size j (q + size q) =
      after_add size (below q) j r ∙ ap (after size j) (chain_after head_end size below k) in
      subst HeadAt s a

  first_ends : {w : ℕ} → Heads w → w < e → (r : ℕ) × (head_end w ≡ some r)
  first_ends (over r) l = absurd (omega arith)
  first_ends (this {q} {r} i n c x h) l = (r, n)

  pub ends : {w : ℕ} → HeadAt w → (r : ℕ) × (head_end w ≡ some r)
  ends a = first_ends a.heads a.before

  -- so it has the property, and each of the things below it is such a head
  first_has : {w : ℕ} → Heads w → w < e → Has w
  first_has (over r) l = absurd (omega arith)
  first_has (this i n c x h) l = x

  pub has : {w : ℕ} → HeadAt w → Has w
  has a = first_has a.heads a.before

  below_first : {w m : ℕ} → Heads w → Chain head_end size below m w e → w < e → (r j : ℕ) → head_end w ≡ some r → j < below w → HeadAt (after size j r)
  below_first (over z) c l end j n i = absurd (omega arith)
  below_first (this i n k x h) (last s) l end j n' i' = absurd (omega arith)
  below_first (this {q} {r} i n k x h) (link g z c) l end j n' i' =
      subst (λ y. HeadAt (after size j y)) (some-injective r end (sym n ∙ n'))
      (each_thing h (chain_then head_end size below k c) j (omega arith))

  pub below_at_lem : {w : ℕ} → HeadAt w → (r j : ℕ) → head_end w ≡ some r → j < below w → HeadAt (after size j r)
  below_at_lem a r j n l = below_first a.heads a.chain a.before r j n l

  -- all heads were looked at, and the thing at 0 is all there is
  pub whole_at : {q : ℕ} → Looked q → q ≡ e → 0 < e → Chain head_end size below 1 0 e → HeadAt 0
  whole_at d r l c = record { heads = all_heads d (over r); count = 1; chain = c; before = l }

-- another property in its place, which each head before q has if it had the first
pub looked_keep : (head_end : ℕ → Option ℕ) (size below : ℕ → ℕ) → ((p q : ℕ) → head_end p ≡ some q → p < q) → (Has Gets : ℕ → Type 0) (e : ℕ) {q : ℕ}
    → Looked head_end size below Has e q → ((w : ℕ) → w < q → Has w → Gets w) → Looked head_end size below Gets e q
looked_keep head_end size below f Has Gets e nothing g = nothing
looked_keep head_end size below f Has Gets e (another {q} {r} d l n c x) g =
    another (looked_keep head_end size below f Has Gets e d (λ w i. g w (omega (arith, f q r n)))) l n c (g q (f q r n) x)
